use Rattle.std.proofs.Common.{◌≡◌, ◌++◌, map}
use Rattle.std.specs.List.{range_with_len}
use Rattle.reach_gather.specs.Chain.{reap_at}
use Rattle.reach_gather.proofs.reaping.note_links.Given as goal

abbrev pub invariant-loop-i : goal.invariant-loop-i
invariant-loop-i l = record {
  namings : l.out.namings ≡ l.fn.out.namings ++ map (reap_at l.ids) (range_with_len 0 l.i);
  owners : l.out.owners ≡ l.fn.out.owners;
  pool_owners : l.out.pool_owners ≡ l.fn.out.pool_owners;
}
