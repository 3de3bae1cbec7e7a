use Rattle.std.proofs.Common.{◌≡◌, ◌++◌, map}
use Rattle.std.specs.List.{range_with_len}
use Rattle.reach_gather.specs.Infos.{known_cab}
use Rattle.reach_gather.specs.Steps.{block_owner}
use Rattle.reach_gather.proofs.infos.note_cabs.Given as goal

abbrev pub invariant-loop-i : goal.invariant-loop-i
invariant-loop-i l = record {
  namings : l.out.namings ≡ l.fn.out.namings ++ map (known_cab l.oid l.space) (range_with_len 0 l.i);
  owners : l.out.owners ≡ l.fn.out.owners;
  pool_owners : l.out.pool_owners ≡ l.fn.out.pool_owners ++ map block_owner (map (known_cab l.oid l.space) (range_with_len 0 l.i));
}
