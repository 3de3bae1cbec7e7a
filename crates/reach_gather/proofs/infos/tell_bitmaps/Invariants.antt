use Rattle.std.proofs.Common.{◌≡◌, ◌++◌, take}
use Rattle.reach_gather.specs.Infos.{bitmaps_from}
use Rattle.reach_gather.proofs.infos.tell_bitmaps.Given as goal

abbrev pub invariant-loop-i : goal.invariant-loop-i
invariant-loop-i l = record {
  namings : l.out.namings ≡ l.fn.out.namings;
  owners : l.out.owners ≡ l.fn.out.owners;
  pool_owners : l.out.pool_owners ≡ l.fn.out.pool_owners ++ bitmaps_from 0 (take l.i l.space.chunks);
}
