use Rattle.std.proofs.Common.{take}
use Rattle.view_sweep.specs.Unused.{AreAllUsed}
use Rattle.view_sweep.proofs.idle.all_used.Given as goal

abbrev pub invariant-loop-of : goal.invariant-loop-of
invariant-loop-of l = AreAllUsed (take l.of-index l.maps) l.sorted
