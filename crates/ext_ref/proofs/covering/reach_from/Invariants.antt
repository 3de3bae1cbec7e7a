use Rattle.std.proofs.Common.{take}
use Rattle.ext_ref.specs.Reach.{Reaches}
use Rattle.ext_ref.proofs.covering.reach_from.Given as goal

abbrev pub invariant-loop-range : goal.invariant-loop-range
invariant-loop-range l = Reaches l.ranges (take l.range-index l.ranges) l.block l.far
