use Rattle.std.proofs.Common.{take}
use Rattle.view_sweep.specs.Runs.{AreApart}
use Rattle.view_sweep.proofs.runs.shared.Given as goal

abbrev pub invariant-loop-other : goal.invariant-loop-other
invariant-loop-other l = AreApart l.runs (take l.other-index l.others)
