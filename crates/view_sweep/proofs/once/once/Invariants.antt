use Rattle.view_sweep.specs.Asked.{IsRun}
use Rattle.view_sweep.proofs.once.once.Given as goal

abbrev pub invariant-loop-i : goal.invariant-loop-i
invariant-loop-i l = IsRun l.views l.sets l.asked l.seen.items l.from l.i
