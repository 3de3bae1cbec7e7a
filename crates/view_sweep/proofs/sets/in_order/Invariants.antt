use Rattle.view_sweep.proofs.Stretches.{AreInOrder}
use Rattle.view_sweep.proofs.sets.in_order.Given as goal

abbrev pub invariant-loop-place : goal.invariant-loop-place
invariant-loop-place l = AreInOrder l.views l.place
