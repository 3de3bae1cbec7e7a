use Rattle.view_sweep.proofs.Placed.{ArePlacedBy, view_among}
use Rattle.sweep_cases.proofs.tests.views.eight.Given as goal

abbrev pub invariant-loop-place : goal.invariant-loop-place
invariant-loop-place l = ArePlacedBy (view_among l.volumes) l.heads.items
