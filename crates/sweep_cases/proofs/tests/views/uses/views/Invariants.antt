use Rattle.std.proofs.Common.{ℕ, true, ◌==◌, if◌then◌else◌}
use Rattle.view_sweep.specs.declared.wanted.SweptView.{SweptView}
use Rattle.view_sweep.proofs.Placed.{ArePlacedBy}
use Rattle.sweep_cases.proofs.tests.views.uses.views.Given as goal

-- the view at a place
abbrev pub view_by : ℕ → SweptView
view_by place = record { slot = 0; place = place; xid = if place == 0 then 5 else if place == 1 then 2 else 4; map = 52; hashed = true; volume = 0 }

abbrev pub invariant-loop-place : goal.invariant-loop-place
invariant-loop-place l = ArePlacedBy view_by l.heads.items
