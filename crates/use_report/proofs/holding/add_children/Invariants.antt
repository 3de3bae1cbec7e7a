use Rattle.std.proofs.Common.{◌≡◌, ℕ, take}
use Rattle.bt_cursor.specs.declared.step.Step.{Step}
use Rattle.use_report.specs.Counted.{Grows}
use Rattle.use_report.proofs.Adding.{IsOfOne}
use Rattle.use_report.proofs.holding.add_children.Given as goal

abbrev pub invariant-each : goal.invariant-each
invariant-each l = Grows l.fn.held l.held (IsOfOne (λ (step : Step) (block : ℕ). block ≡ step.child) (take l.step-index l.steps))
