use Rattle.std.proofs.Common.{◌≡◌, ℕ, get_or}
use Rattle.bt_cursor.specs.declared.step.Step.{Step}
use Rattle.use_report.proofs.Adding.{grows-one, grows-next, grows-last, grows-mapped}
use Rattle.use_report.proofs.holding.add_children.Goals as goal

no_step : Step
no_step = record { node = 0; at = 0; level = 0; child = 0 }

-- a block is the child of a step
abbrev IsChild : Step → ℕ → Type 0
IsChild step block = block ≡ step.child

pub each-preserved : goal.each-preserved
unfolding no_step
each-preserved c =
    let xs = c.args.steps.now in
    let i = c.each.step-index in
    grows-next IsChild xs i no_step c.args.held.now c.each.held c.add.new.self c.each-test.true c.each.invariant (grows-one c.each.held c.add.new.self (get_or xs i no_step).child c.in_ok-add.ensures)

pub returns : goal.returns
returns c = grows-mapped (λ (step : Step). step.child) c.args.steps.now c.args.held.now c.each.held (grows-last IsChild c.args.steps.now c.each.step-index c.args.held.now c.each.held c.each-test.false c.each.invariant)
