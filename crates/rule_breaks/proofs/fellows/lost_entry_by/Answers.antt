use Rattle.std.proofs.Common.{◌∙◌, ap}
use Rattle.view_rules.specs.Facts.{Facts}
use Rattle.view_rules.specs.Siblings.{is_entry_lost}
use Rattle.rule_breaks.proofs.Finds.{found_item, next_item}
use Rattle.rule_breaks.proofs.fellows.lost_entry_by.Goals as goal

pub returns-then-is_entry_lost : goal.returns-then-is_entry_lost
returns-then-is_entry_lost c =
    found_item (is_entry_lost c.args.facts.now) c.args.facts.now.entries c.deref-e-items.result.now c.loop-e.e-index c.e-item.result c.is_entry_lost.result
    (c.deref-e-items.ensures.value ∙ ap (λ (f : Facts). f.entries) c.facts.view_is) c.loop-e-test.true c.e-item.is c.loop-e.invariant c.is_entry_lost.ensures c.if-is_entry_lost.true

pub loop-e-preserved : goal.loop-e-preserved
loop-e-preserved c =
    next_item (is_entry_lost c.args.facts.now) c.args.facts.now.entries c.deref-e-items.result.now c.loop-e.e-index c.e-item.result c.is_entry_lost.result
    (c.deref-e-items.ensures.value ∙ ap (λ (f : Facts). f.entries) c.facts.view_is) c.loop-e-test.true c.e-item.is c.loop-e.invariant c.is_entry_lost.ensures c.if-is_entry_lost.false
