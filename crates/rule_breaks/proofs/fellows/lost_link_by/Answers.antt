use Rattle.std.proofs.Common.{◌∙◌, ap}
use Rattle.view_rules.specs.Facts.{Facts}
use Rattle.view_rules.specs.Siblings.{is_link_lost}
use Rattle.rule_breaks.proofs.Finds.{found_item, next_item}
use Rattle.rule_breaks.proofs.fellows.lost_link_by.Goals as goal

pub returns-then-is_link_lost : goal.returns-then-is_link_lost
returns-then-is_link_lost c =
    found_item (is_link_lost c.args.facts.now) c.args.facts.now.links c.deref-l-items.result.now c.loop-l.l-index c.l-item.result c.is_link_lost.result
    (c.deref-l-items.ensures.value ∙ ap (λ (f : Facts). f.links) c.facts.view_is) c.loop-l-test.true c.l-item.is c.loop-l.invariant c.is_link_lost.ensures c.if-is_link_lost.true

pub loop-l-preserved : goal.loop-l-preserved
loop-l-preserved c =
    next_item (is_link_lost c.args.facts.now) c.args.facts.now.links c.deref-l-items.result.now c.loop-l.l-index c.l-item.result c.is_link_lost.result
    (c.deref-l-items.ensures.value ∙ ap (λ (f : Facts). f.links) c.facts.view_is) c.loop-l-test.true c.l-item.is c.loop-l.invariant c.is_link_lost.ensures c.if-is_link_lost.false
