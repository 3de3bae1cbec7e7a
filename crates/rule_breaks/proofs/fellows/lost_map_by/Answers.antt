use Rattle.std.proofs.Common.{◌∙◌, ap}
use Rattle.view_rules.specs.Facts.{Facts}
use Rattle.view_rules.specs.Siblings.{is_map_lost}
use Rattle.rule_breaks.proofs.Finds.{found_item, next_item}
use Rattle.rule_breaks.proofs.fellows.lost_map_by.Goals as goal

pub returns-then-is_map_lost : goal.returns-then-is_map_lost
returns-then-is_map_lost c =
    found_item (is_map_lost c.args.facts.now) c.args.facts.now.siblings c.deref-m-items.result.now c.loop-m.m-index c.m-item.result c.is_map_lost.result
    (c.deref-m-items.ensures.value ∙ ap (λ (f : Facts). f.siblings) c.facts.view_is) c.loop-m-test.true c.m-item.is c.loop-m.invariant c.is_map_lost.ensures c.if-is_map_lost.true

pub loop-m-preserved : goal.loop-m-preserved
loop-m-preserved c =
    next_item (is_map_lost c.args.facts.now) c.args.facts.now.siblings c.deref-m-items.result.now c.loop-m.m-index c.m-item.result c.is_map_lost.result
    (c.deref-m-items.ensures.value ∙ ap (λ (f : Facts). f.siblings) c.facts.view_is) c.loop-m-test.true c.m-item.is c.loop-m.invariant c.is_map_lost.ensures c.if-is_map_lost.false
