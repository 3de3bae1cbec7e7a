use Rattle.std.proofs.Common.{◌∙◌, ap}
use Rattle.view_rules.specs.Facts.{Facts}
use Rattle.view_rules.specs.Names.{is_attribute_repeated}
use Rattle.rule_breaks.proofs.Finds.{found_item, next_item}
use Rattle.rule_breaks.proofs.repeats.attribute_counted_twice.Goals as goal

pub returns-then-is_attribute_repeated : goal.returns-then-is_attribute_repeated
returns-then-is_attribute_repeated c =
    found_item (is_attribute_repeated c.args.facts.now) c.args.facts.now.attributes c.deref-a-items.result.now c.loop-a.a-index c.a-item.result c.is_attribute_repeated.result
    (c.deref-a-items.ensures.value ∙ ap (λ (f : Facts). f.attributes) c.facts.view_is) c.loop-a-test.true c.a-item.is c.loop-a.invariant c.is_attribute_repeated.ensures c.if-is_attribute_repeated.true

pub loop-a-preserved : goal.loop-a-preserved
loop-a-preserved c =
    next_item (is_attribute_repeated c.args.facts.now) c.args.facts.now.attributes c.deref-a-items.result.now c.loop-a.a-index c.a-item.result c.is_attribute_repeated.result
    (c.deref-a-items.ensures.value ∙ ap (λ (f : Facts). f.attributes) c.facts.view_is) c.loop-a-test.true c.a-item.is c.loop-a.invariant c.is_attribute_repeated.ensures c.if-is_attribute_repeated.false
