use Rattle.std.proofs.Common.{◌∙◌, ap}
use Rattle.view_rules.specs.Facts.{Facts}
use Rattle.view_rules.specs.Names.{is_entry_repeated}
use Rattle.rule_breaks.proofs.Finds.{found_item, next_item}
use Rattle.rule_breaks.proofs.repeats.entry_counted_twice.Goals as goal

pub returns-then-is_entry_repeated : goal.returns-then-is_entry_repeated
returns-then-is_entry_repeated c =
    found_item (is_entry_repeated c.args.facts.now) c.args.facts.now.entries c.deref-e-items.result.now c.loop-e.e-index c.e-item.result c.is_entry_repeated.result
    (c.deref-e-items.ensures.value ∙ ap (λ (f : Facts). f.entries) c.facts.view_is) c.loop-e-test.true c.e-item.is c.loop-e.invariant c.is_entry_repeated.ensures c.if-is_entry_repeated.true

pub loop-e-preserved : goal.loop-e-preserved
loop-e-preserved c =
    next_item (is_entry_repeated c.args.facts.now) c.args.facts.now.entries c.deref-e-items.result.now c.loop-e.e-index c.e-item.result c.is_entry_repeated.result
    (c.deref-e-items.ensures.value ∙ ap (λ (f : Facts). f.entries) c.facts.view_is) c.loop-e-test.true c.e-item.is c.loop-e.invariant c.is_entry_repeated.ensures c.if-is_entry_repeated.false
