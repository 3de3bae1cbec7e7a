use Rattle.std.proofs.Common.{◌∙◌, ap}
use Rattle.view_rules.specs.Facts.{Facts}
use Rattle.rule_breaks.specs.ByEntry.{is_broken}
use Rattle.rule_breaks.proofs.Finds.{found_item, next_item, all_clear}
use Rattle.rule_breaks.proofs.Shown.{entry}
use Rattle.rule_breaks.proofs.faults.entries.EntryRule.first.Goals as goal

pub returns-then-is_broken : goal.returns-then-is_broken
returns-then-is_broken c =
    entry c.args.asked.now c.args.index.now.facts.now c.args.self.now c.e-item.result c.id.result c.name.result.now c.in_ok-at.at c.fault.result
    (found_item (is_broken c.args.index.now.facts.now c.args.self.now) c.args.index.now.facts.now.entries c.deref-e-items.result.now c.loop-e.e-index c.e-item.result c.is_broken.result
    (c.deref-e-items.ensures.value ∙ ap (λ (f : Facts). f.entries) c.facts.view_is) c.loop-e-test.true c.e-item.is c.loop-e.invariant c.is_broken.ensures c.if-is_broken.true)
    c.id.ensures c.name.ensures c.in_ok-at.ensures c.fault.ensures

pub loop-e-preserved : goal.loop-e-preserved
loop-e-preserved c =
    next_item (is_broken c.args.index.now.facts.now c.args.self.now) c.args.index.now.facts.now.entries c.deref-e-items.result.now c.loop-e.e-index c.e-item.result c.is_broken.result
    (c.deref-e-items.ensures.value ∙ ap (λ (f : Facts). f.entries) c.facts.view_is) c.loop-e-test.true c.e-item.is c.loop-e.invariant c.is_broken.ensures c.if-is_broken.false

pub returns : goal.returns
returns c =
    all_clear (is_broken c.args.index.now.facts.now c.args.self.now) c.args.index.now.facts.now.entries c.deref-e-items.result.now c.loop-e.e-index (c.deref-e-items.ensures.value ∙ ap (λ (f : Facts). f.entries) c.facts.view_is) c.loop-e-test.false c.loop-e.invariant
