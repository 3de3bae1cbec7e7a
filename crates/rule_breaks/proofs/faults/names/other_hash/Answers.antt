use Rattle.std.proofs.Common.{◌∙◌, ap}
use Rattle.view_rules.specs.Facts.{Facts}
use Rattle.view_rules.specs.Names.{has_other_ascii_hash}
use Rattle.rule_breaks.proofs.Finds.{found_item, next_item, all_clear}
use Rattle.rule_breaks.proofs.Shown.{other_hash}
use Rattle.rule_breaks.proofs.faults.names.other_hash.Goals as goal

pub returns-then-has_other_ascii_hash : goal.returns-then-has_other_ascii_hash
returns-then-has_other_ascii_hash c =
    other_hash c.args.asked.now c.args.facts.now c.e-item.result c.id.result c.name.result.now c.in_ok-at.at
    (found_item (has_other_ascii_hash c.args.facts.now) c.args.facts.now.entries c.deref-e-items.result.now c.loop-e.e-index c.e-item.result c.has_other_ascii_hash.result
    (c.deref-e-items.ensures.value ∙ ap (λ (f : Facts). f.entries) c.facts.view_is) c.loop-e-test.true c.e-item.is c.loop-e.invariant c.has_other_ascii_hash.ensures c.if-has_other_ascii_hash.true)
    c.id.ensures c.name.ensures c.in_ok-at.ensures

pub loop-e-preserved : goal.loop-e-preserved
loop-e-preserved c =
    next_item (has_other_ascii_hash c.args.facts.now) c.args.facts.now.entries c.deref-e-items.result.now c.loop-e.e-index c.e-item.result c.has_other_ascii_hash.result
    (c.deref-e-items.ensures.value ∙ ap (λ (f : Facts). f.entries) c.facts.view_is) c.loop-e-test.true c.e-item.is c.loop-e.invariant c.has_other_ascii_hash.ensures c.if-has_other_ascii_hash.false

pub returns : goal.returns
returns c =
    all_clear (has_other_ascii_hash c.args.facts.now) c.args.facts.now.entries c.deref-e-items.result.now c.loop-e.e-index (c.deref-e-items.ensures.value ∙ ap (λ (f : Facts). f.entries) c.facts.view_is) c.loop-e-test.false c.loop-e.invariant
