use Rattle.std.proofs.Common.{◌∙◌, ap}
use Rattle.view_rules.specs.Facts.{Facts}
use Rattle.view_rules.specs.Siblings.{is_unmarked}
use Rattle.rule_breaks.proofs.Finds.{found_item, next_item, all_clear}
use Rattle.rule_breaks.proofs.Shown.{unmarked}
use Rattle.rule_breaks.proofs.Wholes.{all-marked}
use Rattle.rule_breaks.proofs.faults.siblings.unmarked.Goals as goal

pub returns-then-is_unmarked : goal.returns-then-is_unmarked
returns-then-is_unmarked c =
    unmarked c.args.asked.now c.args.index.now.facts.now c.e-item.result c.file_id.result c.id_at.result
    (found_item (is_unmarked c.args.index.now.facts.now) c.args.index.now.facts.now.entries c.deref-e-items.result.now c.loop-e.e-index c.e-item.result c.is_unmarked.result
    (c.deref-e-items.ensures.value ∙ ap (λ (f : Facts). f.entries) c.facts.view_is) c.loop-e-test.true c.e-item.is c.loop-e.invariant c.is_unmarked.ensures c.if-is_unmarked.true)
    c.file_id.ensures c.id_at.ensures

pub loop-e-preserved : goal.loop-e-preserved
loop-e-preserved c =
    next_item (is_unmarked c.args.index.now.facts.now) c.args.index.now.facts.now.entries c.deref-e-items.result.now c.loop-e.e-index c.e-item.result c.is_unmarked.result
    (c.deref-e-items.ensures.value ∙ ap (λ (f : Facts). f.entries) c.facts.view_is) c.loop-e-test.true c.e-item.is c.loop-e.invariant c.is_unmarked.ensures c.if-is_unmarked.false

pub returns : goal.returns
returns c =
    all_clear (is_unmarked c.args.index.now.facts.now) c.args.index.now.facts.now.entries c.deref-e-items.result.now c.loop-e.e-index (c.deref-e-items.ensures.value ∙ ap (λ (f : Facts). f.entries) c.facts.view_is) c.loop-e-test.false c.loop-e.invariant

pub returns-then-has_single_entries : goal.returns-then-has_single_entries
returns-then-has_single_entries c = all-marked c.args.index.now.facts.now (c.has_single_entries.ensures c.if-has_single_entries.true)
