use Rattle.std.proofs.Common.{◌∙◌, ap}
use Rattle.view_rules.specs.Facts.{Facts}
use Rattle.view_rules.specs.Extents.{is_misplaced}
use Rattle.rule_breaks.proofs.Finds.{found_item, next_item, all_clear}
use Rattle.rule_breaks.proofs.Shown.{place}
use Rattle.rule_breaks.proofs.faults.extents.place.Goals as goal

pub returns-then-is_misplaced : goal.returns-then-is_misplaced
returns-then-is_misplaced c =
    place c.args.asked.now c.args.facts.now c.f-item.result c.id.result c.id_at.result
    (found_item (is_misplaced c.args.asked.now.site.now.block_size c.args.asked.now.site.now.blocks) c.args.facts.now.extents c.deref-f-items.result.now c.loop-f.f-index c.f-item.result c.is_misplaced.result
    (c.deref-f-items.ensures.value ∙ ap (λ (f : Facts). f.extents) c.facts.view_is) c.loop-f-test.true c.f-item.is c.loop-f.invariant c.is_misplaced.ensures c.if-is_misplaced.true)
    c.id.ensures c.id_at.ensures

pub loop-f-preserved : goal.loop-f-preserved
loop-f-preserved c =
    next_item (is_misplaced c.args.asked.now.site.now.block_size c.args.asked.now.site.now.blocks) c.args.facts.now.extents c.deref-f-items.result.now c.loop-f.f-index c.f-item.result c.is_misplaced.result
    (c.deref-f-items.ensures.value ∙ ap (λ (f : Facts). f.extents) c.facts.view_is) c.loop-f-test.true c.f-item.is c.loop-f.invariant c.is_misplaced.ensures c.if-is_misplaced.false

pub returns : goal.returns
returns c =
    all_clear (is_misplaced c.args.asked.now.site.now.block_size c.args.asked.now.site.now.blocks) c.args.facts.now.extents c.deref-f-items.result.now c.loop-f.f-index (c.deref-f-items.ensures.value ∙ ap (λ (f : Facts). f.extents) c.facts.view_is) c.loop-f-test.false c.loop-f.invariant
