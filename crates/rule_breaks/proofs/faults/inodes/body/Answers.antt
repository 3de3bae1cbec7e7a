use Rattle.std.proofs.Common.{◌∙◌, ap}
use Rattle.view_rules.specs.Facts.{Facts}
use Rattle.view_rules.specs.Inodes.{has_large_body}
use Rattle.rule_breaks.proofs.Finds.{found_item, next_item, all_clear}
use Rattle.rule_breaks.proofs.Shown.{body}
use Rattle.rule_breaks.proofs.faults.inodes.body.Goals as goal

pub returns-then-has_large_body : goal.returns-then-has_large_body
returns-then-has_large_body c =
    body c.args.asked.now c.args.facts.now c.a-item.result c.id.result c.id_at.result
    (found_item has_large_body c.args.facts.now.attributes c.deref-a-items.result.now c.loop-a.a-index c.a-item.result c.has_large_body.result
    (c.deref-a-items.ensures.value ∙ ap (λ (f : Facts). f.attributes) c.facts.view_is) c.loop-a-test.true c.a-item.is c.loop-a.invariant c.has_large_body.ensures c.if-has_large_body.true)
    c.id.ensures c.id_at.ensures

pub loop-a-preserved : goal.loop-a-preserved
loop-a-preserved c =
    next_item has_large_body c.args.facts.now.attributes c.deref-a-items.result.now c.loop-a.a-index c.a-item.result c.has_large_body.result
    (c.deref-a-items.ensures.value ∙ ap (λ (f : Facts). f.attributes) c.facts.view_is) c.loop-a-test.true c.a-item.is c.loop-a.invariant c.has_large_body.ensures c.if-has_large_body.false

pub returns : goal.returns
returns c =
    all_clear has_large_body c.args.facts.now.attributes c.deref-a-items.result.now c.loop-a.a-index (c.deref-a-items.ensures.value ∙ ap (λ (f : Facts). f.attributes) c.facts.view_is) c.loop-a-test.false c.loop-a.invariant
