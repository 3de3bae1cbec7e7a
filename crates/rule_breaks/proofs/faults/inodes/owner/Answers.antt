use Rattle.std.proofs.Common.{◌∙◌, ap}
use Rattle.view_rules.specs.Facts.{Facts}
use Rattle.view_rules.specs.Inodes.{lacks_owner}
use Rattle.rule_breaks.proofs.Finds.{found_item, next_item, all_clear}
use Rattle.rule_breaks.proofs.Shown.{owner}
use Rattle.rule_breaks.proofs.faults.inodes.owner.Goals as goal

pub returns-then-lacks_owner : goal.returns-then-lacks_owner
returns-then-lacks_owner c =
    owner c.args.asked.now c.args.index.now.facts.now c.a-item.result c.id.result c.id_at.result
    (found_item (lacks_owner c.args.index.now.facts.now) c.args.index.now.facts.now.attributes c.deref-a-items.result.now c.loop-a.a-index c.a-item.result c.lacks_owner.result
    (c.deref-a-items.ensures.value ∙ ap (λ (f : Facts). f.attributes) c.facts.view_is) c.loop-a-test.true c.a-item.is c.loop-a.invariant c.lacks_owner.ensures c.if-lacks_owner.true)
    c.id.ensures c.id_at.ensures

pub loop-a-preserved : goal.loop-a-preserved
loop-a-preserved c =
    next_item (lacks_owner c.args.index.now.facts.now) c.args.index.now.facts.now.attributes c.deref-a-items.result.now c.loop-a.a-index c.a-item.result c.lacks_owner.result
    (c.deref-a-items.ensures.value ∙ ap (λ (f : Facts). f.attributes) c.facts.view_is) c.loop-a-test.true c.a-item.is c.loop-a.invariant c.lacks_owner.ensures c.if-lacks_owner.false

pub returns : goal.returns
returns c =
    all_clear (lacks_owner c.args.index.now.facts.now) c.args.index.now.facts.now.attributes c.deref-a-items.result.now c.loop-a.a-index (c.deref-a-items.ensures.value ∙ ap (λ (f : Facts). f.attributes) c.facts.view_is) c.loop-a-test.false c.loop-a.invariant
