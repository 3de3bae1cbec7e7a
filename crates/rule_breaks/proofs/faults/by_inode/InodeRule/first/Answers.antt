use Rattle.std.proofs.Common.{◌∙◌, ap}
use Rattle.view_rules.specs.Facts.{Facts}
use Rattle.rule_breaks.specs.ByInode.{is_broken}
use Rattle.rule_breaks.proofs.Finds.{found_item, next_item, all_clear}
use Rattle.rule_breaks.proofs.Shown.{inode}
use Rattle.rule_breaks.proofs.faults.by_inode.InodeRule.first.Goals as goal

pub returns-then-is_broken : goal.returns-then-is_broken
returns-then-is_broken c =
    inode c.args.asked.now c.args.index.now.facts.now c.args.self.now c.f-item.result c.id.result c.id_at.result c.fault.result
    (found_item (is_broken c.args.index.now.facts.now c.args.self.now) c.args.index.now.facts.now.inodes c.deref-f-items.result.now c.loop-f.f-index c.f-item.result c.is_broken.result
    (c.deref-f-items.ensures.value ∙ ap (λ (f : Facts). f.inodes) c.facts.view_is) c.loop-f-test.true c.f-item.is c.loop-f.invariant c.is_broken.ensures c.if-is_broken.true)
    c.id.ensures c.id_at.ensures c.fault.ensures

pub loop-f-preserved : goal.loop-f-preserved
loop-f-preserved c =
    next_item (is_broken c.args.index.now.facts.now c.args.self.now) c.args.index.now.facts.now.inodes c.deref-f-items.result.now c.loop-f.f-index c.f-item.result c.is_broken.result
    (c.deref-f-items.ensures.value ∙ ap (λ (f : Facts). f.inodes) c.facts.view_is) c.loop-f-test.true c.f-item.is c.loop-f.invariant c.is_broken.ensures c.if-is_broken.false

pub returns : goal.returns
returns c =
    all_clear (is_broken c.args.index.now.facts.now c.args.self.now) c.args.index.now.facts.now.inodes c.deref-f-items.result.now c.loop-f.f-index (c.deref-f-items.ensures.value ∙ ap (λ (f : Facts). f.inodes) c.facts.view_is) c.loop-f-test.false c.loop-f.invariant
