use Rattle.std.proofs.Common.{ap, ◌∙◌, subst, List}
use Rattle.fs_record.specs.Inodes.{Inode}
use Rattle.fs_record.specs.Facts.{Fact}
use Rattle.view_rules.specs.Facts.{Facts}
use Rattle.view_rules.specs.Directories.{parent_at}
use Rattle.parent_chain.specs.Ways.{HasWaysOf}
use Rattle.parent_chain.proofs.FirstUnreached.{none-climbed, ways-more, first-here, first-broken}
use Rattle.parent_chain.proofs.unreached.first_among_all.Goals as goal

pub loop-number-init : goal.loop-number-init
loop-number-init c = record {
  climbed = none-climbed c.args.facts.now c.in_ok-ways.ways (subst (λ (inodes : List (Fact Inode)). HasWaysOf inodes c.in_ok-ways.ways) (c.deref.ensures.value ∙ ap (λ (g : Facts). g.inodes) c.facts.view_is) c.in_ok-ways.ensures);
  ways = λ e listed directory. absurd listed;
}

pub returns-then-is_unreached-clause-present : goal.returns-then-is_unreached-clause-present
returns-then-is_unreached-clause-present c =
    let facts = c.args.facts.now in
    first-broken facts c.f-item.result
    (first-here facts c.deref-f-items.result.now c.loop-number.number c.f-item.result (c.deref-f-items.ensures.value ∙ ap (λ (g : Facts). g.inodes) c.facts.view_is) c.loop-number-test.true c.f-item.is c.loop-number.invariant.ways
    (c.is_unreached.ensures.yes c.if-is_unreached.true (parent_at facts) c.loop-number.invariant.climbed))

pub returns-then-is_unreached-clause-first : goal.returns-then-is_unreached-clause-first
returns-then-is_unreached-clause-first c =
    let facts = c.args.facts.now in
    first-here facts c.deref-f-items.result.now c.loop-number.number c.f-item.result (c.deref-f-items.ensures.value ∙ ap (λ (g : Facts). g.inodes) c.facts.view_is) c.loop-number-test.true c.f-item.is c.loop-number.invariant.ways
    (c.is_unreached.ensures.yes c.if-is_unreached.true (parent_at facts) c.loop-number.invariant.climbed)

pub loop-number-preserved : goal.loop-number-preserved
loop-number-preserved c =
    let facts = c.args.facts.now in
    let t = c.is_unreached.ensures.no c.if-is_unreached.false (parent_at facts) c.loop-number.invariant.climbed in
    record {
      climbed = t.0;
      ways = ways-more facts c.deref-f-items.result.now c.loop-number.number c.f-item.result (c.deref-f-items.ensures.value ∙ ap (λ (g : Facts). g.inodes) c.facts.view_is) c.loop-number-test.true c.f-item.is c.loop-number.invariant.ways t.1;
    }
