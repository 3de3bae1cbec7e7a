use Rattle.std.proofs.Common.{ap, ◌∙◌, subst, List, length, ◌≤◌}
use Rattle.std.specs.Prelude.{filter}
use Rattle.std.proofs.lemmas.List.{take_all}
use Rattle.fs_record.specs.Inodes.{Inode}
use Rattle.fs_record.specs.Facts.{Fact}
use Rattle.view_rules.specs.Facts.{Facts}
use Rattle.view_rules.specs.Directories.{is_user_directory, parent_at}
use Rattle.parent_chain.specs.Ways.{HasWaysOf}
use Rattle.parent_chain.specs.Directories.{Rise}
use Rattle.parent_chain.proofs.FirstUnreached.{none-climbed}
use Rattle.parent_chain.proofs.ByDirectories.{directories_of, LeadFrom, lead-more, have-ways}
use Rattle.parent_chain.proofs.unreached.do_directories_lead.Goals as goal

pub loop-number-init : goal.loop-number-init
loop-number-init c = record {
  climbed = none-climbed (directories_of c.args.facts.now) c.in_ok-ways.ways (subst (λ (inodes : List (Fact Inode)). HasWaysOf (filter is_user_directory inodes) c.in_ok-ways.ways) (c.deref-2.ensures.value ∙ ap (λ (g : Facts). g.inodes) c.facts.view_is) c.in_ok-ways.ensures);
  lead = λ e listed directory. absurd listed;
}

pub loop-number-preserved : goal.loop-number-preserved
loop-number-preserved c =
    let facts = c.args.facts.now in
    let t = c.is_unreached.ensures.no c.if-is_unreached.false (parent_at (directories_of facts)) c.loop-number.invariant.climbed in
    record {
      climbed = t.0;
      lead = lead-more (parent_at (directories_of facts)) facts.inodes c.deref-f-items.result.now c.loop-number.number c.f-item.result (c.deref-f-items.ensures.value ∙ ap (λ (g : Facts). g.inodes) c.facts.view_is) c.loop-number-test.true c.f-item.is c.loop-number.invariant.lead t.1;
    }

pub returns : goal.returns
returns c =
    let facts = c.args.facts.now in
    let same = c.deref-f-items.ensures.value ∙ ap (λ (g : Facts). g.inodes) c.facts.view_is in
    let all = take_all c.loop-number.number facts.inodes (subst (λ (ys : List (Fact Inode)). length ys ≤ c.loop-number.number) same c.loop-number-test.false) in
    λ _.
    have-ways facts
    (subst Rise (c.deref.ensures.value ∙ ap (λ (g : Facts). g.inodes) c.facts.view_is) (c.do_ids_rise.ensures c.if-not-do_ids_rise.false))
    (subst (LeadFrom (parent_at (directories_of facts))) all c.loop-number.invariant.lead)
