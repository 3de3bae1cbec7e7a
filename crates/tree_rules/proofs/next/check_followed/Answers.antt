use Rattle.view_rules.specs.Listed.{extents_with_ids}
use Rattle.view_change.specs.Kept.{facts_of}
use Rattle.tree_rules.specs.Known.{AreRight}
use Rattle.tree_rules.proofs.Nexts.{told-change}
use Rattle.tree_rules.proofs.next.check_followed.Goals as goal

pub returns-then-branch-clause-clear : goal.returns-then-branch-clause-clear
returns-then-branch-clause-clear c image volume before is right d =
    let asked = c.args.asked.now in
    let site = asked.site.now in
    let ranges = asked.ranges.now in
    let after = c.args.after in
    let change = c.args.change.now in
    let told = c.in_ok-checked_by.ensures in
    let right_now : AreRight asked.profile site ranges (facts_of after) = c.in_ok-are_right_still.ensures c.if-branch.true before d.same right d.names d.left d.made in
    told-change asked.profile image site volume ranges asked.view.now before after change c.in_ok-checked_by.field-0 is d right_now told.records told.notes told.extents told.kept

pub returns-in-Ok-clause-clear : goal.returns-in-Ok-clause-clear
returns-in-Ok-clause-clear c image volume before is right d = c.in-Ok.ensures.clear image volume (extents_with_ids before) is
