use Rattle.std.proofs.Common.{Ok}
use Rattle.view_rules.specs.Siblings.{HasEntryFellows, HasLinkFellows, HasMapFellows}
use Rattle.rule_breaks.proofs.Shown.{either-first}
use Rattle.rule_breaks.proofs.faults.siblings.lost_by.Goals as goal

pub returns : goal.returns
returns c =
    let a = c.args.asked.now in
    let f = c.args.fellows.now.facts.now in
    either-first a f (HasEntryFellows f) (HasLinkFellows f × HasMapFellows f) (Ok c.lost_entry.result) c.either-rest.result c.either.result c.either.ensures c.lost_entry.ensures
    (either-first a f (HasLinkFellows f) (HasMapFellows f) (Ok c.in_ok-link.link) c.lost_map.result c.either-rest.result c.either-rest.ensures c.in_ok-link.ensures c.lost_map.ensures)
