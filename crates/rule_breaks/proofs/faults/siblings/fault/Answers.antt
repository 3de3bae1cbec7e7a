use Rattle.std.proofs.Common.{None}
use Rattle.view_rules.specs.Siblings.{HasEntryFellows, HasLinkFellows, HasMapFellows, HasMarks}
use Rattle.rule_breaks.proofs.Shown.{and-last, last-of}
use Rattle.rule_breaks.proofs.faults.siblings.fault.Goals as goal

pub returns-then-together : goal.returns-then-together
returns-then-together c =
    let f = c.args.index.now.facts.now in
    last-of c.args.asked.now f (HasEntryFellows f) (HasLinkFellows f) (HasMapFellows f) (HasMarks f) None c.unmarked.result (c.in_ok-together.ensures c.if-together.true) c.unmarked.ensures

pub returns : goal.returns
returns c =
    let f = c.args.index.now.facts.now in
    and-last c.args.asked.now f (HasEntryFellows f) (HasLinkFellows f) (HasMapFellows f) (HasMarks f) c.in_ok-lost.lost c.unmarked-2.result c.or.result c.or.ensures c.in_ok-lost.ensures c.unmarked-2.ensures
