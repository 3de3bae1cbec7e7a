use Rattle.rule_breaks.proofs.Shown.{lost_entry}
use Rattle.rule_breaks.proofs.faults.siblings.lost_entry.Goals as goal

pub returns-in-Some : goal.returns-in-Some
returns-in-Some c = lost_entry c.args.asked.now c.args.fellows.now.facts.now c.in-Some.e.now c.lost_twin.result c.in-Some.ensures c.lost_twin.ensures
