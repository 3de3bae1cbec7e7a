use Rattle.rule_breaks.proofs.Shown.{way}
use Rattle.rule_breaks.proofs.faults.ways.fault.Goals as goal

pub returns-in-Some : goal.returns-in-Some
returns-in-Some c = way c.args.asked.now c.args.facts.now c.in-Some.f.now.id c.id.result c.id_at.result (rw c.in-Some.is at c.in_ok-f.ensures.present) c.id.ensures c.id_at.ensures
