use Rattle.tree_rules.proofs.Firsts.{first_of_all}
use Rattle.tree_rules.proofs.faults.first_fault.Goals as goal

pub returns : goal.returns
returns c = first_of_all c.args.asked.now c.args.index.now.facts.now c.in_ok-naming.naming c.in_ok-content.content c.or.result c.or.ensures c.in_ok-naming.ensures c.in_ok-content.ensures
