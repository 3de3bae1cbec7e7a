use Rattle.reach_rules.proofs.Decided.{decided, flawed_refutes}
use Rattle.reach_rules.proofs.theorem.accounted_or_flawed.Goals as goal

pub returns-clause-either : goal.returns-clause-either
returns-clause-either c = decided

pub returns-clause-never_both : goal.returns-clause-never_both
returns-clause-never_both c = flawed_refutes
