use Rattle.view_rules.proofs.Law.{decided, flawed_refutes}
use Rattle.view_rules.proofs.theorem.rules_or_flaw.Goals as goal

pub returns-clause-either : goal.returns-clause-either
returns-clause-either c = decided

pub returns-clause-never_both : goal.returns-clause-never_both
returns-clause-never_both c = flawed_refutes
