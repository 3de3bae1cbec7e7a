use Rattle.rule_changes.proofs.Law.{change-keeps}
use Rattle.rule_changes.proofs.Right.{plain-if-right}
use Rattle.rule_changes.proofs.change_keeps_rules.Goals as goal

pub returns-clause-rules : goal.returns-clause-rules
returns-clause-rules c = change-keeps

pub returns-clause-nearly_all : goal.returns-clause-nearly_all
returns-clause-nearly_all c = plain-if-right
