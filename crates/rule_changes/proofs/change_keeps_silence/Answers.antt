use Rattle.rule_changes.proofs.Known.{no-nameless, no-odd-hashes}
use Rattle.rule_changes.proofs.change_keeps_silence.Goals as goal

pub returns-clause-nameless : goal.returns-clause-nameless
returns-clause-nameless c = no-nameless

pub returns-clause-hashes : goal.returns-clause-hashes
returns-clause-hashes c = no-odd-hashes
