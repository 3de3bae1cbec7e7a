use Rattle.rule_index.proofs.HomeLooks.{named_counted, named_else}
use Rattle.rule_index.proofs.index.Index.is_named.Goals as goal

pub returns-then-entry_count-gt0 : goal.returns-then-entry_count-gt0
returns-then-entry_count-gt0 c = named_counted c.args.self.now.facts.now c.args.id c.entry_count.result c.entry_count.ensures c.if-entry_count-gt0.true

pub returns-else-entry_count-gt0 : goal.returns-else-entry_count-gt0
returns-else-entry_count-gt0 c = named_else c.args.self.now.facts.now c.args.id c.entry_count.result c.has_system_name.result c.entry_count.ensures c.if-entry_count-gt0.false c.has_system_name.ensures
