use Rattle.std.proofs.Common.{sym, ◌∙◌}
use Rattle.plain_change.proofs.Among.{settled-none, settled-all}
use Rattle.plain_change.proofs.found.is_settled.Goals as goal

pub returns-then-not-has_map : goal.returns-then-not-has_map
returns-then-not-has_map c holds = settled-none c.args.after.now.index.now.facts.now c.args.file c.args.sibling (sym c.has_map.ensures ∙ c.if-not-has_map.true)

pub returns-else-not-has_map : goal.returns-else-not-has_map
returns-else-not-has_map c holds = settled-all c.args.after.now.index.now.facts.now c.args.file c.args.sibling (c.has_fellows.ensures holds)
