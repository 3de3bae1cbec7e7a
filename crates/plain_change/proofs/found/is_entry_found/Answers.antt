use Rattle.std.proofs.Common.{sym}
use Rattle.rule_breaks.proofs.FellowLooks.{lost_none}
use Rattle.plain_change.proofs.Among.{entry-found}
use Rattle.plain_change.proofs.found.is_entry_found.Goals as goal

pub returns-in-Some : goal.returns-in-Some
returns-in-Some c holds = entry-found c.args.after.now.index.now.facts.now c.args.e.now c.in-Some.sibling (sym c.in-Some.ensures) (c.is_twin_found.ensures holds)

pub returns-in-None : goal.returns-in-None
returns-in-None c holds = lost_none c.args.after.now.index.now.facts.now c.args.e.now (sym c.in-None.ensures)
