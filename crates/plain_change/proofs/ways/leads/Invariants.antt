use Rattle.view_rules.specs.Directories.{parent_at, Leads}
use Rattle.plain_change.proofs.ways.leads.Given as goal

abbrev pub invariant-climb : goal.invariant-climb
invariant-climb l = Leads (parent_at l.after.index.now.facts.now) l.id → Leads (parent_at l.after.index.now.facts.now) l.fn.start
