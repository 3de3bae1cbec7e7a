use Rattle.std.proofs.Common.{sym, ◌∙◌}
use Rattle.rule_index.proofs.near.Near.home.Goals as goal

pub returns-then-has : goal.returns-then-has
returns-then-has c = c.home.ensures c.args.self.now.facts.now.entries c.args.self.now.namings_right (sym c.has.ensures ∙ c.if-has.true)
