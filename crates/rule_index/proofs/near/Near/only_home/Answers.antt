use Rattle.rule_index.proofs.HomeCounts.{only-home, no-only-home}
use Rattle.rule_index.proofs.near.Near.only_home.Goals as goal

pub returns-then-home-eq1 : goal.returns-then-home-eq1
returns-then-home-eq1 c = only-home c.args.self.now.facts.now.entries c.args.id c.home-home.result c.if-home-eq1.true c.home-home.ensures

pub returns-else-home-eq1 : goal.returns-else-home-eq1
returns-else-home-eq1 c = no-only-home c.args.self.now.facts.now.entries c.args.id c.home-home.result c.if-home-eq1.false c.home-home.ensures
