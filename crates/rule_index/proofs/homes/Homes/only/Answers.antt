use Rattle.rule_index.proofs.HomeCounts.{only-home, no-only-home}
use Rattle.rule_index.proofs.homes.Homes.only.Goals as goal

pub returns-then-home-eq1 : goal.returns-then-home-eq1
returns-then-home-eq1 c = λ entries had. only-home entries c.args.file c.home-home.result c.if-home-eq1.true (c.home-home.ensures entries had)

pub returns-else-home-eq1 : goal.returns-else-home-eq1
returns-else-home-eq1 c = λ entries had. no-only-home entries c.args.file c.home-home.result c.if-home-eq1.false (c.home-home.ensures entries had)
