use Rattle.rule_index.proofs.homes.Homes.count.Goals as goal

pub returns : goal.returns
returns c = λ entries had. (c.home.ensures entries had).0
