use Rattle.rule_index.proofs.counted.Counted.only_home.Goals as goal

pub returns : goal.returns
returns c = c.only.ensures c.args.self.now.facts.now.entries c.args.self.now.homes_right
