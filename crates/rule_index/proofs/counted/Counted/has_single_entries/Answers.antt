use Rattle.rule_index.proofs.counted.Counted.has_single_entries.Goals as goal

pub returns : goal.returns
returns c = λ yes id. c.are_single.ensures yes c.args.self.now.kins c.args.self.now.facts.now.entries c.args.self.now.homes_right id
