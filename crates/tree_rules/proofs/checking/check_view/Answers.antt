use Rattle.tree_rules.proofs.checking.check_view.Goals as goal

pub returns-in-Err-clause-present : goal.returns-in-Err-clause-present
returns-in-Err-clause-present g c = λ image told. c.in-Err.ensures.present c.args.profile c.args.ranges.now image told

pub returns-clause-present : goal.returns-clause-present
returns-clause-present g c = λ image told. c.in-Err-tally_of.ensures.present image c.args.volume.now (c.in-Ok.ensures.clear image told)
