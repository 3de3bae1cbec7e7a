use Rattle.tree_rules.proofs.with_extents.check_with_extents.Goals as goal

pub returns-in-Err-clause-present : goal.returns-in-Err-clause-present
returns-in-Err-clause-present g c = λ image told. c.in-Err.ensures.present c.args.profile c.args.ranges.now image told

pub returns-in-Err-tally_of-clause-present : goal.returns-in-Err-tally_of-clause-present
returns-in-Err-tally_of-clause-present g c = λ image told. c.in-Err-tally_of.ensures.present image c.args.volume.now (c.in-Ok.ensures.clear image told)
