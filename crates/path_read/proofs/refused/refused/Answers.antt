use Rattle.path_read.proofs.refused.refused.Goals as goal

pub returns-in-None-clause-present : goal.returns-in-None-clause-present
returns-in-None-clause-present g c image told some = absurd (some (c.refusal.ensures.clear image told c.in-None.is))
