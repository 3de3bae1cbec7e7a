use Rattle.path_walk.proofs.whole.refusal.Goals as goal

pub returns-in-Ok-clause-clear : goal.returns-in-Ok-clause-clear
returns-in-Ok-clause-clear g c image told none = (c.in-Ok.ensures.rests image told).records
