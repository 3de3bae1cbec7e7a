use Rattle.std.proofs.Common.{◌∙◌}
use Rattle.reach_gather.proofs.gathered.Gathered.note_record.Goals as goal

pub returns-clause-pool_owners : goal.returns-clause-pool_owners
returns-clause-pool_owners c = c.put-2.ensures.pool_owners ∙ c.put.ensures.pool_owners
