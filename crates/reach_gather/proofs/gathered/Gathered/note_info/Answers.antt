use Rattle.std.proofs.Common.{◌∙◌}
use Rattle.std.proofs.lemmas.List.{append-nil}
use Rattle.reach_gather.proofs.gathered.Gathered.note_info.Goals as goal

pub returns-clause-owners : goal.returns-clause-owners
returns-clause-owners c = c.put_pool.ensures.owners ∙ (c.in_ok-put.ensures.owners ∙ append-nil _)
