use Rattle.std.proofs.Common.{rules}
use Rattle.std.proofs.lemmas.List.Sorted.{IsNonDecreasingBy-from_sort_by_key}
use Rattle.reach_gather.specs.Finished.{id_of}
use Rattle.reach_gather.proofs.once.by_id.Goals as goal

pub returns-clause-sorted : goal.returns-clause-sorted
returns-clause-sorted c = IsNonDecreasingBy-from_sort_by_key id_of _ c.sort_unstable_by_key.ensures.sorted (λ a r q k. search rules)
