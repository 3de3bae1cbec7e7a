use Rattle.std.proofs.Common.{rules}
use Rattle.std.proofs.lemmas.List.Sorted.{IsNonDecreasingBy-from_sort_by}
use Rattle.own_settle.specs.InOrder.{first_of}
use Rattle.own_settle.proofs.ordered.by_first.Goals as goal

pub returns-clause-sorted : goal.returns-clause-sorted
returns-clause-sorted c = IsNonDecreasingBy-from_sort_by first_of _ c.sort_unstable_by.ensures.sorted (λ a r q k. Prim.search rules)
