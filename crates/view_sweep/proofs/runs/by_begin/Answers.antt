use Rattle.std.proofs.Common.{rules}
use Rattle.std.proofs.lemmas.List.Sorted.{IsNonDecreasingBy-from_sort_by}
use Rattle.view_sweep.specs.Runs.{begin_of}
use Rattle.view_sweep.proofs.runs.by_begin.Goals as goal

pub returns-clause-sorted : goal.returns-clause-sorted
returns-clause-sorted c = IsNonDecreasingBy-from_sort_by begin_of _ c.sort_unstable_by.ensures.sorted (λ a r q k. Prim.search rules)
