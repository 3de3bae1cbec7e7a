use Rattle.std.proofs.Common.{rules}
use Rattle.std.proofs.lemmas.List.Sorted.{IsNonDecreasingBy-from_sort_by}
use Rattle.piece_count.specs.declared.piece.Piece.{Piece}
use Rattle.piece_count.proofs.piece.by_first.Goals as goal

pub returns-clause-sorted : goal.returns-clause-sorted
returns-clause-sorted c = IsNonDecreasingBy-from_sort_by (λ (p : Piece). p.first) _ c.sort_unstable_by.ensures.sorted (λ a r q k. Prim.search rules)
