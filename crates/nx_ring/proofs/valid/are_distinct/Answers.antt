use Rattle.std.proofs.Common.{List, ℕ, ◌≡◌, ◌∙◌, sym, subst}
use Rattle.std.specs.List.Sorted.{IsPermutation, IsNonDecreasingBy}
use Rattle.std.proofs.lemmas.List.Sorted.{IsNonDecreasingBy-from_sort}
use Rattle.nx_ring.proofs.Sorted.{sorted_tells}
use Rattle.nx_ring.proofs.valid.are_distinct.Goals as goal

pub returns : goal.returns
returns c =
    let value = c.as_slice.ensures.value in
    sorted_tells c.args.numbers.items c.as_slice.result.now c.is_rising.result
    (subst (λ (ys : List ℕ). IsPermutation c.args.numbers.items ys) (sym value) c.sort_unstable.ensures.permutation)
    (subst (λ (ys : List ℕ). IsNonDecreasingBy (λ (x : ℕ). x) ys) (sym value) (IsNonDecreasingBy-from_sort (λ (x : ℕ). x) c.sort_unstable.new.self.items c.sort_unstable.ensures.sorted))
    c.is_rising.ensures.yes c.is_rising.ensures.otherwise
