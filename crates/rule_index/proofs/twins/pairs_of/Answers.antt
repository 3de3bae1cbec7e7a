use Rattle.std.proofs.Common.{ℕ, List, subst}
use Rattle.std.specs.List.Sorted.{IsPermutation}
use Rattle.rule_index.proofs.twins.pairs_of.Goals as goal

pub returns : goal.returns
returns c = subst (λ (pairs : List (ℕ × ℕ)). IsPermutation pairs c.sort_unstable.new.self.items) c.in_ok-pairs.ensures c.sort_unstable.ensures.permutation
