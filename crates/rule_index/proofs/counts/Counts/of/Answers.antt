use Rattle.std.proofs.Common.{ℕ, cond, ◌==◌}
use Rattle.std.proofs.lemmas.List.Sorted.{IsNonDecreasingBy-from_sort, sum_by-IsPermutation}
use Rattle.rule_index.specs.Ids.{count_in}
use Rattle.rule_index.proofs.counts.Counts.of.Goals as goal

pub invariant_of-result : goal.invariant_of-result
invariant_of-result c = IsNonDecreasingBy-from_sort (λ (n : ℕ). n) c.sort_unstable.new.self.items c.sort_unstable.ensures.sorted

pub returns : goal.returns
unfolding count_in
returns c = λ q. sum_by-IsPermutation (λ (n : ℕ). cond (n == q) 1 0) c.args.ids.items c.sort_unstable.new.self.items c.sort_unstable.ensures.permutation
