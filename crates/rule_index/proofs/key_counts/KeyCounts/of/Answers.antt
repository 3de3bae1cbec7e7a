use Rattle.std.proofs.Common.{cond}
use Rattle.std.proofs.lemmas.List.Sorted.{sum_by-IsPermutation}
use Rattle.rule_index.specs.Keys.{Key, is_same_key, key_count}
use Rattle.rule_index.proofs.key_counts.KeyCounts.of.Goals as goal

pub returns : goal.returns
unfolding key_count
returns c = λ q. sum_by-IsPermutation (λ (k : Key). cond (is_same_key k q) 1 0) c.args.keys.items c.sort_unstable.new.self.items c.sort_unstable.ensures.permutation
