use Rattle.std.proofs.Common.{ℕ, cond, count_by, ap, ◌∙◌}
use Rattle.std.proofs.lemmas.List.Sorted.{sum_by-IsPermutation}
use Rattle.rule_index.proofs.HomeLooks.{files-rise}
use Rattle.rule_index.proofs.pairs.Pairs.of.Goals as goal

pub of-requires : goal.of-requires
of-requires c = files-rise c.sort_unstable.new.self.items c.sort_unstable.ensures.sorted

pub returns : goal.returns
returns c =
    λ test.
    ap (count_by test) c.in_ok-list.ensures ∙ sum_by-IsPermutation (λ (p : ℕ × ℕ). cond (test p) 1 0) c.args.list.items c.sort_unstable.new.self.items c.sort_unstable.ensures.permutation
