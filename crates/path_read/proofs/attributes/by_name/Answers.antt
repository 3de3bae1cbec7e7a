use Rattle.std.proofs.Common.{rules, ap, ℕ, List}
use Rattle.std.specs.Ordering.{is_lt, nat_cmp}
use Rattle.std.specs.Cmp.Lexicographic.{slice_cmp, nat_list_cmp_total}
use Rattle.std.proofs.lemmas.List.Sorted.{answers_always}
use Rattle.std.proofs.lemmas.List.MinMax.{ranks_by}
use Rattle.path_search.proofs.Orders.{sorted_is_by_name, sorted_rises}
use Rattle.path_read.proofs.attributes.by_name.Goals as goal

pub returns : goal.returns
returns c =
    sorted_is_by_name (λ (t : List ℕ × ℕ). t.0) c.args.told.items c.sort_by.new.self.items
    (sorted_rises (λ (t : List ℕ × ℕ). t.0) c.sort_by.new.self.items
    (c.in_ok-sort_by.ensures.sorted (λ (a b : List ℕ × ℕ). is_lt (slice_cmp nat_cmp a.0 b.0)) (ranks_by nat_list_cmp_total (λ (t : List ℕ × ℕ). t.0)) (answers_always _ _ _ (λ f a r g k. ap is_lt (search rules)))))
    (c.in_ok-sort_by.ensures.stable (λ (a b : List ℕ × ℕ). is_lt (slice_cmp nat_cmp a.0 b.0)) (ranks_by nat_list_cmp_total (λ (t : List ℕ × ℕ). t.0)) (answers_always _ _ _ (λ f a r g k. ap is_lt (search rules))))
