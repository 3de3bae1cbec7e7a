use Rattle.std.proofs.Common.{rules, ap}
use Rattle.std.specs.Ordering.{is_lt, nat_cmp}
use Rattle.std.specs.Cmp.Lexicographic.{slice_cmp, nat_list_cmp_total}
use Rattle.std.proofs.lemmas.List.Sorted.{answers_always}
use Rattle.std.proofs.lemmas.List.MinMax.{ranks_by}
use Rattle.path_search.specs.declared.target.Target.{Target}
use Rattle.path_search.proofs.Orders.{sorted_is_by_name, sorted_rises}
use Rattle.path_search.proofs.order.kept_by_name.Goals as goal

pub returns : goal.returns
returns c =
    sorted_is_by_name (λ (t : Target). t.name) c.args.targets.items c.sort_by.new.self.items
    (sorted_rises (λ (t : Target). t.name) c.sort_by.new.self.items
    (c.in_ok-sort_by.ensures.sorted (λ (a b : Target). is_lt (slice_cmp nat_cmp a.name b.name)) (ranks_by nat_list_cmp_total (λ (t : Target). t.name)) (answers_always _ _ _ (λ f a r g k. ap is_lt (search rules)))))
    (c.in_ok-sort_by.ensures.stable (λ (a b : Target). is_lt (slice_cmp nat_cmp a.name b.name)) (ranks_by nat_list_cmp_total (λ (t : Target). t.name)) (answers_always _ _ _ (λ f a r g k. ap is_lt (search rules))))
