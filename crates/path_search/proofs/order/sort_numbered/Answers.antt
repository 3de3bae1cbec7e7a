use Rattle.std.proofs.Common.{rules, ap}
use Rattle.std.specs.Ordering.{is_lt}
use Rattle.std.proofs.lemmas.List.Sorted.{answers_always}
use Rattle.path_search.proofs.Numbers.{comes_before, before_order, sorted_by_number}
use Rattle.path_search.proofs.order.sort_numbered.Goals as goal

pub returns : goal.returns
returns c before e =
    sorted_by_number before c.args.targets.now.items c.sort_unstable_by.new.self.items e c.sort_unstable_by.ensures.permutation
    (c.sort_unstable_by.ensures.sorted comes_before before_order (answers_always _ _ _ (λ f a r g k. ap is_lt (search rules))))
