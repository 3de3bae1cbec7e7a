use Rattle.std.proofs.Common.{rules, ap}
use Rattle.std.specs.Ordering.{is_lt}
use Rattle.std.proofs.lemmas.List.Sorted.{answers_always}
use Rattle.view_sweep.specs.Order.{is_used_below}
use Rattle.view_sweep.proofs.Orders.{used_order}
use Rattle.view_sweep.proofs.order.by_use.Goals as goal

pub returns-clause-sorted : goal.returns-clause-sorted
returns-clause-sorted c = c.sort_unstable_by.ensures.sorted is_used_below used_order (answers_always _ _ _ (λ f a r g k. ap is_lt (search rules)))
