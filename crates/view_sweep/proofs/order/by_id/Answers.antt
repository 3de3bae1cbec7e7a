use Rattle.std.proofs.Common.{rules, ap}
use Rattle.std.specs.Ordering.{is_lt}
use Rattle.std.proofs.lemmas.List.Sorted.{answers_always}
use Rattle.view_sweep.specs.declared.wanted.Asked.{Asked}
use Rattle.view_sweep.specs.Order.{asked_rank}
use Rattle.view_sweep.proofs.Orders.{asked_order, rising}
use Rattle.view_sweep.proofs.order.by_id.Goals as goal

pub returns-clause-sorted : goal.returns-clause-sorted
returns-clause-sorted c =
    rising c.sort_by.new.self.items (c.in_ok-sort_by.ensures.sorted (λ (a b : Asked). is_lt (asked_rank a b)) asked_order (answers_always _ _ _ (λ f a r g k. ap is_lt (search rules))))
