use Rattle.std.proofs.Common.{rules, ap}
use Rattle.std.specs.Ordering.{is_lt}
use Rattle.std.proofs.lemmas.List.Sorted.{answers_always}
use Rattle.rule_breaks.specs.Order.{piece_cmp}
use Rattle.rule_breaks.proofs.Orders.{piece_order}
use Rattle.rule_breaks.proofs.order.by_stream.Goals as goal

pub returns-clause-sorted : goal.returns-clause-sorted
returns-clause-sorted c = c.sort_unstable_by.ensures.sorted (λ a b. is_lt (piece_cmp a b)) piece_order (answers_always _ _ _ (λ f a r g k. ap is_lt (search rules)))
