use Rattle.std.proofs.Common.{List, rules, ap, subst}
use Rattle.std.specs.Ordering.{is_lt}
use Rattle.std.specs.List.Sorted.{IsPermutation}
use Rattle.std.proofs.lemmas.List.Sorted.{answers_always}
use Rattle.nx_ring.specs.declared.line.RingLine.{RingLine}
use Rattle.nx_ring.specs.Order.{is_before}
use Rattle.nx_ring.proofs.Tried.{line_order}
use Rattle.nx_ring.proofs.order.by_transaction.Goals as goal

pub returns-clause-order : goal.returns-clause-order
returns-clause-order c = subst (λ (xs : List RingLine). IsPermutation xs c.sort_unstable_by.new.self.items) c.in_ok-tried.ensures.items c.sort_unstable_by.ensures.permutation

pub returns-clause-sorted : goal.returns-clause-sorted
returns-clause-sorted c = c.sort_unstable_by.ensures.sorted is_before line_order (answers_always _ _ _ (λ f a r g k. ap is_lt (Prim.search rules)))
