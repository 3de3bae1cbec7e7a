use Rattle.std.proofs.Common.{◌≡◌, ◌+◌, take, get_or, ap, ◌∙◌, subst, arith}
use Rattle.std.proofs.lemmas.List.{take_all}
use Rattle.own_settle.specs.InOrder.{AreInOrder}
use Rattle.own_settle.proofs.ClaimLemmas.{leaving-at, twice-at}
use Rattle.own_settle.proofs.OrderLemmas.{order-next, order-wider, blocks-next}
use Rattle.own_settle.proofs.ordered.count_in_order.Goals as goal

pub returns-in_default-clause-present : goal.returns-in_default-clause-present
returns-in_default-clause-present c = λ have. leaving-at c.args.blocks c.args.ranges.now c.each.range-index c.each-test.true have c.in_default.ensures

pub returns-then-range-end-clause-present : goal.returns-then-range-end-clause-present
returns-then-range-end-clause-present c = λ have.
    let v = c.each.invariant in
    twice-at c.args.blocks c.each.end c.args.ranges.now c.each.range-index c.each-test.true c.requires have v.inside v.none v.last c.if-range-end.true

pub each-preserved : goal.each-preserved
each-preserved c =
    let v = c.each.invariant in
    let next = c.in-Some.ensures in
    let ends = next.0 in
    let inside = next.1 in
    let count = v.count in
    let few = v.few in
    let after = c.if-range-end.false in
    record {
      order = order-next c.each.end c.in-Some.next c.args.ranges.now c.each.range-index c.each-test.true v.order after ends;
      inside = inside;
      count = omega (arith, count, blocks-next c.args.ranges.now c.each.range-index c.each-test.true);
      few = omega arith;
      none = λ z. absurd (omega arith);
      last = λ k e. let same : c.each.range-index ≡ k = omega arith in ends ∙ ap (λ j. (get_or c.args.ranges.now j (0, 0)).0 + (get_or c.args.ranges.now j (0, 0)).1) same;
    }

pub returns-clause-clear : goal.returns-clause-clear
returns-clause-clear c =
    let v = c.each.invariant in
    subst (λ ranges. AreInOrder 0 c.args.blocks ranges) (take_all c.each.range-index c.args.ranges.now c.each-test.false)
    (order-wider 0 0 c.each.end c.args.blocks (take c.each.range-index c.args.ranges.now) (omega arith) v.inside v.order)
