use Rattle.std.proofs.Common.{◌≡◌, ◌≤◌, ◌<◌, ℕ, List, length, arith, get_or, max, min}
use Rattle.ext_ref.specs.declared.covering.Span.{Span}
use Rattle.ext_ref.proofs.Left.{up-later, end-more, cut-at, past-all, filled}
use Rattle.ext_ref.proofs.reaching.add_left.Goals as goal

pub returns-then-span-other-clause-blocks : goal.returns-then-span-other-clause-blocks
returns-then-span-other-clause-blocks c =
    let none : Span = record { first = 0; end = 0 } in
    let others : List Span = c.args.others.now in
    let at : ℕ = c.loop-next.at in
    let end : ℕ = c.args.span.end in
    let gap : c.min.result ≡ min end (get_or others c.loop-next.next none).first = omega arith in
    λ k. filled c.args.spans.now.items c.loop-next.spans.items c.add_between.new.spans.items others c.args.span.first at c.min.result end k
    c.loop-next.invariant.low c.loop-next.invariant.high (omega arith) (c.loop-next.invariant.blocks k) (c.in_ok-add_between.ensures.blocks k)
    (λ more less. cut-at others c.loop-next.next at end c.min.result end k none c.requires.apart c.loop-next.invariant.before c.loop-next-test.true gap (omega arith) (omega arith) more less)

pub loop-next-preserved : goal.loop-next-preserved
loop-next-preserved c =
    let none : Span = record { first = 0; end = 0 } in
    let others : List Span = c.args.others.now in
    let other : Span = get_or others c.loop-next.next none in
    let at : ℕ = c.loop-next.at in
    let to : ℕ = c.max-at.result in
    let end : ℕ = c.args.span.end in
    let inside : c.loop-next.next < length others = c.loop-next-test.true in
    let proper : other.first ≤ other.end = c.requires.apart.proper c.loop-next.next none inside in
    let gap : c.min.result ≡ min end other.first = omega arith in
    let most : to ≡ max at other.end = c.max-at.ensures in
    let fits : other.end ≤ end = c.if-span-other.false in
    let low : c.args.span.first ≤ at = c.loop-next.invariant.low in
    let high : at ≤ end = c.loop-next.invariant.high in
    record {
      low = omega arith;
      high = omega arith;
      up_to = up-later at to c.add_between.new.spans.items (omega arith) c.in_ok-add_between.ensures.up_to;
      before = end-more at to c.loop-next.next others none (omega arith) inside (omega arith) c.loop-next.invariant.before;
      blocks = λ k. filled c.args.spans.now.items c.loop-next.spans.items c.add_between.new.spans.items others c.args.span.first at c.min.result to k
          low (omega arith) (omega arith) (c.loop-next.invariant.blocks k) (c.in_ok-add_between.ensures.blocks k)
          (λ more less. cut-at others c.loop-next.next at end c.min.result to k none c.requires.apart c.loop-next.invariant.before inside gap (omega arith) (omega arith) more less);
    }

pub returns-clause-blocks : goal.returns-clause-blocks
returns-clause-blocks c =
    let end : ℕ = c.args.span.end in
    λ k. filled c.args.spans.now.items c.loop-next.spans.items c.add_between-2.new.spans.items c.args.others.now c.args.span.first c.loop-next.at end end k
    c.loop-next.invariant.low c.loop-next.invariant.high (omega arith) (c.loop-next.invariant.blocks k) (c.in_ok-add_between-2.ensures.blocks k)
    (λ more less. past-all c.args.others.now c.loop-next.next c.loop-next.at end k c.loop-next-test.false c.loop-next.invariant.before more less)
