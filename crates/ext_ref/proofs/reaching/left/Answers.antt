use Rattle.ext_ref.specs.declared.covering.Span.{Span}
use Rattle.ext_ref.proofs.Left.{begin-next, end-next, left-more}
use Rattle.ext_ref.proofs.reaching.left.Goals as goal

pub loop-span-preserved : goal.loop-span-preserved
loop-span-preserved c =
    let none : Span = record { first = 0; end = 0 } in
    let cover = c.args.cover.now in
    let i = c.loop-span.span-index in
    record {
      apart = c.in_ok-next.ensures.up_to.apart;
      full = c.in_ok-next.ensures.up_to.full;
      up_to = begin-next cover c.add_left.new.spans.items i none c.requires.apart c.loop-span-test.true c.in_ok-next.ensures.up_to;
      before = end-next cover c.args.others.now i c.in_ok-next.next none c.requires.apart c.loop-span-test.true c.in_ok-next.ensures.next;
      blocks = λ k. left-more cover c.args.others.now c.loop-span.spans.items c.add_left.new.spans.items i none k c.loop-span-test.true (c.loop-span.invariant.blocks k) (c.in_ok-next.ensures.blocks k);
    }
