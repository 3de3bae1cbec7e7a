use Rattle.ext_ref.specs.declared.covering.Span.{Span}
use Rattle.ext_ref.proofs.Spans.{begin-later}
use Rattle.ext_ref.proofs.rising.risen.Goals as goal

pub loop-span-preserved : goal.loop-span-preserved
loop-span-preserved c =
    let none : Span = record { first = 0; end = 0 } in
    record {
      rising = c.in_ok-far.ensures.rising;
      by = begin-later c.args.sorted.now c.put_risen.new.spans.items c.loop-span.span-index none c.loop-span-test.true c.requires c.in_ok-far.ensures.by;
      far = c.in_ok-far.ensures.far;
    }
