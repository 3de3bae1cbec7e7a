use Rattle.std.proofs.Common.{arith, ◌≡◌, sym, subst, ◌∙◌}
use Rattle.apfs_model.specs.Sink.{Wrote}
use Rattle.img_format.specs.Steps.{zero_blocks}
use Rattle.img_format.proofs.Putting.{none-put, one-put, one-cut, whole-part, rose-later, not-failed, failed}
use Rattle.img_format.proofs.writing.put_zeros.Goals as goal

pub each-init : goal.each-init
each-init g c = record { put = none-put (g.W.Sink.contents c.args.out.now); later = omega arith }

pub returns-then-is_err-clause-part : goal.returns-then-is_err-clause-part
returns-then-is_err-clause-part g c =
    one-cut (g.W.Sink.contents c.args.out.now) (g.W.Sink.contents c.each.out) (g.W.Sink.contents c.put.new.self) c.each.counter c.args.count c.each-test.true c.each.invariant.put c.put.ensures.part

pub returns-then-is_err-clause-cause : goal.returns-then-is_err-clause-cause
returns-then-is_err-clause-cause g c =
    rose-later (g.W.Sink.faults c.args.out.now) (g.W.Sink.faults c.each.out) (g.W.Sink.faults c.put.new.self) c.each.invariant.later
    (failed c.put.result _ (sym c.is_err.ensures.value ∙ c.if-is_err.true) c.put.ensures.cause)

pub returns-then-is_err-clause-later : goal.returns-then-is_err-clause-later
returns-then-is_err-clause-later g c = omega (arith, c.each.invariant.later, c.put.ensures.later)

pub each-preserved : goal.each-preserved
each-preserved g c = record {
  put = one-put (g.W.Sink.contents c.args.out.now) (g.W.Sink.contents c.each.out) (g.W.Sink.contents c.put.new.self) c.each.counter c.each.invariant.put (not-failed c.put.result _ (sym c.is_err.ensures.value ∙ c.if-is_err.false) c.put.ensures.put);
  later = omega (arith, c.each.invariant.later, c.put.ensures.later);
}

pub returns-clause-put : goal.returns-clause-put
returns-clause-put g c =
    let all : c.each.counter ≡ c.args.count = omega (arith, c.each.auto.counter-end, c.each-test.false) in
    subst (λ n. Wrote (g.W.Sink.contents c.args.out.now) (g.W.Sink.contents c.each.out) (zero_blocks n)) all c.each.invariant.put

pub returns-clause-part : goal.returns-clause-part
returns-clause-part g c =
    let all : c.each.counter ≡ c.args.count = omega (arith, c.each.auto.counter-end, c.each-test.false) in
    let whole = subst (λ n. Wrote (g.W.Sink.contents c.args.out.now) (g.W.Sink.contents c.each.out) (zero_blocks n)) all c.each.invariant.put in
    whole-part (g.W.Sink.contents c.args.out.now) (g.W.Sink.contents c.each.out) (zero_blocks c.args.count) whole

pub returns-clause-later : goal.returns-clause-later
returns-clause-later g c = c.each.invariant.later
