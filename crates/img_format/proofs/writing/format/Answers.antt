use Rattle.std.proofs.Common.{arith, sym, ◌∙◌}
use Rattle.std.proofs.lemmas.Result.{on_ok_weaker}
use Rattle.img_format.proofs.Putting.{used-cut, all-put, all-cut, not-failed}
use Rattle.img_format.proofs.writing.format.Goals as goal

pub returns-then-is_err-clause-part : goal.returns-then-is_err-clause-part
returns-then-is_err-clause-part g c =
    used-cut (g.W.Sink.contents c.args.out.now) (g.W.Sink.contents c.put.new.self) c.args.spec.now c.deref.result.now (omega (arith, c.requires.least)) (c.deref.ensures.value ∙ c.in-Ok.ensures) c.put.ensures.part

pub returns-clause-put : goal.returns-clause-put
returns-clause-put g c = on_ok_weaker c.put_zeros.result
    (all-put (g.W.Sink.contents c.args.out.now) (g.W.Sink.contents c.put.new.self) (g.W.Sink.contents c.put_zeros.new.out) c.args.spec.now c.deref.result.now (omega (arith, c.requires.least)) (c.deref.ensures.value ∙ c.in-Ok.ensures)
    (not-failed c.put.result _ (sym c.is_err.ensures.value ∙ c.if-is_err.false) c.put.ensures.put))
    c.put_zeros.ensures.put

pub returns-clause-part : goal.returns-clause-part
returns-clause-part g c =
    all-cut (g.W.Sink.contents c.args.out.now) (g.W.Sink.contents c.put.new.self) (g.W.Sink.contents c.put_zeros.new.out) c.args.spec.now c.deref.result.now (omega (arith, c.requires.least)) (c.deref.ensures.value ∙ c.in-Ok.ensures)
    (not-failed c.put.result _ (sym c.is_err.ensures.value ∙ c.if-is_err.false) c.put.ensures.put)
    c.put_zeros.ensures.part
