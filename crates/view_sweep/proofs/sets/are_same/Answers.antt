use Rattle.std.proofs.Common.{◌<◌, get_or, length, sym, ◌∙◌, arith}
use Rattle.std.proofs.lemmas.List.{take_all, take_more_same}
use Rattle.view_sweep.proofs.Rises.{nowhere, run-is}
use Rattle.view_sweep.proofs.sets.are_same.Goals as goal

pub loop-i-preserved : goal.loop-i-preserved
loop-i-preserved c =
    let i = c.loop-i.i in
    let within : i < length c.args.b.now = omega (arith, c.loop-i-test.true, c.if-a-b.false) in
    take_more_same c.args.a.now c.args.b.now i nowhere c.loop-i-test.true within c.loop-i.invariant (run-is (get_or c.args.a.now i nowhere) (get_or c.args.b.now i nowhere) c.if-a-i.false c.if-a-i-2.false)

pub returns : goal.returns
returns c = λ _. sym (take_all c.loop-i.i c.args.a.now c.loop-i-test.false) ∙ (c.loop-i.invariant ∙ take_all c.loop-i.i c.args.b.now (omega (arith, c.loop-i-test.false, c.if-a-b.false)))
