use Rattle.std.proofs.Common.{◌-◌, sym, ◌∙◌, arith}
use Rattle.view_sweep.proofs.Stretches.{order-more, order-distinct}
use Rattle.view_sweep.proofs.sets.in_order.Goals as goal

pub returns-then-not-is_before : goal.returns-then-not-is_before
returns-then-not-is_before c = order-distinct c.args.views.now c.loop-place.place c.loop-place.place (omega arith) c.loop-place.invariant

pub loop-place-preserved : goal.loop-place-preserved
loop-place-preserved c = order-more c.args.views.now c.loop-place.place (c.loop-place.place - 1) (omega (arith, c.loop-place.auto.place)) (sym c.is_before.ensures ∙ c.if-not-is_before.false) c.loop-place.invariant

pub returns : goal.returns
returns c = order-distinct c.args.views.now c.loop-place.place _ (omega (arith, c.loop-place-test.false)) c.loop-place.invariant
