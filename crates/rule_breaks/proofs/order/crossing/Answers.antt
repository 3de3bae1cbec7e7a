use Rattle.std.proofs.Common.{sym, ◌∙◌, arith}
use Rattle.rule_breaks.proofs.Orders.{nothing, crossing-here, follow-more}
use Rattle.rule_breaks.proofs.order.crossing.Goals as goal

pub returns-then-not-follows-clause-some : goal.returns-then-not-follows-clause-some
returns-then-not-follows-clause-some c = crossing-here c.args.pieces.now c.loop-i.i nothing c.loop-i.invariant.0 c.loop-i-test.true (sym c.follows.ensures ∙ c.if-not-follows.true)

pub loop-i-preserved : goal.loop-i-preserved
loop-i-preserved c = (omega arith, follow-more c.args.pieces.now c.loop-i.i nothing c.loop-i.invariant.0 c.loop-i-test.true c.loop-i.invariant.1 (sym c.follows.ensures ∙ c.if-not-follows.false))
