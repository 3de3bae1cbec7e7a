use Rattle.ext_ref.proofs.Onward.{reaches-start, reaches-more}
use Rattle.ext_ref.proofs.covering.reach_from.Goals as goal

pub loop-range-init : goal.loop-range-init
loop-range-init c = reaches-start c.args.ranges.now c.args.block

pub loop-range-preserved : goal.loop-range-preserved
loop-range-preserved c = reaches-more c.args.ranges.now c.loop-range.range-index _ c.args.block c.loop-range.far c.further-far.result c.loop-range-test.true c.loop-range.invariant c.further-far.ensures
