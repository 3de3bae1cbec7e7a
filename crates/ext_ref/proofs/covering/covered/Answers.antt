use Rattle.std.proofs.Common.{arith, ◌+◌, ◌≤◌, ◌<◌, sym}
use Rattle.ext_ref.proofs.Onward.{covered-stuck, covered-all}
use Rattle.ext_ref.proofs.covering.covered.Goals as goal

pub returns-then-next-block : goal.returns-then-next-block
returns-then-next-block c =
    let inside : c.loop-block.block < c.args.first + c.args.length = omega arith in
    sym (covered-stuck c.args.ranges.now c.args.first c.args.length c.loop-block.block c.loop-block.invariant.from inside (c.reach_from-next.ensures.stuck c.if-next-block.true))

pub returns : goal.returns
returns c =
    let past : c.args.first + c.args.length ≤ c.loop-block.block = omega arith in
    sym (covered-all c.args.ranges.now c.args.first c.args.length c.loop-block.block past c.loop-block.invariant.owned)
