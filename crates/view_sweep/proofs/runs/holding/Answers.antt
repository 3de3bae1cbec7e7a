use Rattle.std.proofs.Common.{arith}
use Rattle.view_sweep.proofs.Rises.{holding-is}
use Rattle.view_sweep.proofs.runs.holding.Goals as goal

pub returns : goal.returns
returns c = holding-is c.args.runs.now c.args.place c.ended-at.result c.ended-at.ensures.split (omega (arith, c.ended-at.ensures.bound, c.if-at-runs.false)) c.if-place-runs.false
