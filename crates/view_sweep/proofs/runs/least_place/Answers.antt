use Rattle.std.proofs.Common.{arith}
use Rattle.view_sweep.proofs.Rises.{least-none, least-some}
use Rattle.view_sweep.proofs.runs.least_place.Goals as goal

pub returns-then-at-runs : goal.returns-then-at-runs
returns-then-at-runs c = λ to. least-none c.args.runs.now c.args.from c.ended-at.result to c.ended-at.ensures.split c.if-at-runs.true

pub returns : goal.returns
returns c = least-some c.args.runs.now c.args.from c.ended-at.result c.max.result c.requires c.ended-at.ensures.split (omega (arith, c.ended-at.ensures.bound, c.if-at-runs.false)) c.max.ensures
