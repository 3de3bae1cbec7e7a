use Rattle.std.proofs.Common.{◌<◌, ◌-◌, ◌≤◌, arith}
use Rattle.view_sweep.proofs.Stretches.{part-long, part-rises, cut-some, cut-before}
use Rattle.view_sweep.proofs.next.end_before.Goals as goal

pub count_before-requires : goal.count_before-requires
count_before-requires c = part-rises c.args.views.now c.args.low c.args.end (part-long c.args.views.now c.args.low c.args.end c.requires.end) c.requires.end c.requires.stretch

pub returns-clause-more : goal.returns-clause-more
returns-clause-more c =
    let some : 0 < c.count_before.result = cut-some c.args.views.now c.args.low c.args.end c.args.xid c.count_before.result c.requires.low c.requires.end (part-long c.args.views.now c.args.low c.args.end c.requires.end) c.requires.first c.count_before.ensures.split in
    omega arith

pub returns-clause-before : goal.returns-clause-before
returns-clause-before c = λ p above below.
    let few : c.count_before.result ≤ c.args.end - c.args.low = omega (arith, c.count_before.ensures.bound, part-long c.args.views.now c.args.low c.args.end c.requires.end) in
    cut-before c.args.views.now c.args.low c.args.end c.args.xid c.count_before.result p c.requires.end few c.count_before.ensures.split above below
