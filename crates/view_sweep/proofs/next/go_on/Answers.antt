use Rattle.std.proofs.Common.{◌-◌, arith}
use Rattle.view_sweep.proofs.Stretches.{far-follows, far-ends}
use Rattle.view_sweep.proofs.next.go_on.Goals as goal

pub returns-then-follows : goal.returns-then-follows
returns-then-follows c = far-follows c.args.views.now c.args.runs.now.items c.args.from c.args.place (c.args.place - 1) (omega (arith, c.requires.far.low)) (c.follows.ensures.one c.if-follows.true) (c.follows.ensures.rises c.if-follows.true) c.requires.far

pub returns : goal.returns
returns c = far-ends c.args.views.now c.args.runs.now.items c.push.new.self.items c.args.from c.args.place c.in_ok-push.ensures.items c.requires.place c.requires.far
