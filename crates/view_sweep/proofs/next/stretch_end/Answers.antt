use Rattle.view_sweep.proofs.Stretches.{stretch-part}
use Rattle.view_sweep.proofs.next.stretch_end.Goals as goal

pub returns-in-Some-clause-stretch : goal.returns-in-Some-clause-stretch
returns-in-Some-clause-stretch c = stretch-part c.args.views.now c.in-Some.run'.from c.in-Some.run'.end c.args.low c.in-Some.ensures.low (c.requires.all.stretch c.in-Some.run' c.in-Some.ensures.listed)
