use Rattle.view_sweep.proofs.Stretches.{stretch-front}
use Rattle.view_sweep.proofs.next.end_from.Goals as goal

pub returns-in-Some-clause-stretch : goal.returns-in-Some-clause-stretch
returns-in-Some-clause-stretch c = stretch-front c.args.views.now c.args.low c.stretch_end-end.result c.end_before.result c.end_before.ensures.inside c.stretch_end-end.ensures.stretch
