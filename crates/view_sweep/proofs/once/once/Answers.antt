use Rattle.view_sweep.proofs.Onces.{run-all}
use Rattle.view_sweep.proofs.once.once.Goals as goal

pub returns-clause-once : goal.returns-clause-once
returns-clause-once c = run-all c.args.views.now c.args.sets.now c.args.asked.now c.loop-i.seen.items c.loop-i.from c.loop-i.i c.requires.sets c.requires.numbers c.loop-i-test.false c.loop-i.invariant
