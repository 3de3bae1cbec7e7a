use Rattle.view_sweep.proofs.Stretches.{one-set}
use Rattle.view_sweep.proofs.sweeping.keep_one.Goals as goal

pub returns-clause-sets : goal.returns-clause-sets
returns-clause-sets c = λ all. c.in_ok-number.ensures.sets c.args.views.now all (one-set c.args.views.now c.in_ok-set.set.items _ c.first_place.result c.in_ok-set.ensures.rising c.in_ok-set.ensures.one c.first_place.ensures)
