use Rattle.view_sweep.proofs.Losts.{nobody}
use Rattle.view_sweep.proofs.Ranked.{place-in}
use Rattle.view_sweep.proofs.Stretches.{first-place}
use Rattle.view_sweep.proofs.sets.first_place.Goals as goal

pub returns-then-at-ordered : goal.returns-then-at-ordered
returns-then-at-ordered c = first-place c.args.views.now c.args.at c.args.ordered c.requires.at c.if-at-ordered.true c.requires.ordered

pub place_of-requires : goal.place_of-requires
place_of-requires c = place-in c.args.views.now c.args.at nobody.view c.requires.at
