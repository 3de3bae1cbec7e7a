use Rattle.view_rules.specs.Facts.{Facts}
use Rattle.view_rules.specs.Rules.{view_facts}
use Rattle.path_search.specs.Places.{Place}
use Rattle.path_search.specs.Found.{found, target_found}
use Rattle.path_search.specs.declared.target.Target.{Target}
use Rattle.path_search.proofs.Known.{given_on, target_lost}
use Rattle.path_search.specs.Needs.{PathNeeds, HasEntriesOf}
use Rattle.path_search.proofs.Needed.{rests_on}
use Rattle.path_walk.proofs.locating.find.Goals as goal

pub returns-in-Err-clause-exact : goal.returns-in-Err-clause-exact
returns-in-Err-clause-exact g c image told lawful =
    let facts : Facts = view_facts image c.args.site.now c.args.volume.now c.args.view.now in
    given_on (λ (p : Place). p) (found facts c.args.path.now) (λ (t : Target). t) (target_found facts c.args.path.now) c.in-Err.stop (target_lost facts c.args.path.now) (c.in-Err.ensures.exact image told lawful)

pub returns-in-Err-clause-rests : goal.returns-in-Err-clause-rests
returns-in-Err-clause-rests g c image told ordered =
    let facts : Facts = view_facts image c.args.site.now c.args.volume.now c.args.view.now in
    rests_on (λ (p : Place). p) (found facts c.args.path.now) (λ (t : Target). t) (target_found facts c.args.path.now) (PathNeeds facts (HasEntriesOf image c.args.site.now c.args.volume.now c.args.view.now) c.args.path.now) c.in-Err.stop (target_lost facts c.args.path.now) (c.in-Err.ensures.rests image told ordered)
