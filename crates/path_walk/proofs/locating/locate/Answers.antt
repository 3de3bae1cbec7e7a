use Rattle.view_rules.specs.Rules.{view_facts}
use Rattle.path_search.specs.Places.{Place}
use Rattle.path_search.specs.Found.{found}
use Rattle.path_search.proofs.Known.{unanswered_given}
use Rattle.path_search.specs.Needs.{PathNeeds, HasEntriesOf}
use Rattle.path_search.proofs.Needed.{rests_stopped, rests_to, rests_ends}
use Rattle.view_rules.specs.Facts.{Facts}
use Rattle.path_walk.proofs.locating.locate.Goals as goal

pub returns-in-Err-clause-exact : goal.returns-in-Err-clause-exact
returns-in-Err-clause-exact g c image told lawful =
    unanswered_given image c.args.site.now c.args.volume.now c.args.view.now (λ (p : Place). p) (found (view_facts image c.args.site.now c.args.volume.now c.args.view.now) c.args.path.now) c.in-Err.stop lawful (c.in-Err.ensures.present image told) c.in-Err.ensures.unanswered

pub returns-in-Err-clause-rests : goal.returns-in-Err-clause-rests
returns-in-Err-clause-rests g c image told ordered =
    let facts : Facts = view_facts image c.args.site.now c.args.volume.now c.args.view.now in
    rests_stopped (λ (p : Place). p) (found facts c.args.path.now) (PathNeeds facts (HasEntriesOf image c.args.site.now c.args.volume.now c.args.view.now) c.args.path.now) c.in-Err.stop c.in-Err.ensures.unanswered

pub returns-in-To-clause-rests : goal.returns-in-To-clause-rests
returns-in-To-clause-rests g c image told ordered =
    let facts : Facts = view_facts image c.args.site.now c.args.volume.now c.args.view.now in
    rests_to (λ (p : Place). p) (found facts c.args.path.now) (PathNeeds facts (HasEntriesOf image c.args.site.now c.args.volume.now c.args.view.now) c.args.path.now) c.in-Ok.onward c.in-To.place c.in-To.is (c.in-Ok.ensures.leads image told ordered) (c.in-Ok.ensures.needs image told ordered)

pub returns-in-Answered-clause-rests : goal.returns-in-Answered-clause-rests
returns-in-Answered-clause-rests g c image told ordered =
    let facts : Facts = view_facts image c.args.site.now c.args.volume.now c.args.view.now in
    rests_ends (λ (p : Place). p) (found facts c.args.path.now) (PathNeeds facts (HasEntriesOf image c.args.site.now c.args.volume.now c.args.view.now) c.args.path.now) c.in-Ok.onward c.in-Answered.answer c.in-Answered.is (c.in-Ok.ensures.leads image told ordered) (c.in-Ok.ensures.needs image told ordered)
