use Rattle.std.proofs.Common.{Err, ap, sym, Ok}
use Rattle.vol_view.specs.Volumes.{Loaded}
use Rattle.view_rules.specs.Facts.{Facts}
use Rattle.view_rules.specs.Rules.{view_facts}
use Rattle.path_search.specs.Places.{Place}
use Rattle.path_search.specs.Found.{found}
use Rattle.path_search.proofs.Known.{unanswered_given, known_given, known_there}
use Rattle.path_search.specs.Needs.{PathNeeds, HasEntriesOf}
use Rattle.path_search.proofs.Needed.{rests_stopped, rests_known, all_entries, where_as, path_mono}
use Rattle.path_search.specs.Parts.{of_any}
use Rattle.path_walk.proofs.locating.locate_whole.Goals as goal

pub returns-in-Err-clause-exact : goal.returns-in-Err-clause-exact
returns-in-Err-clause-exact g c image told lawful =
    unanswered_given image c.args.site.now c.args.volume.now c.args.view.now (λ (p : Place). p) (found (view_facts image c.args.site.now c.args.volume.now c.args.view.now) c.args.path.now) c.in-Err.stop lawful (c.in-Err.ensures.present image told) c.in-Err.ensures.unanswered

pub returns-clause-exact : goal.returns-clause-exact
returns-clause-exact g c image told lawful =
    let facts : Facts = view_facts image c.args.site.now c.args.volume.now c.args.view.now in
    known_given image c.args.site.now c.args.volume.now c.args.view.now (λ (p : Place). p) (found facts c.args.path.now) (Err c.in-Err-locate.stop) lawful (c.in-Err-locate.ensures.known facts (sym (ap (λ (v : Loaded). v.names) c.volume.view_is)) (c.in-Ok.ensures.clear image told))

pub returns-clause-present : goal.returns-clause-present
returns-clause-present g c image told =
    let facts : Facts = view_facts image c.args.site.now c.args.volume.now c.args.view.now in
    known_there image c.args.site.now c.args.volume.now c.args.view.now (λ (p : Place). p) (found facts c.args.path.now) c.in-Err-locate.stop (c.in-Err-locate.ensures.known facts (sym (ap (λ (v : Loaded). v.names) c.volume.view_is)) (c.in-Ok.ensures.clear image told))

pub returns-in-Err-clause-rests : goal.returns-in-Err-clause-rests
returns-in-Err-clause-rests g c image told =
    let facts : Facts = view_facts image c.args.site.now c.args.volume.now c.args.view.now in
    rests_stopped (λ (p : Place). p) (found facts c.args.path.now) (PathNeeds facts (HasEntriesOf image c.args.site.now c.args.volume.now c.args.view.now) c.args.path.now) c.in-Err.stop c.in-Err.ensures.unanswered

pub returns-in-Ok-locate-clause-rests : goal.returns-in-Ok-locate-clause-rests
returns-in-Ok-locate-clause-rests g c image told =
    let facts : Facts = view_facts image c.args.site.now c.args.volume.now c.args.view.now in
    rests_known facts c.args.view.now (λ (p : Place). p) (found facts c.args.path.now) (PathNeeds facts (HasEntriesOf image c.args.site.now c.args.volume.now c.args.view.now) c.args.path.now) (Ok c.in-Ok-locate.place) (c.in-Ok-locate.ensures.known facts (sym (ap (λ (v : Loaded). v.names) c.volume.view_is)) (c.in-Ok.ensures.clear image told)) (where_as {T = Place} (PathNeeds facts of_any c.args.path.now) (PathNeeds facts (HasEntriesOf image c.args.site.now c.args.volume.now c.args.view.now) c.args.path.now) (Ok c.in-Ok-locate.place) (λ h. path_mono facts c.args.path.now of_any (HasEntriesOf image c.args.site.now c.args.volume.now c.args.view.now) (λ id u. all_entries image c.args.site.now c.args.volume.now c.args.view.now (c.in-Ok.ensures.rests image told) id) h) (c.in-Ok-locate.ensures.needs facts (sym (ap (λ (v : Loaded). v.names) c.volume.view_is)) (c.in-Ok.ensures.clear image told)))

pub returns-clause-rests : goal.returns-clause-rests
returns-clause-rests g c image told =
    let facts : Facts = view_facts image c.args.site.now c.args.volume.now c.args.view.now in
    rests_known facts c.args.view.now (λ (p : Place). p) (found facts c.args.path.now) (PathNeeds facts (HasEntriesOf image c.args.site.now c.args.volume.now c.args.view.now) c.args.path.now) (Err c.in-Err-locate.stop) (c.in-Err-locate.ensures.known facts (sym (ap (λ (v : Loaded). v.names) c.volume.view_is)) (c.in-Ok.ensures.clear image told)) (where_as {T = Place} (PathNeeds facts of_any c.args.path.now) (PathNeeds facts (HasEntriesOf image c.args.site.now c.args.volume.now c.args.view.now) c.args.path.now) (Err c.in-Err-locate.stop) (λ h. path_mono facts c.args.path.now of_any (HasEntriesOf image c.args.site.now c.args.volume.now c.args.view.now) (λ id u. all_entries image c.args.site.now c.args.volume.now c.args.view.now (c.in-Ok.ensures.rests image told) id) h) (c.in-Err-locate.ensures.needs facts (sym (ap (λ (v : Loaded). v.names) c.volume.view_is)) (c.in-Ok.ensures.clear image told)))
