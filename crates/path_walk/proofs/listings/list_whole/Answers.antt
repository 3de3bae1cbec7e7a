use Rattle.std.proofs.Common.{Err, ap, sym, Vec, Global, Ok}
use Rattle.vol_view.specs.Volumes.{Loaded}
use Rattle.view_rules.specs.Facts.{Facts}
use Rattle.view_rules.specs.Rules.{view_facts}
use Rattle.path_search.specs.Listing.{listing}
use Rattle.path_search.specs.declared.target.Target.{Target}
use Rattle.path_search.proofs.Known.{unanswered_given, known_given, known_there}
use Rattle.path_search.specs.Needs.{ListingNeeds, HasEntriesOf}
use Rattle.path_search.proofs.Needed.{rests_stopped, rests_known, all_entries, where_as, listing_mono}
use Rattle.path_search.specs.Parts.{of_any}
use Rattle.path_walk.proofs.listings.list_whole.Goals as goal

pub returns-in-Err-clause-exact : goal.returns-in-Err-clause-exact
returns-in-Err-clause-exact g c image told lawful =
    unanswered_given image c.args.site.now c.args.volume.now c.args.view.now (λ (v : Vec Target Global). v.items) (listing (view_facts image c.args.site.now c.args.volume.now c.args.view.now) c.args.path.now) c.in-Err.stop lawful (c.in-Err.ensures.present image told) c.in-Err.ensures.unanswered

pub returns-in-Err-list-clause-exact : goal.returns-in-Err-list-clause-exact
returns-in-Err-list-clause-exact g c image told lawful =
    let facts : Facts = view_facts image c.args.site.now c.args.volume.now c.args.view.now in
    known_given image c.args.site.now c.args.volume.now c.args.view.now (λ (v : Vec Target Global). v.items) (listing facts c.args.path.now) (Err c.in-Err-list.stop) lawful (c.in-Err-list.ensures.known facts (sym (ap (λ (v : Loaded). v.names) c.volume.view_is)) (c.in-Ok.ensures.clear image told))

pub returns-in-Err-list-clause-present : goal.returns-in-Err-list-clause-present
returns-in-Err-list-clause-present g c image told =
    let facts : Facts = view_facts image c.args.site.now c.args.volume.now c.args.view.now in
    known_there image c.args.site.now c.args.volume.now c.args.view.now (λ (v : Vec Target Global). v.items) (listing facts c.args.path.now) c.in-Err-list.stop (c.in-Err-list.ensures.known facts (sym (ap (λ (v : Loaded). v.names) c.volume.view_is)) (c.in-Ok.ensures.clear image told))

pub returns-in-Err-clause-rests : goal.returns-in-Err-clause-rests
returns-in-Err-clause-rests g c image told =
    let facts : Facts = view_facts image c.args.site.now c.args.volume.now c.args.view.now in
    rests_stopped (λ (v : Vec Target Global). v.items) (listing facts c.args.path.now) (ListingNeeds facts (HasEntriesOf image c.args.site.now c.args.volume.now c.args.view.now) c.args.path.now) c.in-Err.stop c.in-Err.ensures.unanswered

pub returns-in-Ok-list-clause-rests : goal.returns-in-Ok-list-clause-rests
returns-in-Ok-list-clause-rests g c image told =
    let facts : Facts = view_facts image c.args.site.now c.args.volume.now c.args.view.now in
    rests_known facts c.args.view.now (λ (v : Vec Target Global). v.items) (listing facts c.args.path.now) (ListingNeeds facts (HasEntriesOf image c.args.site.now c.args.volume.now c.args.view.now) c.args.path.now) (Ok c.in-Ok-list.targets) (c.in-Ok-list.ensures.known facts (sym (ap (λ (v : Loaded). v.names) c.volume.view_is)) (c.in-Ok.ensures.clear image told)) (where_as {T = Vec Target Global} (ListingNeeds facts of_any c.args.path.now) (ListingNeeds facts (HasEntriesOf image c.args.site.now c.args.volume.now c.args.view.now) c.args.path.now) (Ok c.in-Ok-list.targets) (λ h. listing_mono facts c.args.path.now of_any (HasEntriesOf image c.args.site.now c.args.volume.now c.args.view.now) (λ id u. all_entries image c.args.site.now c.args.volume.now c.args.view.now (c.in-Ok.ensures.rests image told) id) h) (c.in-Ok-list.ensures.needs facts (sym (ap (λ (v : Loaded). v.names) c.volume.view_is)) (c.in-Ok.ensures.clear image told)))

pub returns-in-Err-list-clause-rests : goal.returns-in-Err-list-clause-rests
returns-in-Err-list-clause-rests g c image told =
    let facts : Facts = view_facts image c.args.site.now c.args.volume.now c.args.view.now in
    rests_known facts c.args.view.now (λ (v : Vec Target Global). v.items) (listing facts c.args.path.now) (ListingNeeds facts (HasEntriesOf image c.args.site.now c.args.volume.now c.args.view.now) c.args.path.now) (Err c.in-Err-list.stop) (c.in-Err-list.ensures.known facts (sym (ap (λ (v : Loaded). v.names) c.volume.view_is)) (c.in-Ok.ensures.clear image told)) (where_as {T = Vec Target Global} (ListingNeeds facts of_any c.args.path.now) (ListingNeeds facts (HasEntriesOf image c.args.site.now c.args.volume.now c.args.view.now) c.args.path.now) (Err c.in-Err-list.stop) (λ h. listing_mono facts c.args.path.now of_any (HasEntriesOf image c.args.site.now c.args.volume.now c.args.view.now) (λ id u. all_entries image c.args.site.now c.args.volume.now c.args.view.now (c.in-Ok.ensures.rests image told) id) h) (c.in-Err-list.ensures.needs facts (sym (ap (λ (v : Loaded). v.names) c.volume.view_is)) (c.in-Ok.ensures.clear image told)))
