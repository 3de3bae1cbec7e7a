use Rattle.std.proofs.Common.{◌≡◌, ℕ, List, Err, ap, sym, Ok}
use Rattle.obj_base.specs.declared.stop.Stop.TheVariants.{Found}
use Rattle.vol_view.specs.Volumes.{Loaded}
use Rattle.view_rules.specs.Facts.{Facts}
use Rattle.view_rules.specs.Rules.{view_facts}
use Rattle.view_tree.specs.Tree.{tree}
use Rattle.path_search.specs.declared.target.Target.{Target}
use Rattle.path_search.specs.declared.stop.PathStop.TheVariants as stops
use Rattle.path_search.proofs.Known.{unanswered_given}
use Rattle.view_tree.proofs.Told.{records_told}
use Rattle.view_tree.proofs.Entered.{tree_given, tree_there, tree_told, tree_rests}
use Rattle.path_search.specs.Needs.{HasEntriesOf, PathNeeds}
use Rattle.path_search.specs.Parts.{of_any}
use Rattle.view_tree.specs.Needs.{TreeNeeds}
use Rattle.path_search.proofs.Needed.{rests_stopped, where_as, path_mono, all_entries}
use Rattle.view_tree.proofs.depth.tree_rows.Goals as goal

pub returns-in-Err-clause-exact : goal.returns-in-Err-clause-exact
returns-in-Err-clause-exact g c image told lawful =
    unanswered_given image c.args.site.now c.args.volume.now c.args.view.now (λ (v : List (List ℕ × Target)). v) (tree (view_facts image c.args.site.now c.args.volume.now c.args.view.now) c.args.path.now) c.in-Err.stop lawful (c.in-Err.ensures.present image told) c.in-Err.ensures.unanswered

pub returns-in-Err-clause-told : goal.returns-in-Err-clause-told
returns-in-Err-clause-told g c image told fault e =
    let same : c.in-Err.stop ≡ Found (stops.Fault fault) = cc in
    records_told c.args.view.now (view_facts image c.args.site.now c.args.volume.now c.args.view.now) c.args.path.now fault (c.in-Err.ensures.walked fault (ap Err same))

pub returns-in-Err-tree_in-clause-exact : goal.returns-in-Err-tree_in-clause-exact
returns-in-Err-tree_in-clause-exact g c image told lawful =
    let facts : Facts = view_facts image c.args.site.now c.args.volume.now c.args.view.now in
    tree_given image c.args.site.now c.args.volume.now c.args.view.now c.args.path.now (λ (v : List (List ℕ × Target)). v) (tree facts c.args.path.now) c.in-Err-tree_in.stop lawful (c.in-Err-tree_in.ensures.known facts (sym (ap (λ (v : Loaded). v.names) c.volume.view_is)) (c.in-Ok.ensures.clear image told))

pub returns-in-Err-tree_in-clause-present : goal.returns-in-Err-tree_in-clause-present
returns-in-Err-tree_in-clause-present g c image told =
    let facts : Facts = view_facts image c.args.site.now c.args.volume.now c.args.view.now in
    tree_there image c.args.site.now c.args.volume.now c.args.view.now c.args.path.now (λ (v : List (List ℕ × Target)). v) (tree facts c.args.path.now) c.in-Err-tree_in.stop (c.in-Err-tree_in.ensures.known facts (sym (ap (λ (v : Loaded). v.names) c.volume.view_is)) (c.in-Ok.ensures.clear image told))

pub returns-in-Err-tree_in-clause-told : goal.returns-in-Err-tree_in-clause-told
returns-in-Err-tree_in-clause-told g c image told fault e =
    let facts : Facts = view_facts image c.args.site.now c.args.volume.now c.args.view.now in
    tree_told facts c.args.view.now c.args.path.now (λ (v : List (List ℕ × Target)). v) (tree facts c.args.path.now) c.in-Err-tree_in.stop fault (c.in-Err-tree_in.ensures.known facts (sym (ap (λ (v : Loaded). v.names) c.volume.view_is)) (c.in-Ok.ensures.clear image told)) e

pub returns-in-Ok-tree_in-clause-clear : goal.returns-in-Ok-tree_in-clause-clear
returns-in-Ok-tree_in-clause-clear g c image told =
    let facts : Facts = view_facts image c.args.site.now c.args.volume.now c.args.view.now in
    c.in-Ok-tree_in.ensures.clear facts (sym (ap (λ (v : Loaded). v.names) c.volume.view_is)) (c.in-Ok.ensures.clear image told)

pub returns-in-Ok-tree_in-clause-files : goal.returns-in-Ok-tree_in-clause-files
returns-in-Ok-tree_in-clause-files g c image told =
    let facts : Facts = view_facts image c.args.site.now c.args.volume.now c.args.view.now in
    c.in-Ok-tree_in.ensures.files facts (sym (ap (λ (v : Loaded). v.names) c.volume.view_is)) (c.in-Ok.ensures.clear image told)

pub returns-in-Err-clause-rests : goal.returns-in-Err-clause-rests
returns-in-Err-clause-rests g c image told = rests_stopped (λ (v : List (List ℕ × Target)). v) (tree (view_facts image c.args.site.now c.args.volume.now c.args.view.now) c.args.path.now) (TreeNeeds image c.args.site.now c.args.volume.now c.args.view.now c.args.path.now) c.in-Err.stop c.in-Err.ensures.unanswered

pub returns-in-Ok-tree_in-clause-rests : goal.returns-in-Ok-tree_in-clause-rests
returns-in-Ok-tree_in-clause-rests g c image told =
    let facts : Facts = view_facts image c.args.site.now c.args.volume.now c.args.view.now in
    tree_rests facts c.args.view.now c.args.path.now (λ (v : List (List ℕ × Target)). v) (tree facts c.args.path.now) (TreeNeeds image c.args.site.now c.args.volume.now c.args.view.now c.args.path.now) (Ok c.in-Ok-tree_in.rows) (c.in-Ok-tree_in.ensures.known facts (sym (ap (λ (v : Loaded). v.names) c.volume.view_is)) (c.in-Ok.ensures.clear image told))
    (where_as {T = List (List ℕ × Target)} (PathNeeds facts of_any c.args.path.now) (TreeNeeds image c.args.site.now c.args.volume.now c.args.view.now c.args.path.now) (Ok c.in-Ok-tree_in.rows)
    (λ h. record { all = c.in-Ok.ensures.rests image told; led = path_mono facts c.args.path.now of_any (HasEntriesOf image c.args.site.now c.args.volume.now c.args.view.now) (λ id u. all_entries image c.args.site.now c.args.volume.now c.args.view.now (c.in-Ok.ensures.rests image told) id) h }) (c.in-Ok-tree_in.ensures.needs facts (sym (ap (λ (v : Loaded). v.names) c.volume.view_is)) (c.in-Ok.ensures.clear image told)))

pub returns-in-Err-tree_in-clause-rests : goal.returns-in-Err-tree_in-clause-rests
returns-in-Err-tree_in-clause-rests g c image told =
    let facts : Facts = view_facts image c.args.site.now c.args.volume.now c.args.view.now in
    tree_rests facts c.args.view.now c.args.path.now (λ (v : List (List ℕ × Target)). v) (tree facts c.args.path.now) (TreeNeeds image c.args.site.now c.args.volume.now c.args.view.now c.args.path.now) (Err c.in-Err-tree_in.stop) (c.in-Err-tree_in.ensures.known facts (sym (ap (λ (v : Loaded). v.names) c.volume.view_is)) (c.in-Ok.ensures.clear image told))
    (where_as {T = List (List ℕ × Target)} (PathNeeds facts of_any c.args.path.now) (TreeNeeds image c.args.site.now c.args.volume.now c.args.view.now c.args.path.now) (Err c.in-Err-tree_in.stop)
    (λ h. record { all = c.in-Ok.ensures.rests image told; led = path_mono facts c.args.path.now of_any (HasEntriesOf image c.args.site.now c.args.volume.now c.args.view.now) (λ id u. all_entries image c.args.site.now c.args.volume.now c.args.view.now (c.in-Ok.ensures.rests image told) id) h }) (c.in-Err-tree_in.ensures.needs facts (sym (ap (λ (v : Loaded). v.names) c.volume.view_is)) (c.in-Ok.ensures.clear image told)))
