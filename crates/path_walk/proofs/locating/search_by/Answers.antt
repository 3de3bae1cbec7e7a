use Rattle.std.proofs.Common.{◌∙◌, subst}
use Rattle.bt_cursor.specs.Flat.{flat_of}
use Rattle.bt_cursor.specs.Cursors.{root_of, tree_of}
use Rattle.vol_view.specs.Volumes.{Loaded}
use Rattle.vol_view.specs.Views.{view_tree}
use Rattle.view_rules.specs.Facts.{facts_in}
use Rattle.path_search.specs.Places.{Place}
use Rattle.path_search.specs.Found.{found}
use Rattle.path_search.specs.Parts.{Leads, NeedsIn, WhereLed}
use Rattle.path_search.proofs.Searched.{tells_at}
use Rattle.path_search.proofs.Stays.{says_at}
use Rattle.path_search.specs.Needs.{PathNeeds}
use Rattle.path_walk.proofs.locating.search_by.Goals as goal

pub returns-in-Ok-locate-clause-leads : goal.returns-in-Ok-locate-clause-leads
returns-in-Ok-locate-clause-leads g c image told ordered =
    let tree = view_tree g.K.TreeKey.shape image c.args.site.now c.args.volume.now c.args.view.now in
    subst (λ (v : Loaded). Leads (λ (p : Place). p) (found (facts_in v.names (flat_of tree c.args.view.now.root_oid)) c.args.path.now) c.in-Ok-locate.onward) c.volume.view_is
    (says_at (λ t r. Leads (λ (p : Place). p) (found (facts_in c.volume.inside.names (flat_of t r)) c.args.path.now) c.in-Ok-locate.onward) c.in-Ok.cursor image (c.in-Ok.ensures.tree image) c.in-Ok.ensures.root ordered
    (c.in-Ok-locate.ensures.leads image (c.in-Ok.ensures.kept.same_bytes ∙ told) (c.in-Ok.ensures.within image told)))

pub returns-in-Ok-locate-clause-needs : goal.returns-in-Ok-locate-clause-needs
returns-in-Ok-locate-clause-needs g c image told ordered =
    let tree = view_tree g.K.TreeKey.shape image c.args.site.now c.args.volume.now c.args.view.now in
    subst (λ (v : Loaded). WhereLed (NeedsIn (λ facts has_all. PathNeeds facts has_all c.args.path.now) v.names tree c.args.view.now.root_oid) c.in-Ok-locate.onward) c.volume.view_is
    (says_at (λ t r. WhereLed (NeedsIn (λ facts has_all. PathNeeds facts has_all c.args.path.now) c.volume.inside.names t r) c.in-Ok-locate.onward) c.in-Ok.cursor image (c.in-Ok.ensures.tree image) c.in-Ok.ensures.root ordered
    (c.in-Ok-locate.ensures.needs image (c.in-Ok.ensures.kept.same_bytes ∙ told) (c.in-Ok.ensures.within image told)))

pub returns-clause-present : goal.returns-clause-present
returns-clause-present g c image told =
    tells_at (tree_of c.in-Ok.cursor image) (view_tree g.K.TreeKey.shape image c.args.site.now c.args.volume.now c.args.view.now) (root_of c.in-Ok.cursor) c.args.view.now.root_oid c.in-Err-locate.stop (c.in-Ok.ensures.tree image) c.in-Ok.ensures.root
    (c.in-Err-locate.ensures.present image (c.in-Ok.ensures.kept.same_bytes ∙ told) (c.in-Ok.ensures.within image told))
