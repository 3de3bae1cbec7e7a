use Rattle.std.proofs.Common.{◌∙◌, Vec, Global, subst}
use Rattle.bt_cursor.specs.Flat.{flat_of}
use Rattle.bt_cursor.specs.Cursors.{root_of, tree_of}
use Rattle.vol_view.specs.Volumes.{Loaded}
use Rattle.vol_view.specs.Views.{view_tree}
use Rattle.view_rules.specs.Facts.{facts_in}
use Rattle.path_search.specs.Listing.{listing}
use Rattle.path_search.specs.declared.target.Target.{Target}
use Rattle.path_search.proofs.Searched.{tells_at}
use Rattle.path_search.proofs.Stays.{says_at}
use Rattle.path_search.specs.Needs.{ListingNeeds}
use Rattle.path_search.specs.Parts.{Leads, NeedsIn, WhereLed}
use Rattle.path_walk.proofs.listings.search_by.Goals as goal

pub returns-in-Ok-list-clause-leads : goal.returns-in-Ok-list-clause-leads
returns-in-Ok-list-clause-leads g c image told ordered =
    let tree = view_tree g.K.TreeKey.shape image c.args.site.now c.args.volume.now c.args.view.now in
    subst (λ (loaded : Loaded). Leads (λ (v : Vec Target Global). v.items) (listing (facts_in loaded.names (flat_of tree c.args.view.now.root_oid)) c.args.path.now) c.in-Ok-list.onward) c.volume.view_is
    (says_at (λ t r. Leads (λ (v : Vec Target Global). v.items) (listing (facts_in c.volume.inside.names (flat_of t r)) c.args.path.now) c.in-Ok-list.onward) c.in-Ok.cursor image (c.in-Ok.ensures.tree image) c.in-Ok.ensures.root ordered
    (c.in-Ok-list.ensures.leads image (c.in-Ok.ensures.kept.same_bytes ∙ told) (c.in-Ok.ensures.within image told)))

pub returns-in-Ok-list-clause-needs : goal.returns-in-Ok-list-clause-needs
returns-in-Ok-list-clause-needs g c image told ordered =
    let tree = view_tree g.K.TreeKey.shape image c.args.site.now c.args.volume.now c.args.view.now in
    subst (λ (v : Loaded). WhereLed (NeedsIn (λ facts has_all. ListingNeeds facts has_all c.args.path.now) v.names tree c.args.view.now.root_oid) c.in-Ok-list.onward) c.volume.view_is
    (says_at (λ t r. WhereLed (NeedsIn (λ facts has_all. ListingNeeds facts has_all c.args.path.now) c.volume.inside.names t r) c.in-Ok-list.onward) c.in-Ok.cursor image (c.in-Ok.ensures.tree image) c.in-Ok.ensures.root ordered
    (c.in-Ok-list.ensures.needs image (c.in-Ok.ensures.kept.same_bytes ∙ told) (c.in-Ok.ensures.within image told)))

pub returns-clause-present : goal.returns-clause-present
returns-clause-present g c image told =
    tells_at (tree_of c.in-Ok.cursor image) (view_tree g.K.TreeKey.shape image c.args.site.now c.args.volume.now c.args.view.now) (root_of c.in-Ok.cursor) c.args.view.now.root_oid c.in-Err-list.stop (c.in-Ok.ensures.tree image) c.in-Ok.ensures.root
    (c.in-Err-list.ensures.present image (c.in-Ok.ensures.kept.same_bytes ∙ told) (c.in-Ok.ensures.within image told))
