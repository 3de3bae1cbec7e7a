use Rattle.std.proofs.Common.{false, refl, sym, subst}
use Rattle.obj_base.specs.Stops.{Tells}
use Rattle.bt_cursor.specs.Faults.{HasFeature}
use Rattle.bt_cursor.specs.Gathered.{IsGatherFault}
use Rattle.bt_cursor.specs.WholeTree.{IsWhole}
use Rattle.vol_view.specs.Volumes.{Loaded}
use Rattle.vol_view.specs.Views.{view_tree}
use Rattle.tree_export.specs.Parts.{IsLookupFault}
use Rattle.tree_export.proofs.Lookups.{gather_lookup}
use Rattle.tree_export.proofs.absent.absent.Goals as goal

pub returns-in-Err-clause-present : goal.returns-in-Err-clause-present
returns-in-Err-clause-present g c image told lacks =
    let tree = view_tree g.K.TreeKey.shape image c.args.site.now c.args.volume.now c.args.view.now in
    subst (Tells (IsLookupFault tree c.args.view.now.root_oid c.args.id) (HasFeature tree c.args.view.now.root_oid)) (sym c.raise.ensures)
    (gather_lookup tree c.args.view.now.root_oid c.args.id c.in-Err.stop
    (subst (λ (v : Loaded). Tells (IsGatherFault (view_tree g.K.TreeKey.shape image c.args.site.now v c.args.view.now) c.args.view.now.root_oid (λ _. false)) (HasFeature (view_tree g.K.TreeKey.shape image c.args.site.now v c.args.view.now) c.args.view.now.root_oid) c.in-Err.stop) c.volume.view_is (c.in-Err.ensures.present image told)))

pub returns-in-Ok-clause-present : goal.returns-in-Ok-clause-present
returns-in-Ok-clause-present g c image told lacks =
    let all = c.in-Ok.ensures.clear image told in
    let whole : IsWhole (view_tree g.K.TreeKey.shape image c.args.site.now c.args.volume.now c.args.view.now) c.args.view.now.root_oid =
    subst (λ (v : Loaded). IsWhole (view_tree g.K.TreeKey.shape image c.args.site.now v c.args.view.now) c.args.view.now.root_oid) c.volume.view_is all.whole in
    (refl, whole, lacks whole.ordered)
