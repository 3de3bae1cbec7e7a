use Rattle.std.proofs.Common.{ap, ◌∙◌, subst}
use Rattle.obj_base.specs.Stops.{Tells}
use Rattle.bt_cursor.specs.Faults.{IsNodeFault, HasFeature}
use Rattle.vol_view.specs.Volumes.{Loaded}
use Rattle.vol_view.specs.Views.{view_tree}
use Rattle.path_search.proofs.by_search.open_view.Goals as goal

pub returns-in-Ok-clause-tree : goal.returns-in-Ok-clause-tree
returns-in-Ok-clause-tree g c image = ap (λ f. f image) c.in-Ok.ensures.tree ∙ ap (λ (v : Loaded). view_tree g.K.TreeKey.shape image c.args.site.now v c.args.view.now) c.volume.view_is

pub returns-in-Err-clause-present : goal.returns-in-Err-clause-present
returns-in-Err-clause-present g c image told =
    subst (λ (v : Loaded). Tells (IsNodeFault (view_tree g.K.TreeKey.shape image c.args.site.now v c.args.view.now) c.args.view.now.root_oid) (HasFeature (view_tree g.K.TreeKey.shape image c.args.site.now v c.args.view.now) c.args.view.now.root_oid) c.in-Err.stop) c.volume.view_is (c.in-Err.ensures.present image told)
