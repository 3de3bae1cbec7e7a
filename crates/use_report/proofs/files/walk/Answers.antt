use Rattle.std.proofs.Common.{◌≡◌, false, ap, subst}
use Rattle.std.specs.List.{list_any}
use Rattle.obj_base.specs.Stops.{Tells, IsFree}
use Rattle.omap_map.specs.Maps.{Contents}
use Rattle.omap_map.specs.Resolve.{named_by}
use Rattle.bt_cursor.specs.Tree.{tree_in}
use Rattle.bt_cursor.specs.Line.{line_of}
use Rattle.bt_cursor.specs.WholeTree.{IsWhole}
use Rattle.bt_cursor.specs.Faults.{HasFeature}
use Rattle.bt_cursor.specs.Gathered.{IsGatherFault, IsGathered}
use Rattle.vol_view.specs.Volumes.{Loaded}
use Rattle.use_report.specs.Gathered.{is_refused, Gathers}
use Rattle.use_report.proofs.Through.{gathered-files}
use Rattle.use_report.proofs.files.walk.Goals as goal

pub returns-in-Err-clause-present : goal.returns-in-Err-clause-present
returns-in-Err-clause-present g c image told =
    let tree = λ (o : Contents). tree_in g.K.TreeKey.shape c.args.site.now (λ oid. named_by o.records c.args.view.now.xid c.args.site.now.blocks oid) image in
    let same : c.volume.inside.omap ≡ c.args.volume.now.omap = ap (λ (v : Loaded). v.omap) c.volume.view_is in
    subst (λ (o : Contents). Tells (IsGatherFault (tree o) c.args.view.now.root_oid is_refused) (HasFeature (tree o) c.args.view.now.root_oid) c.in-Err.stop) same (c.in-Err.ensures.present image told)

pub returns-in-Err-clause-exact : goal.returns-in-Err-clause-exact
returns-in-Err-clause-exact g c image told =
    let tree = λ (o : Contents). tree_in g.K.TreeKey.shape c.args.site.now (λ oid. named_by o.records c.args.view.now.xid c.args.site.now.blocks oid) image in
    let same : c.volume.inside.omap ≡ c.args.volume.now.omap = ap (λ (v : Loaded). v.omap) c.volume.view_is in
    subst (λ (o : Contents). IsWhole (tree o) c.args.view.now.root_oid → list_any is_refused (line_of (tree o) c.args.view.now.root_oid) ≡ false → IsFree c.in-Err.stop) same (c.in-Err.ensures.exact image told)

pub returns-clause-clear : goal.returns-clause-clear
returns-clause-clear g c image told =
    let tree = λ (o : Contents). tree_in g.K.TreeKey.shape c.args.site.now (λ oid. named_by o.records c.args.view.now.xid c.args.site.now.blocks oid) image in
    let same : c.volume.inside.omap ≡ c.args.volume.now.omap = ap (λ (v : Loaded). v.omap) c.volume.view_is in
    let k = c.in-Ok.kept in
    gathered-files (tree c.args.volume.now.omap) c.args.view.now.root_oid (record { below = k.below; extents = k.extents })
    (subst (λ (o : Contents). IsGathered (tree o) c.args.view.now.root_oid (Gathers k.below.items k.extents.items) is_refused) same (c.in-Ok.ensures.clear image told))
