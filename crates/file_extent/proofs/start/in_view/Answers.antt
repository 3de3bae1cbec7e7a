use Rattle.std.proofs.Common.{◌∙◌, subst}
use Rattle.obj_base.specs.Stops.{Tells}
use Rattle.bt_cursor.specs.Faults.{HasFeature}
use Rattle.vol_view.specs.Volumes.{Loaded}
use Rattle.vol_view.specs.Views.{view_tree}
use Rattle.file_extent.specs.Collected.{AreCollected, IsCollectStop}
use Rattle.file_extent.proofs.start.in_view.Goals as goal

pub returns-in-Ok-Some-clause-all : goal.returns-in-Ok-Some-clause-all
returns-in-Ok-Some-clause-all g c = λ image told.
    let all = rw c.in-Ok-Some.field-0-is at (c.in-Ok-Some.ensures.all image told) in
    subst (λ (v : Loaded). AreCollected (view_tree g.K.TreeKey.shape image c.args.site.now v c.args.view.now) c.args.view.now.root_oid c.args.id c.in-Ok-Some.extents.items) c.volume.view_is all

pub returns-in-Ok-None-clause-present : goal.returns-in-Ok-None-clause-present
returns-in-Ok-None-clause-present g c = λ image told.
    let wrong = rw c.in-Ok-None.field-0-is at (c.in-Ok-None.ensures.all image told) in
    subst (λ (v : Loaded). Tells (IsCollectStop c.args.site.now (view_tree g.K.TreeKey.shape image c.args.site.now v c.args.view.now) c.args.view.now.root_oid c.args.id) (HasFeature (view_tree g.K.TreeKey.shape image c.args.site.now v c.args.view.now) c.args.view.now.root_oid) c.disorder.result) c.volume.view_is
    (c.disorder.ensures.present image (c.in-Ok-None.ensures.kept.same_bytes ∙ told) c.args.id wrong)

pub returns-in-Err-clause-present : goal.returns-in-Err-clause-present
returns-in-Err-clause-present g c = λ image told.
    subst (λ (v : Loaded). Tells (IsCollectStop c.args.site.now (view_tree g.K.TreeKey.shape image c.args.site.now v c.args.view.now) c.args.view.now.root_oid c.args.id) (HasFeature (view_tree g.K.TreeKey.shape image c.args.site.now v c.args.view.now) c.args.view.now.root_oid) c.in-Err.stop) c.volume.view_is
    (c.in-Err.ensures.present image told)
