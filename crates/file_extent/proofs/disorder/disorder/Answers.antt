use Rattle.std.proofs.Common.{sym, subst}
use Rattle.obj_base.specs.Stops.{Tells}
use Rattle.bt_cursor.specs.Tree.{tree_in}
use Rattle.bt_cursor.specs.Faults.{HasFeature}
use Rattle.file_extent.specs.Collected.{IsCollectStop}
use Rattle.file_extent.proofs.Misorders.{gather_tells}
use Rattle.file_extent.proofs.disorder.disorder.Goals as goal

pub returns-in-Err-clause-present : goal.returns-in-Err-clause-present
returns-in-Err-clause-present g c = λ image told id wrong.
    let tree = tree_in g.K.TreeKey.shape c.args.site.now (g.N.Namer.named c.args.namer) image in
    subst (Tells (IsCollectStop c.args.site.now tree c.args.root id) (HasFeature tree c.args.root)) (sym c.raise.ensures)
    (gather_tells c.args.site.now tree c.args.root id c.in-Err.stop (c.in-Err.ensures.present image told))
