use Rattle.std.proofs.Common.{◌≡◌, ap, Err}
use Rattle.obj_base.specs.declared.stop.Stop.TheVariants.{ReadFault}
use Rattle.bt_keys.specs.Shapes.{omap_snap_shape}
use Rattle.apfs_model.specs.Blocks.{in_container}
use Rattle.omap_map.specs.Records.{snapshots_of}
use Rattle.omap_map.specs.Maps.{snapshot_tree}
use Rattle.omap_map.proofs.Kept.{says_tells, says_read, gathered-tree}
use Rattle.omap_map.proofs.trees.snapshots.Goals as goal

pub returns-in-Ok-clause-clear : goal.returns-in-Ok-clause-clear
returns-in-Ok-clause-clear g c image told =
    gathered-tree snapshots_of (snapshot_tree image c.args.site.now) c.args.root c.in-Ok.kept.snapshots.items c.in-Ok.kept.steps.items (g.S.BlockSource.reads c.args.src.now) (g.S.BlockSource.reads c.gather.new.src)
    (c.in-Ok.ensures.clear image told) (c.in-Ok.ensures.reads image told)

pub returns-in-Err-clause-present : goal.returns-in-Err-clause-present
returns-in-Err-clause-present g c image told = says_tells (snapshot_tree image c.args.site.now) c.args.root c.in-Err.stop c.raise.result c.raise.ensures (c.in-Err.ensures.present image told)

pub returns-in-Err-clause-cause : goal.returns-in-Err-clause-cause
returns-in-Err-clause-cause g c = λ e.
    let read : c.raise.result ≡ ReadFault = cc in
    c.in-Err.ensures.cause (ap Err (says_read c.args.root c.in-Err.stop c.raise.result c.raise.ensures read))
