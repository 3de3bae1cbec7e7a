use Rattle.std.proofs.Common.{◌≡◌, ap, Err}
use Rattle.obj_base.specs.declared.stop.Stop.TheVariants.{ReadFault}
use Rattle.bt_keys.specs.Shapes.{omap_shape}
use Rattle.apfs_model.specs.Blocks.{in_container}
use Rattle.omap_map.specs.Records.{records_of}
use Rattle.omap_map.specs.Maps.{record_tree}
use Rattle.omap_map.proofs.Kept.{says_tells, says_read, gathered-tree, gathered-ascending}
use Rattle.omap_map.proofs.trees.records.Goals as goal

pub returns-in-Ok-clause-clear : goal.returns-in-Ok-clause-clear
returns-in-Ok-clause-clear g c image told =
    gathered-tree records_of (record_tree image c.args.site.now) c.args.root c.in-Ok.kept.records.items c.in-Ok.kept.steps.items (g.S.BlockSource.reads c.args.src.now) (g.S.BlockSource.reads c.gather.new.src)
    (c.in-Ok.ensures.clear image told) (c.in-Ok.ensures.reads image told)

pub returns-in-Ok-clause-ascending : goal.returns-in-Ok-clause-ascending
returns-in-Ok-clause-ascending g c = gathered-ascending c.in-Ok.kept.records.items c.in-Ok.kept.steps.items c.in-Ok.ensures.ordered

pub returns-in-Err-clause-present : goal.returns-in-Err-clause-present
returns-in-Err-clause-present g c image told = says_tells (record_tree image c.args.site.now) c.args.root c.in-Err.stop c.raise.result c.raise.ensures (c.in-Err.ensures.present image told)

pub returns-in-Err-clause-cause : goal.returns-in-Err-clause-cause
returns-in-Err-clause-cause g c = λ e.
    let read : c.raise.result ≡ ReadFault = cc in
    c.in-Err.ensures.cause (ap Err (says_read c.args.root c.in-Err.stop c.raise.result c.raise.ensures read))
