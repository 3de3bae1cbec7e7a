use Rattle.reach_rules.specs.declared.naming.LookUp.TheVariants.{ByBlock}
use Rattle.reach_rules.specs.declared.naming.Namer.TheVariants.{Kept}
use Rattle.reach_rules.specs.declared.naming.TreeKind.TheVariants.{ExtentRefs}
use Rattle.reach_rules.specs.declared.naming.Expected.TheVariants.{TreeRoot}
use Rattle.reach_gather.proofs.Fields.{adds-zero, live-some}
use Rattle.reach_gather.proofs.snapshots.add_kept_extents.Goals as goal

pub returns-then-oid-eq0-clause-clear : goal.returns-then-oid-eq0-clause-clear
returns-then-oid-eq0-clause-clear g c = λ image told. adds-zero image c.args.cp.now (Kept c.args.view) 0 (TreeRoot ExtentRefs) ByBlock c.args.oid c.args.out.now c.if-oid-eq0.true

pub returns-in-Err-clause-present : goal.returns-in-Err-clause-present
returns-in-Err-clause-present g c = λ image told live.
    c.in-Err.ensures.present image told (live-some image c.args.cp.now (Kept c.args.view) 0 (TreeRoot ExtentRefs) ByBlock c.args.oid c.if-oid-eq0.false live)
