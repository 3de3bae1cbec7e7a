use Rattle.std.proofs.Common.{[]}
use Rattle.reach_rules.specs.declared.naming.LookUp.TheVariants.{ByBlock}
use Rattle.reach_rules.specs.declared.naming.TreeKind.TheVariants.{ExtentRefs}
use Rattle.reach_rules.specs.declared.naming.Expected.TheVariants.{TreeRoot}
use Rattle.reach_gather.proofs.Noted.{no-err, same-err}
use Rattle.reach_gather.proofs.Fields.{adds-zero, adds-some, live-some}
use Rattle.reach_gather.proofs.volumes.add_live_extents.Goals as goal

pub returns-then-oid-eq0-clause-clear : goal.returns-then-oid-eq0-clause-clear
returns-then-oid-eq0-clause-clear g c = λ image told. adds-zero image c.args.cp.now c.args.namer 144 (TreeRoot ExtentRefs) ByBlock c.args.oid c.args.out.now c.if-oid-eq0.true

pub returns-in-Ok : goal.returns-in-Ok
returns-in-Ok g c = record {
  clear = λ image told. adds-some image c.args.cp.now c.args.namer 144 (TreeRoot ExtentRefs) ByBlock c.args.oid [] c.args.out.now c.add_extents.new.out c.if-oid-eq0.false (c.in-Ok.ensures.clear image told);
  present = λ image told live. tt;
  reads = c.in-Ok.ensures.reads;
  cause = λ e. absurd (no-err _ _ e);
  kept = c.add_extents.ensures.kept;
}

pub returns-in-Err : goal.returns-in-Err
returns-in-Err g c = record {
  clear = λ image told. tt;
  present = λ image told live.
      c.in-Err.ensures.present image told (live-some image c.args.cp.now c.args.namer 144 (TreeRoot ExtentRefs) ByBlock c.args.oid c.if-oid-eq0.false live);
  reads = λ image told. tt;
  cause = λ e. c.in-Err.ensures.cause (same-err c.in-Err.stop _ e);
  kept = c.add_extents.ensures.kept;
}
