use Rattle.std.proofs.Common.{ℕ, [], ◌∷◌, subst}
use Rattle.nx_ring.specs.Checkpoint.{Seen}
use Rattle.space_pool.specs.declared.entry.Queue.TheVariants.{Main}
use Rattle.reach_rules.specs.declared.naming.LookUp.TheVariants.{ByMapping}
use Rattle.reach_rules.specs.declared.naming.Namer.{Namer}
use Rattle.reach_rules.specs.declared.naming.TreeKind.TheVariants.{FreeQueue}
use Rattle.reach_rules.specs.declared.naming.Expected.TheVariants.{TreeRoot}
use Rattle.reach_rules.specs.declared.naming.Naming.{Naming}
use Rattle.reach_rules.specs.Next.{unless_zero}
use Rattle.reach_gather.specs.Space.{manager_namer}
use Rattle.reach_gather.specs.Adds.{Adds}
use Rattle.reach_gather.proofs.Noted.{no-err, same-err}
use Rattle.reach_gather.proofs.Fields.{adds-zero, adds-some}
use Rattle.reach_gather.proofs.space.add_main.Goals as goal

pub returns-then-oid-eq0-clause-clear : goal.returns-then-oid-eq0-clause-clear
returns-then-oid-eq0-clause-clear g c = λ image told.
    let seen : Seen = c.args.cp.now in
    let me : Namer = manager_namer seen.nx in
    subst (λ (oid : ℕ). Adds image seen (unless_zero me 248 (TreeRoot (FreeQueue Main)) ByMapping oid) [] c.args.out.now c.args.out.now) c.main_root-oid.ensures
    (adds-zero image seen me 248 (TreeRoot (FreeQueue Main)) ByMapping c.main_root-oid.result c.args.out.now c.if-oid-eq0.true)

pub returns-in-Ok : goal.returns-in-Ok
returns-in-Ok g c = record {
  clear = (λ image told.
      let seen : Seen = c.args.cp.now in
      let me : Namer = manager_namer seen.nx in
      subst (λ (oid : ℕ). Adds image seen (unless_zero me 248 (TreeRoot (FreeQueue Main)) ByMapping oid) [] c.args.out.now c.add_main_queue.new.out) c.main_root-oid.ensures
      (adds-some image seen me 248 (TreeRoot (FreeQueue Main)) ByMapping c.main_root-oid.result [] c.args.out.now c.add_main_queue.new.out c.if-oid-eq0.false
      (subst (λ (n : Naming). Adds image seen (n ∷ []) [] c.args.out.now c.add_main_queue.new.out) c.root-root.ensures (c.in-Ok.ensures.clear image told))));
  present = λ image told is. tt;
  reads = c.in-Ok.ensures.reads;
  cause = λ e. absurd (no-err _ _ e);
  kept = c.add_main_queue.ensures.kept;
}

pub returns-in-Err : goal.returns-in-Err
returns-in-Err g c = record {
  clear = λ image told. tt;
  present = λ image told is. c.in-Err.ensures.present image told is;
  reads = λ image told. tt;
  cause = λ e. c.in-Err.ensures.cause (same-err c.in-Err.stop _ e);
  kept = c.add_main_queue.ensures.kept;
}
