use Rattle.std.proofs.Common.{sym, subst, ap, arith, false}
use Rattle.obj_base.specs.Stops.{Tells}
use Rattle.bt_cursor.specs.Tree.{tree_in}
use Rattle.bt_cursor.specs.Faults.{HasFeature}
use Rattle.bt_cursor.specs.Seen.{reads_for}
use Rattle.bt_cursor.specs.Gathered.{IsGatherFault}
use Rattle.bt_cursor.proofs.Gathers.{node_tells}
use Rattle.bt_cursor.proofs.gathering.start.Goals as goal

pub returns-in-Ok-clause-walked : goal.returns-in-Ok-clause-walked
returns-in-Ok-clause-walked g c image told = record {
  has = c.in-Ok.ensures.passed image told;
  few = omega (arith, ap reads_for c.in-Ok.ensures.deep, c.in-Ok.ensures.reads);
}

pub returns-in-Err-clause-present : goal.returns-in-Err-clause-present
returns-in-Err-clause-present g c image told =
    let tree = tree_in g.K.TreeKey.shape c.args.site.now (g.N.Namer.named c.args.namer) image in
    subst (Tells (IsGatherFault tree c.args.root (λ _. false)) (HasFeature tree c.args.root)) (sym c.raise.ensures)
    (node_tells tree c.args.root (λ _. false) c.in-Err.stop (c.in-Err.ensures.present image told))
