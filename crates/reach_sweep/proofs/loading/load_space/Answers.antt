use Rattle.std.proofs.Common.{sym, subst}
use Rattle.obj_base.specs.Stops.{Tells}
use Rattle.reach_rules.specs.Features.{HasFeature}
use Rattle.reach_rules.specs.Reached.{IsReachedFault}
use Rattle.reach_sweep.proofs.SpaceTells.{space-tells}
use Rattle.reach_sweep.proofs.loading.load_space.Goals as goal

pub returns-in-Err-clause-present : goal.returns-in-Err-clause-present
returns-in-Err-clause-present g c = λ image told.
    subst (Tells (IsReachedFault image c.args.cp.now) (HasFeature image c.args.cp.now)) (sym c.raise_space.ensures) (space-tells image c.args.cp.now c.in-Err.stop (c.in-Err.ensures.present image told))
