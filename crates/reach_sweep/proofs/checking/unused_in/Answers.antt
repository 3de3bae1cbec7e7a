use Rattle.std.proofs.Common.{List, ◌∙◌, subst}
use Rattle.obj_base.specs.Stops.{Tells, NoFeature}
use Rattle.view_sweep.specs.declared.used.Used.{Used}
use Rattle.view_sweep.specs.Unused.{AreAllUsed, IsUnusedHere}
use Rattle.reach_sweep.proofs.checking.unused_in.Goals as goal

pub returns-in-Ok-clause-clear : goal.returns-in-Ok-clause-clear
returns-in-Ok-clause-clear c =
    subst (λ (us : List Used). AreAllUsed c.args.maps.now us) (c.deref.ensures.value ∙ c.in_ok-joined.ensures.all) c.in-Ok.ensures.clear

pub returns-clause-stops : goal.returns-clause-stops
returns-clause-stops c =
    subst (λ (us : List Used). Tells (IsUnusedHere c.args.maps.now us) NoFeature c.in-Err.stop) (c.deref.ensures.value ∙ c.in_ok-joined.ensures.all) c.in-Err.ensures.present
