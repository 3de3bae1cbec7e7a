use Rattle.std.proofs.Common.{List, subst}
use Rattle.std.proofs.lemmas.List.Sorted.{IsPermutation-sym}
use Rattle.obj_base.specs.Stops.{Tells, NoFeature}
use Rattle.view_sweep.specs.declared.used.Used.{Used}
use Rattle.view_sweep.specs.Unused.{AreAllUsed, IsUnusedHere}
use Rattle.view_sweep.proofs.Idles.{used-permuted, tells-permuted, used-free}
use Rattle.view_sweep.proofs.idle.unused.Goals as goal

pub returns-in-Ok-clause-clear : goal.returns-in-Ok-clause-clear
returns-in-Ok-clause-clear c =
    used-permuted c.args.maps.now c.in_ok-sorted.sorted.items c.args.used.now (IsPermutation-sym c.args.used.now c.in_ok-sorted.sorted.items c.in_ok-sorted.ensures.order)
    (subst (λ (us : List Used). AreAllUsed c.args.maps.now us) c.deref.ensures.value c.in-Ok.ensures.clear)

pub returns-clause-present : goal.returns-clause-present
returns-clause-present c =
    tells-permuted c.args.maps.now c.in_ok-sorted.sorted.items c.args.used.now (IsPermutation-sym c.args.used.now c.in_ok-sorted.sorted.items c.in_ok-sorted.ensures.order) c.in-Err.stop
    (subst (λ (us : List Used). Tells (IsUnusedHere c.args.maps.now us) NoFeature c.in-Err.stop) c.deref.ensures.value c.in-Err.ensures.stops)

pub returns-clause-exact : goal.returns-clause-exact
returns-clause-exact c = λ all.
    used-free c.args.maps.now c.args.used.now all c.in-Err.stop
    (tells-permuted c.args.maps.now c.in_ok-sorted.sorted.items c.args.used.now (IsPermutation-sym c.args.used.now c.in_ok-sorted.sorted.items c.in_ok-sorted.ensures.order) c.in-Err.stop
    (subst (λ (us : List Used). Tells (IsUnusedHere c.args.maps.now us) NoFeature c.in-Err.stop) c.deref.ensures.value c.in-Err.ensures.stops))
