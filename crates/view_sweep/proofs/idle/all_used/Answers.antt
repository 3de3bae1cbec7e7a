use Rattle.std.proofs.Common.{◌+◌, List, get_or, take, refl, sym, subst}
use Rattle.std.proofs.lemmas.List.{take_more, take_all}
use Rattle.apfs_model.specs.Lists.{In}
use Rattle.view_sweep.specs.declared.idle.MapRecords.{MapRecords}
use Rattle.view_sweep.specs.Unused.{AreUsedIn}
use Rattle.view_sweep.proofs.Ranked.{place-in, every-push}
use Rattle.view_sweep.proofs.Idles.{nomap}
use Rattle.view_sweep.proofs.idle.all_used.Goals as goal

pub returns-in-Some-clause-stops : goal.returns-in-Some-clause-stops
returns-in-Some-clause-stops c = record {
  of = get_or c.args.maps.now c.loop-of.of-index nomap;
  listed = place-in c.args.maps.now c.loop-of.of-index nomap c.loop-of-test.true;
  mapping = c.in-Some.mapping;
  is = c.in-Some.ensures.some;
  within_is = refl;
  oid_is = refl;
  xid_is = refl;
}

pub loop-of-preserved : goal.loop-of-preserved
loop-of-preserved c =
    every-push (λ (m : MapRecords). AreUsedIn m c.args.sorted.now) (take c.loop-of.of-index c.args.maps.now) (take (c.loop-of.of-index + 1) c.args.maps.now) (get_or c.args.maps.now c.loop-of.of-index nomap)
    (take_more c.args.maps.now c.loop-of.of-index nomap c.loop-of-test.true) c.loop-of.invariant (c.in_default.ensures.none refl)

pub returns-clause-clear : goal.returns-clause-clear
returns-clause-clear c = λ m i. c.loop-of.invariant m (subst (λ (ms : List MapRecords). In m ms) (sym (take_all c.loop-of.of-index c.args.maps.now c.loop-of-test.false)) i)
