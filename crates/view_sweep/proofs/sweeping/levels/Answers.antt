use Rattle.std.proofs.Common.{◌≡◌, ℕ, suc, ◌+◌, ◌-◌, ◌≤◌, ◌<◌, List, [], ◌++◌, length, Some, arith, sym, subst, ap, ◌∙◌, length-append}
use Rattle.std.proofs.lemmas.Result.{IfOk-from_err}
use Rattle.apfs_model.specs.Lists.{In}
use Rattle.obj_base.specs.Site.{IsSiteFor}
use Rattle.obj_base.specs.declared.stop.Stop.TheVariants.{NoMemory}
use Rattle.view_sweep.specs.declared.sets.ViewSet.{ViewSet}
use Rattle.view_sweep.specs.declared.wanted.SweptView.{SweptView}
use Rattle.view_sweep.specs.declared.wanted.Head.{Head}
use Rattle.view_sweep.specs.declared.wanted.Asked.{Asked}
use Rattle.view_sweep.specs.declared.used.Used.{Used}
use Rattle.view_sweep.specs.declared.used.Share.{Share}
use Rattle.view_sweep.specs.Found.{World, world, looked}
use Rattle.view_sweep.specs.Here.{Among}
use Rattle.view_sweep.specs.Sets.{all_asked}
use Rattle.view_sweep.specs.Shared.{AreShares, IsAbove}
use Rattle.view_sweep.specs.Swept.{IsLive, IsSwept, IsStep}
use Rattle.view_sweep.proofs.Buffers.{kept-on, rose-later, no-err, same-err, free-told, no-read}
use Rattle.view_sweep.proofs.Members.{kept-both}
use Rattle.view_sweep.proofs.Shares.{inside-more, shares-level}
use Rattle.view_sweep.proofs.Steps.{here-more}
use Rattle.view_sweep.proofs.Waits.{level-numbered, taken}
use Rattle.view_sweep.proofs.Wholes.{IsLevel, waiting-next, swept-more, here-live, looked-named}
use Rattle.view_sweep.proofs.sweeping.levels.Goals as goal

-- what is swept is told of the level above
above : (k : World) (heads : List Head) (level : ℕ) (all : List Used) → 0 < level → IsSwept k heads level all → IsSwept k heads (suc (level - 1)) all
above k heads level all pos u =
    let s : level ≡ suc (level - 1) = omega arith in
    subst (λ (n : ℕ). IsSwept k heads n all) s u

above-shares : (k : World) (heads : List Head) (views : List SweptView) (level : ℕ) (sets : List ViewSet) (shares : List Share) → 0 < level → AreShares k.look views (IsAbove k heads level) sets shares → AreShares k.look views (IsAbove k heads (suc (level - 1))) sets shares
above-shares k heads views level sets shares pos a =
    let s : level ≡ suc (level - 1) = omega arith in
    subst (λ (n : ℕ). AreShares k.look views (IsAbove k heads n) sets shares) s a

pub loop-level-preserved : goal.loop-level-preserved
loop-level-preserved g c =
    let heads : List Head = c.args.heads.now in
    let views : List SweptView = c.args.views.now in
    let sets : List ViewSet = c.loop-level.out.sets.items in
    let grown : List ViewSet = c.take_level.new.sets.items in
    let current : List Asked = c.add_level.new.out.items in
    let after : List Asked = c.take_level.new.below.items in
    let read : List Used = c.in-Ok.read.items in
    let all : List Used = c.loop-level.out.used.items in
    let more : List Used = c.extend_from_slice.new.self.items in
    let up : ℕ = c.loop-level.level in
    let pos : 0 < up = c.loop-level-test.true in
    let high : up ≤ 16 = c.loop-level.invariant.high in
    let e : more ≡ all ++ read = c.in_ok-extend_from_slice.ensures.items ∙ ap (λ (us : List Used). all ++ us) c.deref.ensures.value in
    let level : (image : List ℕ) → g.S.BlockSource.bytes c.args.src.now ≡ Some image → IsLevel (world c.args.volumes.now c.args.site.now image) heads (up - 1) (all_asked views sets current) = λ image given.
    taken (world c.args.volumes.now c.args.site.now image) heads views c.args.out.now.sets.items sets c.args.kids.now c.loop-level.current.items current up pos high (c.requires.kids image given) c.loop-level.invariant.more c.requires.numbers (c.loop-level.invariant.waiting image given) c.in_ok-add_level.ensures in
    let step : (image : List ℕ) → g.S.BlockSource.bytes c.args.src.now ≡ Some image → IsStep (world c.args.volumes.now c.args.site.now image) (all_asked views sets current) [] (all_asked views grown after) read = λ image given.
    subst (λ (xs : List Asked). IsStep (world c.args.volumes.now c.args.site.now image) (all_asked views sets current) (all_asked views grown xs) (all_asked views grown after) read) c.new-below.ensures.items
    (c.in-Ok.ensures.step image (c.loop-level.invariant.kept.same_bytes ∙ given)) in
    record {
      kept = record {
        same_bytes = c.take_level.ensures.kept.same_bytes ∙ c.loop-level.invariant.kept.same_bytes;
        same_size = c.take_level.ensures.kept.same_size ∙ c.loop-level.invariant.kept.same_size;
        later = (let a = c.loop-level.invariant.kept.later in let b = c.take_level.ensures.kept.later in omega arith);
      };
      long = c.take_level.ensures.long;
      high = omega arith;
      inside = inside-more c.args.site.now.blocks (looked c.args.volumes.now c.args.site.now) views (λ w. In w (all_asked views sets current)) sets grown c.loop-level.out.shares.items c.take_level.new.shares.items c.in-Ok.ensures.same c.loop-level.invariant.inside c.in-Ok.ensures.shares;
      more = kept-both c.args.out.now.sets.items sets grown c.loop-level.invariant.more c.in-Ok.ensures.same;
      numbers = c.in-Ok.ensures.numbers;
      waiting = λ image given. waiting-next (world c.args.volumes.now c.args.site.now image) heads (up - 1) (all_asked views sets current) (all_asked views grown after) read (omega arith) (level image given) (step image given);
      swept = λ image given. swept-more (world c.args.volumes.now c.args.site.now image) (looked-named c.args.volumes.now c.args.site.now image) heads (up - 1) (all_asked views sets current) (all_asked views grown after) read all more (level image given) (step image given) e
          (above (world c.args.volumes.now c.args.site.now image) heads up all pos (c.loop-level.invariant.swept image given));
      shares = λ image given. shares-level c.args.site.now.blocks (world c.args.volumes.now c.args.site.now image) heads views (up - 1) (all_asked views sets current) sets grown c.loop-level.out.shares.items c.take_level.new.shares.items (level image given) c.in-Ok.ensures.same c.loop-level.invariant.inside
          (above-shares (world c.args.volumes.now c.args.site.now image) heads views up sets c.loop-level.out.shares.items pos (c.loop-level.invariant.shares image given)) c.in-Ok.ensures.shares;
      reads = (let a = c.in-Ok.ensures.reads in
          let b = c.loop-level.invariant.reads in
          let f : length more ≡ length all + length read = ap length e ∙ length-append all read in
          omega arith);
    }

pub returns : goal.returns
returns g c = record {
  clear = (λ image told.
      let z : c.loop-level.level ≡ 0 = omega (arith, c.loop-level-test.false) in
      subst (λ (n : ℕ). IsSwept (world c.args.volumes.now c.args.site.now image) c.args.heads.now n c.loop-level.out.used.items) z (c.loop-level.invariant.swept image told));
  shares = (λ image told.
      let none : c.loop-level.level ≡ 0 = omega (arith, c.loop-level-test.false) in
      subst (λ (n : ℕ). AreShares (looked c.args.volumes.now c.args.site.now) c.args.views.now (IsAbove (world c.args.volumes.now c.args.site.now image) c.args.heads.now n) c.loop-level.out.sets.items c.loop-level.out.shares.items) none
      (c.loop-level.invariant.shares image told));
  inside = c.loop-level.invariant.inside;
  present = λ image told. tt;
  reads = c.loop-level.invariant.reads;
  cause = λ e. absurd (no-err _ _ e);
  kept = c.loop-level.invariant.kept;
}

pub take_level-requires : goal.take_level-requires
take_level-requires g c = record {
  site = subst (λ n. IsSiteFor c.args.site.now n) (sym c.loop-level.invariant.kept.same_size) c.requires.site;
  long = c.loop-level.invariant.long;
  below = c.requires.below;
  rising = c.requires.rising;
  stretches = c.requires.stretches;
  sets = c.loop-level.invariant.inside.sets_are;
  numbers = level-numbered (length c.loop-level.out.sets.items) (length c.args.out.now.sets.items) (c.loop-level.level - 1) c.args.kids.now c.loop-level.current.items c.add_level.new.out.items c.loop-level.invariant.more.more c.in_ok-add_level.ensures c.requires.numbers c.loop-level.invariant.numbers;
  waiting = λ a h. absurd (subst (λ (xs : List Asked). In a xs) c.new-below.ensures.items h);
}

pub returns-in-Err : goal.returns-in-Err
returns-in-Err g c = record {
  clear = λ image told. tt;
  shares = λ image told. tt;
  inside = tt;
  present = (λ image given.
      let k : World = world c.args.volumes.now c.args.site.now image in
      let heads : List Head = c.args.heads.now in
      let views : List SweptView = c.args.views.now in
      let sets : List ViewSet = c.loop-level.out.sets.items in
      let after : List Asked = c.add_level.new.out.items in
      let l : IsLevel k heads (c.loop-level.level - 1) (all_asked views sets after) =
      taken k heads views c.args.out.now.sets.items sets c.args.kids.now c.loop-level.current.items after c.loop-level.level c.loop-level-test.true c.loop-level.invariant.high (c.requires.kids image given) c.loop-level.invariant.more c.requires.numbers (c.loop-level.invariant.waiting image given) c.in_ok-add_level.ensures in
      here-more k (Among (all_asked views sets after)) (IsLive k heads) (here-live k heads (c.loop-level.level - 1) (all_asked views sets after) l) c.in-Err.stop
      (c.in-Err.ensures.stops image (c.loop-level.invariant.kept.same_bytes ∙ given)));
  reads = tt;
  cause = λ e. rose-later (g.S.BlockSource.faults c.args.src.now) (g.S.BlockSource.faults c.loop-level.src) (g.S.BlockSource.faults c.take_level.new.src) c.loop-level.invariant.kept.later (c.in-Err.ensures.cause (same-err c.in-Err.stop _ e));
  kept = kept-on g.S.BlockSource.bytes g.S.BlockSource.bytes_len g.S.BlockSource.faults c.args.src.now c.loop-level.src c.take_level.new.src c.loop-level.invariant.kept c.take_level.ensures.kept;
}

pub returns-in_err-extend_from_slice : goal.returns-in_err-extend_from_slice
returns-in_err-extend_from_slice g c = record {
  clear = λ image told. IfOk-from_err c.from_residual-in_err-extend_from_slice.result _ c.from_residual-in_err-extend_from_slice.ensures.0;
  shares = λ image told. IfOk-from_err c.from_residual-in_err-extend_from_slice.result _ c.from_residual-in_err-extend_from_slice.ensures.0;
  inside = IfOk-from_err c.from_residual-in_err-extend_from_slice.result _ c.from_residual-in_err-extend_from_slice.ensures.0;
  present = λ image told. free-told c.from_residual-in_err-extend_from_slice.result _ _ NoMemory c.from_residual-in_err-extend_from_slice.ensures.1 tt;
  reads = IfOk-from_err c.from_residual-in_err-extend_from_slice.result _ c.from_residual-in_err-extend_from_slice.ensures.0;
  cause = λ e. absurd (no-read c.from_residual-in_err-extend_from_slice.result c.from_residual-in_err-extend_from_slice.ensures.1 e);
  kept = kept-on g.S.BlockSource.bytes g.S.BlockSource.bytes_len g.S.BlockSource.faults c.args.src.now c.loop-level.src c.take_level.new.src c.loop-level.invariant.kept c.take_level.ensures.kept;
}
