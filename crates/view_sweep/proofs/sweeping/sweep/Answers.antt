use Rattle.std.proofs.Common.{◌≤◌, ◌+◌, ap, arith, ◌≡◌, ℕ, List, [], Option, length, sym, ◌∙◌, subst}
use Rattle.std.proofs.lemmas.List.{length-replicate}
use Rattle.apfs_model.specs.Counts.{Rose}
use Rattle.apfs_model.specs.Lists.{In}
use Rattle.obj_base.specs.Site.{IsSiteFor}
use Rattle.omap_map.specs.declared.records.OmapRecord.{OmapRecord}
use Rattle.reach_rules.specs.Live.{rooted}
use Rattle.view_sweep.specs.declared.runs.Run.{Run}
use Rattle.view_sweep.specs.declared.sets.ViewSet.{ViewSet}
use Rattle.view_sweep.specs.declared.wanted.SweptView.{SweptView}
use Rattle.view_sweep.specs.declared.wanted.Asked.{Asked}
use Rattle.view_sweep.specs.declared.wanted.Head.{Head}
use Rattle.view_sweep.specs.declared.wanted.Wanted.{Wanted}
use Rattle.view_sweep.specs.declared.used.Used.{Used}
use Rattle.view_sweep.specs.declared.used.Share.{Share}
use Rattle.view_sweep.specs.Sets.{AreSets, AreNumbered, HaveSame, all_asked}
use Rattle.view_sweep.specs.Wanted.{heads_want}
use Rattle.view_sweep.specs.Found.{World, world, looked}
use Rattle.view_sweep.specs.Here.{TellsHere, Among}
use Rattle.view_sweep.specs.Hits.{AreBelowViews}
use Rattle.view_sweep.specs.Next.{AreStretches}
use Rattle.view_sweep.specs.Runs.{AreRising}
use Rattle.view_sweep.specs.Shared.{AreInside, AreShares, AddsShares, IsAbove}
use Rattle.view_sweep.specs.Swept.{AreKids, IsLive, IsStep}
use Rattle.view_sweep.proofs.Buffers.{kept-on, rose-later, no-err, same-err}
use Rattle.view_sweep.proofs.Shares.{shares-top, inside-top}
use Rattle.view_sweep.proofs.Steps.{here-more}
use Rattle.view_sweep.proofs.Tops.{views-below, step-same}
use Rattle.view_sweep.proofs.Wholes.{kids-step, swept-top}
use Rattle.view_sweep.proofs.sweeping.sweep.Goals as goal

-- what superblocks want was taken, as it is told of the sets of the views
top-step : (k : World) (heads : List Head) (views one two : List SweptView) (sets more : List ViewSet) (first before kids : List Asked) (read : List Used) → one ≡ views → two ≡ views → before ≡ [] → HaveSame (all_asked one sets first) (heads_want heads)
    → IsStep k (all_asked two sets first) (all_asked two more before) (all_asked two more kids) read → IsStep k (heads_want heads) [] (all_asked views more kids) read
top-step k heads views one two sets more first before kids read e f g same s =
    step-same k (all_asked views sets first) (heads_want heads) [] (all_asked views more kids) read (subst (λ (vs : List SweptView). HaveSame (all_asked vs sets first) (heads_want heads)) e same)
    (subst (λ (xs : List Asked). IsStep k (all_asked views sets first) (all_asked views more xs) (all_asked views more kids) read) g
    (subst (λ (vs : List SweptView). IsStep k (all_asked vs sets first) (all_asked vs more before) (all_asked vs more kids) read) f s))

-- what is told of the first level is told of the views
top-shares : (blocks : ℕ) (look : Wanted → Option OmapRecord) (P : Wanted → Type 0) (views two : List SweptView) (sets : List ViewSet) (before new : List Share) → two ≡ views → before ≡ [] → AddsShares look blocks two P sets before new → AddsShares look blocks views P sets [] new
top-shares blocks look P views two sets before new f g b =
    subst (λ (xs : List Share). AddsShares look blocks views P sets xs new) g (subst (λ (vs : List SweptView). AddsShares look blocks vs P sets before new) f b)

pub levels-requires : goal.levels-requires
levels-requires g c = record {
  site = subst (λ n. IsSiteFor c.args.site.now n) (sym c.take_level.ensures.kept.same_size) c.requires.site;
  long = c.in-Ok.ensures.long;
  rising = subst (λ (runs : List Run). AreRising runs) (sym c.deref-6.ensures.value) c.in_ok-stretches.ensures.rising;
  stretches = subst (λ (runs : List Run). AreStretches c.deref-5.result.now runs) (sym c.deref-6.ensures.value)
      (subst (λ (vs : List SweptView). AreStretches vs c.in_ok-stretches.stretches.items) (sym c.deref-5.ensures.value) (subst (λ (vs : List SweptView). AreStretches vs c.in_ok-stretches.stretches.items) c.deref-2.ensures.value c.in_ok-stretches.ensures.all));
  below = subst (λ (vs : List SweptView). AreBelowViews (length c.args.volumes.now) vs) (sym c.deref-5.ensures.value)
      (views-below (length c.args.volumes.now) c.args.heads.now c.in_ok-views.views.items c.in_ok-views.ensures c.requires.below);
  inside = (let more : List ViewSet = c.take_level.new.sets.items in
      let new : List Share = c.take_level.new.shares.items in
      let look : Wanted → Option OmapRecord = looked c.args.volumes.now c.args.site.now in
      let wanted : List Wanted = all_asked c.deref-3.result.now c.wants.new.sets.items c.in_ok-first.first.items in
      subst (λ (vs : List SweptView). AreInside c.args.site.now.blocks vs more new) (sym c.deref-5.ensures.value)
      (inside-top c.args.site.now.blocks look c.in_ok-views.views.items (Among wanted) more new
      (top-shares c.args.site.now.blocks look (Among wanted) c.in_ok-views.views.items c.deref-3.result.now more c.new-shares.result.items new c.deref-3.ensures.value c.new-shares.ensures.items c.in-Ok.ensures.shares)));
  numbers = subst (λ (xs : List Asked). AreNumbered (length c.take_level.new.sets.items) xs) (sym c.deref-7.ensures.value) c.in-Ok.ensures.numbers;
  kids = (λ image told.
      let k : World = world c.args.volumes.now c.args.site.now image in
      let heads : List Head = c.args.heads.now in
      let views : List SweptView = c.in_ok-views.views.items in
      let more : List ViewSet = c.take_level.new.sets.items in
      let kids : List Asked = c.take_level.new.below.items in
      let step = c.in-Ok.ensures.step image (sym c.take_level.ensures.kept.same_bytes ∙ told) in
      subst (λ (xs : List Asked). AreKids k heads (all_asked c.deref-5.result.now more xs)) (sym c.deref-7.ensures.value)
      (subst (λ (vs : List SweptView). AreKids k heads (all_asked vs more kids)) (sym c.deref-5.ensures.value)
      (kids-step k heads (all_asked views more kids) c.in-Ok.read.items
      (top-step k heads views c.deref.result.now c.deref-3.result.now c.wants.new.sets.items more c.in_ok-first.first.items c.new-kids.result.items kids c.in-Ok.read.items c.deref.ensures.value c.deref-3.ensures.value c.new-kids.ensures.items c.in_ok-first.ensures.all step))));
  top = (λ image told.
      let k : World = world c.args.volumes.now c.args.site.now image in
      let heads : List Head = c.args.heads.now in
      let views : List SweptView = c.in_ok-views.views.items in
      let more : List ViewSet = c.take_level.new.sets.items in
      let kids : List Asked = c.take_level.new.below.items in
      let step = c.in-Ok.ensures.step image (sym c.take_level.ensures.kept.same_bytes ∙ told) in
      swept-top k heads (all_asked views more kids) c.in-Ok.read.items
      (top-step k heads views c.deref.result.now c.deref-3.result.now c.wants.new.sets.items more c.in_ok-first.first.items c.new-kids.result.items kids c.in-Ok.read.items c.deref.ensures.value c.deref-3.ensures.value c.new-kids.ensures.items c.in_ok-first.ensures.all step));
  shares = (λ image told.
      let k : World = world c.args.volumes.now c.args.site.now image in
      let heads : List Head = c.args.heads.now in
      let views : List SweptView = c.in_ok-views.views.items in
      let sets : List ViewSet = c.wants.new.sets.items in
      let more : List ViewSet = c.take_level.new.sets.items in
      let first : List Asked = c.in_ok-first.first.items in
      let new : List Share = c.take_level.new.shares.items in
      let wanted : List Wanted = all_asked c.deref-3.result.now sets first in
      let same : HaveSame wanted (heads_want heads) = subst (λ (vs : List SweptView). HaveSame (all_asked vs sets first) (heads_want heads)) (c.deref.ensures.value ∙ sym c.deref-3.ensures.value) c.in_ok-first.ensures.all in
      subst (λ (vs : List SweptView). AreShares k.look vs (IsAbove k heads 16) more new) (sym c.deref-5.ensures.value)
      (shares-top c.args.site.now.blocks k heads views wanted more new same
      (top-shares c.args.site.now.blocks k.look (Among wanted) views c.deref-3.result.now more c.new-shares.result.items new c.deref-3.ensures.value c.new-shares.ensures.items c.in-Ok.ensures.shares)));
}

pub take_level-requires : goal.take_level-requires
take_level-requires g c = record {
  site = c.requires.site;
  long = ap length (c.in_ok-block.ensures.items_if_clones_equal (λ y same. same)) ∙ length-replicate c.args.site.now.block_size 0;
  below = subst (λ (vs : List SweptView). AreBelowViews (length c.args.volumes.now) vs) (sym c.deref-3.ensures.value)
      (views-below (length c.args.volumes.now) c.args.heads.now c.in_ok-views.views.items c.in_ok-views.ensures c.requires.below);
  rising = subst (λ (runs : List Run). AreRising runs) (sym c.deref-4.ensures.value) c.in_ok-stretches.ensures.rising;
  stretches = subst (λ (runs : List Run). AreStretches c.deref-3.result.now runs) (sym c.deref-4.ensures.value)
      (subst (λ (vs : List SweptView). AreStretches vs c.in_ok-stretches.stretches.items) (sym c.deref-3.ensures.value) (subst (λ (vs : List SweptView). AreStretches vs c.in_ok-stretches.stretches.items) c.deref-2.ensures.value c.in_ok-stretches.ensures.all));
  sets = subst (λ (vs : List SweptView). AreSets vs c.wants.new.sets.items) (c.deref.ensures.value ∙ sym c.deref-3.ensures.value) c.in_ok-first.ensures.sets;
  numbers = c.in_ok-first.ensures.numbers;
  waiting = λ a listed. absurd (subst (λ (xs : List Asked). In a xs) c.new-kids.ensures.items listed);
}

pub returns : goal.returns
returns g c = record {
  clear = λ image told. tt;
  shares = λ image told. tt;
  inside = tt;
  present = λ image told. c.in-Err-levels.ensures.present image (c.take_level.ensures.kept.same_bytes ∙ told);
  reads = tt;
  cause = (λ e.
      let a : g.S.BlockSource.faults c.args.src.now ≤ g.S.BlockSource.faults c.take_level.new.src = c.take_level.ensures.kept.later in
      let b : Rose (g.S.BlockSource.faults c.take_level.new.src) (g.S.BlockSource.faults c.levels.new.src) = c.in-Err-levels.ensures.cause (same-err c.in-Err-levels.stop _ e) in
      rose-later (g.S.BlockSource.faults c.args.src.now) (g.S.BlockSource.faults c.take_level.new.src) (g.S.BlockSource.faults c.levels.new.src) a b);
  kept = kept-on g.S.BlockSource.bytes g.S.BlockSource.bytes_len g.S.BlockSource.faults c.args.src.now c.take_level.new.src c.levels.new.src c.take_level.ensures.kept c.levels.ensures.kept;
}

pub returns-in-Err : goal.returns-in-Err
returns-in-Err g c = record {
  clear = λ image told. tt;
  shares = λ image told. tt;
  inside = tt;
  present = (λ image told.
      let k : World = world c.args.volumes.now c.args.site.now image in
      let heads : List Head = c.args.heads.now in
      let views : List SweptView = c.in_ok-views.views.items in
      let sets : List ViewSet = c.wants.new.sets.items in
      let first : List Asked = c.in_ok-first.first.items in
      let same : HaveSame (all_asked views sets first) (heads_want heads) = subst (λ (vs : List SweptView). HaveSame (all_asked vs sets first) (heads_want heads)) c.deref.ensures.value c.in_ok-first.ensures.all in
      here-more k (Among (all_asked views sets first)) (IsLive k heads) (λ w h. rooted w (same.to w h)) c.in-Err.stop
      (subst (λ (vs : List SweptView). TellsHere k (Among (all_asked vs sets first)) c.in-Err.stop) c.deref-3.ensures.value (c.in-Err.ensures.stops image told)));
  reads = tt;
  cause = λ e. c.in-Err.ensures.cause (same-err c.in-Err.stop _ e);
  kept = c.take_level.ensures.kept;
}

pub returns-in-Ok-levels : goal.returns-in-Ok-levels
returns-in-Ok-levels g c = record {
  clear = λ image told. c.in-Ok-levels.ensures.clear image (c.take_level.ensures.kept.same_bytes ∙ told);
  shares = λ image told.
      subst (λ (vs : List SweptView). AreShares (looked c.args.volumes.now c.args.site.now) vs (IsAbove (world c.args.volumes.now c.args.site.now image) c.args.heads.now 0) c.levels.new.out.sets.items c.levels.new.out.shares.items) (c.deref-5.ensures.value ∙ c.in_ok-views.ensures)
      (c.in-Ok-levels.ensures.shares image (c.take_level.ensures.kept.same_bytes ∙ told));
  inside = subst (λ (vs : List SweptView). AreInside c.args.site.now.blocks vs c.levels.new.out.sets.items c.levels.new.out.shares.items) (c.deref-5.ensures.value ∙ c.in_ok-views.ensures) c.in-Ok-levels.ensures.inside;
  present = λ image told. tt;
  reads = (let a : g.S.BlockSource.reads c.take_level.new.src ≤ g.S.BlockSource.reads c.args.src.now + length c.in-Ok.read.items = c.in-Ok.ensures.reads in
      let b : g.S.BlockSource.reads c.levels.new.src + length c.in-Ok.read.items ≤ g.S.BlockSource.reads c.take_level.new.src + length c.levels.new.out.used.items = c.in-Ok-levels.ensures.reads in
      omega arith);
  cause = λ e. absurd (no-err _ _ e);
  kept = kept-on g.S.BlockSource.bytes g.S.BlockSource.bytes_len g.S.BlockSource.faults c.args.src.now c.take_level.new.src c.levels.new.src c.take_level.ensures.kept c.levels.ensures.kept;
}
