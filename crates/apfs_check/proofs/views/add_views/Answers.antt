use Rattle.std.proofs.Common.{◌≡◌, ◌∙◌, ℕ, List, ◌+◌, ◌<◌, ◌≤◌, ◌∷◌, [], length, map, take, inl, refl, sym, ap, subst, arith}
use Rattle.std.specs.Prelude.{◌^◌, flat_map, sum, Some}
use Rattle.std.proofs.lemmas.List.{take_all}
use Rattle.apfs_model.proofs.Searches.{get-in}
use Rattle.obj_base.specs.declared.site.Site.{Site}
use Rattle.nx_ring.specs.Checkpoint.{site_of}
use Rattle.vol_view.specs.Volumes.{Loaded}
use Rattle.vol_view.specs.Views.{views_of}
use Rattle.vol_view.specs.declared.volume.View.{View}
use Rattle.ext_ref.specs.Left.{AreShortExtents}
use Rattle.ext_ref.specs.Same.{HaveSame}
use Rattle.apfs_check.specs.Volumes.{view_extents}
use Rattle.apfs_check.specs.DataSteps.{AreShortOrHoles}
use Rattle.apfs_check.specs.Again.{IsPassed, IsKnownOf}
use Rattle.apfs_check.specs.Held.{AddsViews}
use Rattle.apfs_check.specs.Reads.{view_reads}
use Rattle.apfs_check.proofs.Adding.{more-views, again-added}
use Rattle.apfs_check.proofs.Again.{extents-again}
use Rattle.apfs_check.proofs.Spent.{sum-more}
use Rattle.apfs_check.proofs.ViewSteps.{take-one, views-length, extents-kept, passed-one, passed-kept, passed-more, known-one, known-kept, known-before, extents-known, extents-same, extents-next, extents-short, short-same}
use Rattle.omap_map.proofs.Lists.{all-in}
use Rattle.tree_rules.specs.Known.{extents_before}
use Rattle.apfs_model.specs.Lists.{In}
use Rattle.apfs_check.proofs.views.add_views.Goals as goal

pub returns-in-Err-clause-present : goal.returns-in-Err-clause-present
returns-in-Err-clause-present g c image told ready same =
    c.in-Err.ensures.present image (c.views.invariant.kept.same_bytes ∙ told)
    (known-before c.args.profile image (site_of c.args.cp.now) c.args.volume.now c.args.ranges.now (take c.views.place (views_of c.args.volume.now c.args.cp.now)) c.take.result (subst (IsKnownOf c.args.profile image (site_of c.args.cp.now) c.args.volume.now c.args.ranges.now (take c.views.place (views_of c.args.volume.now c.args.cp.now))) (sym c.take.ensures.value) (c.views.invariant.known image told))) ready same (get-in (views_of c.args.volume.now c.args.cp.now) c.views.place c.view_at-view.result c.view_at-view.ensures)

pub views-preserved : goal.views-preserved
views-preserved g c =
    let reads = g.S.BlockSource.reads in
    let seen = c.args.cp.now in
    let site = site_of seen in
    let volume = c.args.volume.now in
    let ranges = c.args.ranges.now in
    let profile = c.args.profile in
    let views = views_of volume seen in
    let place = c.views.place in
    let view = c.view_at-view.result in
    let at = c.view_at-view.ensures in
    let had = c.views.invariant in
    let kb : (image : List ℕ) → g.S.BlockSource.bytes c.args.src.now ≡ Some image → IsKnownOf profile image site volume ranges (take place views) c.take.result =
    λ image told. subst (IsKnownOf profile image site volume ranges (take place views)) (sym c.take.ensures.value) (had.known image told) in
    record {
      added = λ image told ready same.
          subst (λ vs. AddsViews profile image seen volume.head vs c.args.out.now c.add_view.new.out) (sym (take-one views place view at))
          (more-views profile image seen volume.head (take place views) (view ∷ []) c.args.out.now c.views.out c.add_view.new.out
          (had.added image told ready same) (c.in-Ok.ensures.clear image (had.kept.same_bytes ∙ told) (known-before profile image site volume ranges (take place views) c.take.result (kb image told)) ready same));
      all = λ image told ready same.
          let read = had.kept.same_bytes ∙ told in
          let before = known-before profile image site volume ranges (take place views) c.take.result (kb image told) in
          let new = c.in-Ok.ensures.all image read before in
          let right = (c.in-Ok.ensures.clear image read before ready same).right view (inl refl) in
          let low : site.blocks < 2 ^ 64 = subst (λ (s : Site). s.blocks < 2 ^ 64) c.site-site.ensures (omega arith) in
          let ends : AreShortOrHoles c.site-site.result.block_size c.in-Ok.added.extents.items =
          subst (λ (s : Site). AreShortOrHoles s.block_size c.in-Ok.added.extents.items) (sym c.site-site.ensures) (λ x h some. extents-short profile image seen volume ready view right low x (new.own x h) some) in
          extents-next image site volume views place view (extents_before c.take.result) c.in-Ok.added.extents.items c.views.extents.items c.move_short.new.extents.items c.thin_past-limit.new.extents.items at (had.all image told ready same)
          new (extents-known profile image site volume ranges (take place views) c.take.result (kb image told)) (c.in_ok-move_short-in-Ok.ensures.added ends) c.thin_past-limit.ensures;
      passed = λ image told.
          passed-more profile image site volume ranges (take (place + 1) views) c.views.passed.items c.remember.new.passed.items c.in-Ok.added.passed c.in_ok-remember-in-Ok.ensures (passed-kept profile image site volume ranges views place view c.views.passed.items at (had.passed image told))
          (passed-one profile image site volume ranges views place view c.in-Ok.added.passed at (c.in-Ok.ensures.passed image (had.kept.same_bytes ∙ told) (known-before profile image site volume ranges (take place views) c.take.result (kb image told))));
      known = λ image told. known-one profile image site volume ranges views place view c.in-Ok.added.kept at (c.in-Ok.ensures.known image (had.kept.same_bytes ∙ told) (known-before profile image site volume ranges (take place views) c.take.result (kb image told)));
      short = short-same (site_of seen).block_size c.move_short.new.extents.items c.thin_past-limit.new.extents.items c.thin_past-limit.ensures
          (subst (λ (s : Site). AreShortExtents s.block_size c.move_short.new.extents.items) c.site-site.ensures
          (c.in_ok-move_short-in-Ok.ensures.short (subst (λ (s : Site). AreShortExtents s.block_size c.views.extents.items) (sym c.site-site.ensures) had.short)));
      few = λ image told.
          sum-more (view_reads image site volume) (take place views) (take (place + 1) views) view (reads c.args.src.now) (reads c.views.src) (reads c.add_view.new.src) (take-one views place view at) (had.few image told)
          (c.in-Ok.ensures.reads image (had.kept.same_bytes ∙ told) (known-before profile image site volume ranges (take place views) c.take.result (kb image told)));
      kept = record {
        same_bytes = c.add_view.ensures.kept.same_bytes ∙ had.kept.same_bytes;
        same_size = c.add_view.ensures.kept.same_size ∙ had.kept.same_size;
        later = omega (arith, c.add_view.ensures.kept.later, c.views.invariant.kept.later);
      };
    }

pub views-preserved-in-Some : goal.views-preserved-in-Some
views-preserved-in-Some g c =
    let reads = g.S.BlockSource.reads in
    let seen = c.args.cp.now in
    let site = site_of seen in
    let volume = c.args.volume.now in
    let ranges = c.args.ranges.now in
    let profile = c.args.profile in
    let views = views_of volume seen in
    let place = c.views.place in
    let view = c.view_at-view.result in
    let at = c.view_at-view.ensures in
    let had = c.views.invariant in
    let before = c.in-Some.before in
    let one = c.in-Some.ensures.one in
    record {
      added = λ image told ready same.
          let is = all-in (IsPassed profile image site volume ranges (take place views)) c.views.passed.items (had.passed image told) before (subst (In before) c.deref.ensures.value c.in-Some.ensures.same) in
          subst (λ vs. AddsViews profile image seen volume.head vs c.args.out.now c.count_records.new.self) (sym (take-one views place view at))
          (more-views profile image seen volume.head (take place views) (view ∷ []) c.args.out.now c.views.out c.count_records.new.self
          (had.added image told ready same) (again-added profile image seen volume ranges (take place views) before view c.views.out c.count_records.new.self ready same is one c.count_records.ensures));
      all = λ image told ready same.
          let is = all-in (IsPassed profile image site volume ranges (take place views)) c.views.passed.items (had.passed image told) before (subst (In before) c.deref.ensures.value c.in-Some.ensures.same) in
          extents-kept image site volume views place before.view view c.views.extents.items at is.one (extents-again image site volume before.view view one) (had.all image told ready same);
      passed = λ image told. passed-kept profile image site volume ranges views place view c.views.passed.items at (had.passed image told);
      known = λ image told. known-kept profile image site volume ranges views place view c.views.known at (had.known image told);
      short = had.short;
      few = λ image told. sum-more (view_reads image site volume) (take place views) (take (place + 1) views) view (reads c.args.src.now) (reads c.views.src) (reads c.views.src) (take-one views place view at) (had.few image told) (omega arith);
      kept = had.kept;
    }

pub returns-clause-all : goal.returns-clause-all
returns-clause-all g c image told ready same =
    let seen = c.args.cp.now in
    let volume = c.args.volume.now in
    let views = views_of volume seen in
    let end : length views ≤ c.views.place = omega (arith, views-length volume seen, c.views-test.false, ap (λ (v : Loaded). length v.snaps) c.volume.view_is) in
    subst (λ es. HaveSame c.views.extents.items es)
    (ap (λ vs. flat_map (view_extents image (site_of seen) volume) vs) (take_all c.views.place views end) ∙ extents-same image seen volume ready)
    (c.views.invariant.all image told ready same)

pub returns-clause-reads : goal.returns-clause-reads
returns-clause-reads g c image told =
    let reads = g.S.BlockSource.reads in
    let seen = c.args.cp.now in
    let volume = c.args.volume.now in
    let views = views_of volume seen in
    let end : length views ≤ c.views.place = omega (arith, views-length volume seen, c.views-test.false, ap (λ (v : Loaded). length v.snaps) c.volume.view_is) in
    subst (λ (vs : List View). reads c.views.src ≤ reads c.args.src.now + sum (map (view_reads image (site_of seen) volume) vs)) (take_all c.views.place views end) (c.views.invariant.few image told)
