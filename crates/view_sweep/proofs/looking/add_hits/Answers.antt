use Rattle.std.proofs.Common.{◌≡◌, ◌&&◌, ℕ, true, List, Option, length, refl, ap, sym, ◌∙◌, subst}
use Rattle.bit_lanes.specs.Places.{is_from}
use Rattle.omap_map.specs.declared.records.OmapRecord.{OmapRecord}
use Rattle.view_sweep.specs.declared.runs.Run.{Run}
use Rattle.view_sweep.specs.declared.sets.ViewSet.{ViewSet}
use Rattle.view_sweep.specs.declared.wanted.SweptView.{SweptView}
use Rattle.view_sweep.specs.declared.wanted.Wanted.{Wanted}
use Rattle.view_sweep.specs.declared.used.Hit.{Hit}
use Rattle.view_sweep.specs.Runs.{has_place, AreNone}
use Rattle.view_sweep.specs.Found.{looked}
use Rattle.view_sweep.specs.Sets.{set_at, view_of, of_view}
use Rattle.view_sweep.specs.Hits.{IsHitOf}
use Rattle.view_sweep.proofs.Members.{kept-both}
use Rattle.view_sweep.proofs.Splits.{part-set, hit-of, split-more, split-all}
use Rattle.view_sweep.proofs.looking.add_hits.Goals as goal

pub loop-low-preserved : goal.loop-low-preserved
loop-low-preserved c =
    let look : Wanted → Option OmapRecord = looked c.args.volumes.now c.args.site.now in
    let views : List SweptView = c.args.views.now in
    let w : Wanted = c.args.sought.now.wanted in
    let set : List Run = c.args.sought.now.set.items in
    let low : ℕ = c.in-Some.low in
    let high : ℕ = c.until-high.result in
    let sets : List ViewSet = c.loop-low.sets.items in
    let more : List ViewSet = c.keep.new.sets.items in
    let h : Hit = record { wanted = of_view w (view_of views low); mapping = c.in-Ok.mapping; set = c.in_ok-set.set } in
    let part : (k : ℕ) → has_place c.in_ok-part.part.items k ≡ (is_from low high k && has_place set k) = λ k. c.in_ok-part.ensures.places k ∙ ap (λ (bs : List Run). is_from low high k && has_place bs k) c.deref-in-Some.ensures.value in
    let bits : (k : ℕ) → has_place (set_at more h.set) k ≡ (is_from low high k && has_place set k) = λ k. ap (λ (bs : List Run). has_place bs k) c.in_ok-set.ensures.at ∙ part k in
    let has : has_place set low ≡ true = ap (λ (bs : List Run). has_place bs low) (sym c.deref.ensures.value) ∙ c.in-Some.ensures.is_in in
    let clear : AreNone set c.loop-low.from low = subst (λ (bs : List Run). AreNone bs c.loop-low.from low) c.deref.ensures.value c.in-Some.ensures.least in
    let is : IsHitOf look c.args.site.now views more w set h =
    hit-of look c.args.site.now views w set more h low high refl c.in_ok-set.ensures.inside c.until-high.ensures.more c.until-high.ensures.inside has bits c.until-high.ensures.one c.until-high.ensures.found c.in-Ok.ensures.inside c.in-Ok.ensures.plain in
    record {
      inside = c.until-high.ensures.inside;
      sets = c.in_ok-set.ensures.sets views c.loop-low.invariant.sets (part-set views set c.in_ok-part.part.items low high c.requires.set c.in_ok-part.ensures.rising part);
      kept = kept-both c.args.sets.now.items sets more c.loop-low.invariant.kept c.in_ok-set.ensures.kept;
      split = split-more look c.args.site.now views w set sets more c.loop-low.from low high c.args.out.now.items c.loop-low.out.items c.push.new.self.items h c.in_ok-set.ensures.kept c.in_ok-push.ensures.items c.loop-low.invariant.split clear is bits;
    }

pub returns-clause-hits : goal.returns-clause-hits
returns-clause-hits c =
    split-all (looked c.args.volumes.now c.args.site.now) c.args.site.now c.args.views.now c.args.sought.now.wanted c.args.sought.now.set.items c.loop-low.sets.items c.loop-low.from (length c.args.views.now) c.args.out.now.items c.loop-low.out.items c.loop-low.invariant.split
    (subst (λ (bs : List Run). AreNone bs c.loop-low.from (length c.args.views.now)) c.deref.ensures.value (c.in_default.ensures (length c.args.views.now)))
