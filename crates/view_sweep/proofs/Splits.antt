-- The hits of what is sought in sets of views.
use Rattle.std.proofs.Common.{◌≡◌, ℕ, ◌<◌, ◌≤◌, Bool, true, ◌&&◌, List, [], ◌∷◌, ◌++◌, length, ◌⊎◌, inl, inr, Option, Some, refl, ap, sym, ◌∙◌, subst, arith}
use Rattle.std.proofs.lemmas.Bool.{cases_lt, and_parts, and_from, both_ways}
use Rattle.std.proofs.lemmas.Bool.Decides.{nat_tests}
use Rattle.apfs_model.specs.Blocks.{in_container}
use Rattle.apfs_model.specs.Lists.{In}
use Rattle.apfs_model.proofs.Searches.{in-left, in-right}
use Rattle.bit_lanes.specs.Places.{is_from}
use Rattle.obj_base.specs.declared.site.Site.{Site}
use Rattle.omap_map.specs.Features.{mapping_features}
use Rattle.omap_map.specs.declared.records.OmapRecord.{OmapRecord}
use Rattle.view_sweep.specs.declared.runs.Run.{Run}
use Rattle.view_sweep.specs.declared.sets.ViewSet.{ViewSet}
use Rattle.view_sweep.specs.declared.joining.Sought.{Sought}
use Rattle.view_sweep.specs.declared.wanted.SweptView.{SweptView}
use Rattle.view_sweep.specs.declared.wanted.Wanted.{Wanted}
use Rattle.view_sweep.specs.declared.used.Hit.{Hit}
use Rattle.view_sweep.specs.Runs.{has_place, AreRising, AreNone}
use Rattle.view_sweep.specs.Sets.{set_at, view_of, of_view, IsSetOf, AreKept}
use Rattle.view_sweep.specs.Hits.{IsHitOf, HasHit, AreSplit, AreHitsOf}
use Rattle.view_sweep.specs.Next.{AreAsOne}
use Rattle.view_sweep.proofs.Ranked.{in-push}

-- a view of a part
pub part-bit : (low high p : ℕ) (b : Bool) → (is_from low high p && b) ≡ true → (low ≤ p) × ((p < high) × (b ≡ true))
part-bit low high p b e =
    let t = and_parts (is_from low high p) b e in
    let f : is_from low high p ≡ true = t.0 in
    let above : low ≤ p = grind (arith, nat_tests) in
    let below : p < high = grind (arith, nat_tests) in
    (above, (below, t.1))

pub bit-part : (low high p : ℕ) (b : Bool) → low ≤ p → p < high → b ≡ true → (is_from low high p && b) ≡ true
bit-part low high p b above below e =
    let f : is_from low high p ≡ true = grind (arith, nat_tests) in
    and_from _ _ f e

-- a part of a set is one
pub part-set : (views : List SweptView) (set part : List Run) (low high : ℕ) → IsSetOf views set → AreRising part → ((k : ℕ) → has_place part k ≡ (is_from low high k && has_place set k)) → IsSetOf views part
part-set views set part low high is rises bits = record {
  rising = rises;
  first = λ p e. is.first p (part-bit low high p (has_place set p) (sym (bits p) ∙ e)).1.1;
}

module _ (look : Wanted → Option OmapRecord) (site : Site) (views : List SweptView) (w : Wanted) (set : List Run) where
  -- among more sets a hit is the same
  pub hit-kept : (old new : List ViewSet) → AreKept old new → (h : Hit) → IsHitOf look site views old w set h → IsHitOf look site views new w set h
  hit-kept old new kept h is =
      let e : set_at new h.set ≡ set_at old h.set = kept.same h.set is.number in
      let more : length old ≤ length new = kept.more in
      let low : h.set < length old = is.number in
      let back : (p : ℕ) → has_place (set_at new h.set) p ≡ true → has_place (set_at old h.set) p ≡ true = λ p f. ap (λ (bs : List Run). has_place bs p) (sym e) ∙ f in
      record {
        oid = is.oid;
        want = is.want;
        number = omega arith;
        place = is.place;
        below = is.below;
        view = is.view;
        own = ap (λ (bs : List Run). has_place bs is.place) e ∙ is.own;
        only = λ p f. is.only p (back p f);
        found = λ p f. is.found p (back p f);
        inside = is.inside;
        plain = is.plain;
      }

  pub has-kept : (old new : List ViewSet) → AreKept old new → (hits more : List Hit) → ((h : Hit) → In h hits → In h more) → (p : ℕ) → HasHit look site views old w set hits p → HasHit look site views new w set more p
  has-kept old new kept hits more all p h = record {
    one = h.one;
    listed = all h.one h.listed;
    is = hit-kept old new kept h.one h.is;
    has = ap (λ (bs : List Run). has_place bs p) (kept.same h.one.set h.is.number) ∙ h.has;
  }

  -- the hit of the views of a part
  pub hit-of : (sets : List ViewSet) (h : Hit) (low high : ℕ) → h.wanted ≡ of_view w (view_of views low) → h.set < length sets → low < high → high ≤ length views → has_place set low ≡ true
      → ((k : ℕ) → has_place (set_at sets h.set) k ≡ (is_from low high k && has_place set k)) → ((p : ℕ) → low ≤ p → p < high → AreAsOne h.wanted.view (view_of views p)) → ((p : ℕ) → low ≤ p → p < high → look (of_view h.wanted (view_of views p)) ≡ Some h.mapping)
      → in_container site.blocks h.mapping.paddr ≡ Some h.mapping.paddr → mapping_features site.block_size h.mapping.flags h.mapping.size ≡ [] → IsHitOf look site views sets w set h
  hit-of sets h low high same number more inside has bits one found placed plain = record {
    oid = ap (λ (x : Wanted). x.oid) same;
    want = ap (λ (x : Wanted). x.want) same;
    number = number;
    place = low;
    below = omega arith;
    view = ap (λ (x : Wanted). x.view) same;
    own = bits low ∙ bit-part low high low (has_place set low) (omega arith) more has;
    only = λ p e. (part-bit low high p (has_place set p) (sym (bits p) ∙ e)).1.1;
    found = λ p e. let t = part-bit low high p (has_place set p) (sym (bits p) ∙ e) in (one p t.0 t.1.0, found p t.0 t.1.0);
    inside = placed;
    plain = plain;
  }

  pub split-none : (sets : List ViewSet) (old : List Hit) → AreSplit look site views sets w set 0 old old
  split-none sets old = record { each = λ p low. absurd (omega arith); only = λ h i. inl i; kept = λ h i. i }

  -- a hit more
  pub split-more : (sets more : List ViewSet) (from low high : ℕ) (old out new : List Hit) (h : Hit) → AreKept sets more → new ≡ out ++ h ∷ [] → AreSplit look site views sets w set from old out → AreNone set from low → IsHitOf look site views more w set h
      → ((k : ℕ) → has_place (set_at more h.set) k ≡ (is_from low high k && has_place set k)) → AreSplit look site views more w set high old new
  split-more sets more from low high old out new h kept e s clear is bits = record {
    each = λ p below f. elim (cases_lt p from) as (λ _. HasHit look site views more w set new p) [
      | inl before ↦ has-kept sets more kept out new (λ g i. subst (In g) (sym e) (in-left g out (h ∷ []) i)) p (s.each p before f)
      | inr past ↦ elim (cases_lt p low) as (λ _. HasHit look site views more w set new p) [
        | inl early ↦ absurd (both_ways _ (clear p past early) f)
        | inr late ↦ record { one = h; listed = subst (In h) (sym e) (in-right h out (h ∷ []) (inl refl)); is = is; has = bits p ∙ bit-part low high p (has_place set p) late below f }
      ]
    ];
    only = λ g i. elim (in-push g out h (subst (In g) e i)) as (λ _. In g old ⊎ IsHitOf look site views more w set g) [
      | inl j ↦ elim (s.only g j) as (λ _. In g old ⊎ IsHitOf look site views more w set g) [ inl k ↦ inl k | inr k ↦ inr (hit-kept sets more kept g k) ]
      | inr q ↦ inr (subst (λ (x : Hit). IsHitOf look site views more w set x) (sym q) is)
    ];
    kept = λ g i. subst (In g) (sym e) (in-left g out (h ∷ []) (s.kept g i));
  }

  -- no view is left
  pub split-all : (sets : List ViewSet) (from end : ℕ) (old out : List Hit) → AreSplit look site views sets w set from old out → AreNone set from end → AreSplit look site views sets w set end old out
  split-all sets from end old out s clear = record {
    each = λ p below f. elim (cases_lt p from) as (λ _. HasHit look site views sets w set out p) [ inl before ↦ s.each p before f | inr past ↦ absurd (both_ways _ (clear p past below) f) ];
    only = s.only;
    kept = s.kept;
  }

-- one more that is sought
pub hits-more : (look : Wanted → Option OmapRecord) (site : Site) (views : List SweptView) (sets more : List ViewSet) (all longer : List Sought) (s : Sought) (old new : List Hit) → longer ≡ all ++ s ∷ [] → AreKept sets more → AreHitsOf look site views sets all old
    → AreSplit look site views more s.wanted s.set.items (length views) old new → AreHitsOf look site views more longer new
hits-more look site views sets more all longer s old new e kept so split = record {
  each = λ x p i low f. elim (in-push x all s (subst (In x) e i)) as (λ _. HasHit look site views more x.wanted x.set.items new p) [
    | inl j ↦ has-kept look site views x.wanted x.set.items sets more kept old new split.kept p (so.each x p j low f)
    | inr q ↦ subst (λ (y : Sought). HasHit look site views more y.wanted y.set.items new p) (sym q) (split.each p low (sym (ap (λ (y : Sought). has_place y.set.items p) q) ∙ f))
  ];
  only = λ h i. elim (split.only h i) as (λ _. (x : Sought) × (In x longer × IsHitOf look site views more x.wanted x.set.items h)) [
    | inl j ↦ let t = so.only h j in (t.0, (subst (In t.0) (sym e) (in-left t.0 all (s ∷ []) t.1.0), hit-kept look site views t.0.wanted t.0.set.items sets more kept h t.1.1))
    | inr k ↦ (s, (subst (In s) (sym e) (in-right s all (s ∷ []) (inl refl)), k))
  ];
}
