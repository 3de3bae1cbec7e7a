-- Through which views the records are used that a level reads, and those of all levels.
use Rattle.std.proofs.Common.{◌≡◌, ℕ, suc, ◌<◌, ◌≤◌, true, List, [], ◌++◌, length, map, ◌⊎◌, inl, inr, Option, Some, refl, ap, sym, ◌∙◌, subst, arith}
use Rattle.std.proofs.lemmas.Bool.{cases_lt}
use Rattle.apfs_model.specs.Blocks.{in_container}
use Rattle.apfs_model.specs.Lists.{In}
use Rattle.apfs_model.proofs.Searches.{in-map, from-map, in-left, in-right, in-append}
use Rattle.omap_map.specs.declared.records.OmapRecord.{OmapRecord}
use Rattle.reach_rules.specs.Live.{rooted}
use Rattle.view_sweep.specs.declared.runs.Run.{Run}
use Rattle.view_sweep.specs.declared.sets.ViewSet.{ViewSet}
use Rattle.view_sweep.specs.declared.wanted.SweptView.{SweptView}
use Rattle.view_sweep.specs.declared.wanted.Head.{Head}
use Rattle.view_sweep.specs.declared.wanted.Want.{Want}
use Rattle.view_sweep.specs.declared.wanted.Want.TheVariants.{Root, Metadata, Node}
use Rattle.view_sweep.specs.declared.wanted.Wanted.{Wanted}
use Rattle.view_sweep.specs.declared.used.Hit.{Hit}
use Rattle.view_sweep.specs.declared.used.Share.{Share}
use Rattle.view_sweep.specs.Runs.{has_place}
use Rattle.view_sweep.specs.Wanted.{heads_want, expected_by, expected_of}
use Rattle.view_sweep.specs.Found.{World}
use Rattle.view_sweep.specs.Sets.{view_of, set_at, of_view, hit_by, IsFirst, AreSets, AreKept, HaveSame}
use Rattle.view_sweep.specs.Swept.{ArePlaced, level_of}
use Rattle.view_sweep.specs.Shared.{expected_as, is_shared, shared_as, share_of, HasView, AreInside, IsUseOf, HasUse, IsUsedIn, AreShares, AddsShares, IsAbove}
use Rattle.view_sweep.proofs.Likes.{IsLike, look-like, expected-alike, expected-one}
use Rattle.view_sweep.proofs.Members.{of-set, set-of}
use Rattle.view_sweep.proofs.Steps.{AreFor}
use Rattle.view_sweep.proofs.Wholes.{IsByName, IsLevel, heads-level, live-top}

-- a view has one first place
pub first-one : (views : List SweptView) (v : SweptView) (p q : ℕ) → IsFirst views v p → IsFirst views v q → p ≡ q
first-one views v p q a b =
    let low : p ≤ q = a.first q b.below b.is in
    let high : q ≤ p = b.first p a.below a.is in
    omega arith

-- what is expected, as it is told of a record
as-shared : (v : SweptView) (want : Want) → expected_by v want ≡ expected_as v.hashed (shared_as want)
as-shared v Root = refl
as-shared v Metadata = refl
as-shared v (Node level namer entry) = refl

expected-like : (a b : Wanted) → IsLike a b → expected_of a ≡ expected_of b
expected-like a b l = ap (λ (v : SweptView). expected_by v a.want) l.view ∙ expected-alike b.view a.want b.want l.number

-- ---- of a level
module _ (k : World) (named : IsByName k) (views : List SweptView) (sets : List ViewSet) (current : List Wanted) (hits : List Hit) (for : AreFor k current hits (hit_by views sets)) (are : AreSets views sets) (low : (h : Hit) → In h hits → h.set < length sets) where
  -- what is wanted as a view of a hit wants it uses the hit's record
  hit-use : (h : Hit) (v w : Wanted) → In h hits → In v (hit_by views sets h) → IsLike v w → IsUseOf k.look w (share_of h)
  hit-use h v w i j l = record {
    found = sym (look-like k named v w l) ∙ for.found h v i j;
    map_is = sym (ap (λ (x : SweptView). x.map) l.view) ∙ sym (for.one h v i j).map;
    expected_is = sym (expected-like v w l)
        ∙ (ap (λ (x : Wanted). expected_of x) (for.is h v i j)
        ∙ (expected-one h.wanted.view v.view h.wanted.want (for.one h v i j)
        ∙ as-shared h.wanted.view h.wanted.want));
  }

  shares-each : (w : Wanted) (p : ℕ) → In w current → IsFirst views w.view p → HasUse k.look sets (map share_of hits) w p
  shares-each w p i first =
      let s = for.each w i in
      let h : Hit = s.0 in
      let v = s.1.1 in
      let o = of-set views (set_at sets h.set) h.wanted v.0 v.1.0 in
      let at : view_of views o.place ≡ w.view = sym (ap (λ (x : Wanted). x.view) o.is) ∙ v.1.1.view in
      let here : IsFirst views w.view o.place = subst (λ (u : SweptView). IsFirst views u o.place) at ((are h.set (low h s.1.0)).first o.place o.has) in
      let same : o.place ≡ p = first-one views w.view o.place p here first in
      record {
        by = share_of h;
        one = in-map share_of hits h s.1.0;
        has = subst (λ q. has_place (set_at sets h.set) q ≡ true) same o.has;
        is = hit-use h v.0 w s.1.0 v.1.0 v.1.1;
      }

  shares-only : (s : Share) (p : ℕ) → In s (map share_of hits) → is_shared sets s p ≡ true → IsUsedIn k.look (λ w. In w current) (view_of views p) s
  shares-only s p i e =
      let t = from-map share_of hits s i in
      let h : Hit = t.0 in
      let has : has_place (set_at sets h.set) p ≡ true = sym (ap (λ (x : Share). is_shared sets x p) t.1.1) ∙ e in
      let inside : p < length views = ((are h.set (low h t.1.0)).first p has).below in
      let v : Wanted = of_view h.wanted (view_of views p) in
      let j : In v (hit_by views sets h) = set-of views (set_at sets h.set) h.wanted v (record { place = p; below = inside; has = has; is = refl }) in
      let m = for.only h v t.1.0 j in
      record { one = m.0; wanted = m.1.0; view_is = sym m.1.1.view; is = subst (λ (x : Share). IsUseOf k.look m.0 x) (sym t.1.1) (hit-use h v m.0 t.1.0 j m.1.1) }

  pub shares-for : AreShares k.look views (λ w. In w current) sets (map share_of hits)
  shares-for = record { each = shares-each; only = shares-only }

  some-view : (h : Hit) → In h hits → HasView (set_at sets h.set)
  some-view h i = let o = of-set views (set_at sets h.set) h.wanted h.wanted (for.own h i) in record { place = o.place; has = o.has }

  pub inside-for : (blocks : ℕ) → ArePlaced blocks hits → AreInside blocks views sets (map share_of hits)
  inside-for blocks placed = record {
    sets_are = are;
    number = λ s i. let t = from-map share_of hits s i in subst (λ (x : Share). x.set < length sets) (sym t.1.1) (low t.0 t.1.0);
    some = λ s i. let t = from-map share_of hits s i in subst (λ (x : Share). HasView (set_at sets x.set)) (sym t.1.1) (some-view t.0 t.1.0);
    placed = λ s i. let t = from-map share_of hits s i in subst (λ (x : Share). in_container blocks x.used.mapping.paddr ≡ Some x.used.mapping.paddr) (sym t.1.1) (placed t.0 t.1.0);
  }

  pub level-shares : (blocks : ℕ) (old new : List Share) → ArePlaced blocks hits → new ≡ old ++ map share_of hits → AddsShares k.look blocks views (λ w. In w current) sets old new
  level-shares blocks old new placed e = record { more = map share_of hits; added = e; inside = inside-for blocks placed; those = shares-for }

-- ---- of what is wanted of one list and of another
pub shares-as : (look : Wanted → Option OmapRecord) (views : List SweptView) (P Q : Wanted → Type 0) (sets : List ViewSet) (shares : List Share) → ((w : Wanted) → P w → Q w) → ((w : Wanted) → Q w → P w) → AreShares look views P sets shares → AreShares look views Q sets shares
shares-as look views P Q sets shares to from a = record {
  each = λ w p q first. a.each w p (from w q) first;
  only = λ s p i e. let t = a.only s p i e in record { one = t.one; wanted = to t.one t.wanted; view_is = t.view_is; is = t.is };
}

pub inside-more : (blocks : ℕ) (look : Wanted → Option OmapRecord) (views : List SweptView) (P : Wanted → Type 0) (sets grown : List ViewSet) (old new : List Share) → AreKept sets grown → AreInside blocks views sets old → AddsShares look blocks views P grown old new → AreInside blocks views grown new
inside-more blocks look views P sets grown old new kept a b =
    let by : (R : Share → Type 0) → ((s : Share) → In s old → R s) → ((s : Share) → In s b.more → R s) → (s : Share) → In s new → R s =
    λ R front back s i. elim (in-append s old b.more (subst (λ (xs : List Share). In s xs) b.added i)) as (λ _. R s) [ inl x ↦ front s x | inr y ↦ back s y ] in
    record {
      sets_are = b.inside.sets_are;
      number = by (λ s. s.set < length grown) (λ s i. let x : s.set < length sets = a.number s i in let y : length sets ≤ length grown = kept.more in omega arith) b.inside.number;
      some = by (λ s. HasView (set_at grown s.set)) (λ s i. subst HasView (sym (kept.same s.set (a.number s i))) (a.some s i)) b.inside.some;
      placed = by (λ s. in_container blocks s.used.mapping.paddr ≡ Some s.used.mapping.paddr) a.placed b.inside.placed;
    }

pub shares-more : (blocks : ℕ) (look : Wanted → Option OmapRecord) (views : List SweptView) (P Q R : Wanted → Type 0) (sets grown : List ViewSet) (old new : List Share) → ((w : Wanted) → R w → P w ⊎ Q w) → ((w : Wanted) → P w → R w) → ((w : Wanted) → Q w → R w) → AreKept sets grown
    → AreInside blocks views sets old → AreShares look views P sets old → AddsShares look blocks views Q grown old new → AreShares look views R grown new
shares-more blocks look views P Q R sets grown old new either left right kept inside a b = record {
  each = λ w p r first. elim (either w r) as (λ _. HasUse look grown new w p) [
    | inl x ↦
        let t = a.each w p x first in
        record {
          by = t.by;
          one = subst (λ (xs : List Share). In t.by xs) (sym b.added) (in-left t.by old b.more t.one);
          has = ap (λ (bits : List Run). has_place bits p) (kept.same t.by.set (inside.number t.by t.one)) ∙ t.has;
          is = t.is;
        }
    | inr y ↦
        let t = b.those.each w p y first in
        record { by = t.by; one = subst (λ (xs : List Share). In t.by xs) (sym b.added) (in-right t.by old b.more t.one); has = t.has; is = t.is }
  ];
  only = λ s p i e. elim (in-append s old b.more (subst (λ (xs : List Share). In s xs) b.added i)) as (λ _. IsUsedIn look R (view_of views p) s) [
    | inl x ↦
        let t = a.only s p x (sym (ap (λ (bits : List Run). has_place bits p) (kept.same s.set (inside.number s x))) ∙ e) in
        record { one = t.one; wanted = left t.one t.wanted; view_is = t.view_is; is = t.is }
    | inr y ↦
        let t = b.those.only s p y e in
        record { one = t.one; wanted = right t.one t.wanted; view_is = t.view_is; is = t.is }
  ];
}

-- ---- the levels
-- what superblocks want, where nothing was told before
pub shares-top : (blocks : ℕ) (k : World) (heads : List Head) (views : List SweptView) (first : List Wanted) (sets : List ViewSet) (new : List Share) → HaveSame first (heads_want heads) → AddsShares k.look blocks views (λ w. In w first) sets [] new → AreShares k.look views (IsAbove k heads 16) sets new
shares-top blocks k heads views first sets new same b =
    subst (λ (xs : List Share). AreShares k.look views (IsAbove k heads 16) sets xs) (sym b.added)
    (shares-as k.look views (λ w. In w first) (IsAbove k heads 16) sets b.more (λ w i. let j = same.to w i in let e : level_of w ≡ 16 = heads-level heads w j in (rooted w j, omega arith)) (λ w a. same.from w (live-top k heads w a.0 a.1)) b.those)

pub inside-top : (blocks : ℕ) (look : Wanted → Option OmapRecord) (views : List SweptView) (P : Wanted → Type 0) (sets : List ViewSet) (new : List Share) → AddsShares look blocks views P sets [] new → AreInside blocks views sets new
inside-top blocks look views P sets new b = subst (λ (xs : List Share). AreInside blocks views sets xs) (sym b.added) b.inside

above-split : (level n : ℕ) → level ≤ n → (suc level ≤ n) ⊎ (n ≡ level)
above-split level n h = elim (cases_lt level n) as (λ _. (suc level ≤ n) ⊎ (n ≡ level)) [ inl l ↦ inl (omega arith) | inr l ↦ inr (omega arith) ]

-- a level more
pub shares-level : (blocks : ℕ) (k : World) (heads : List Head) (views : List SweptView) (level : ℕ) (current : List Wanted) (sets grown : List ViewSet) (old new : List Share) → IsLevel k heads level current → AreKept sets grown → AreInside blocks views sets old
    → AreShares k.look views (IsAbove k heads (suc level)) sets old → AddsShares k.look blocks views (λ w. In w current) grown old new → AreShares k.look views (IsAbove k heads level) grown new
shares-level blocks k heads views level current sets grown old new l kept inside a b =
    shares-more blocks k.look views (IsAbove k heads (suc level)) (λ w. In w current) (IsAbove k heads level) sets grown old new
    (λ w r. elim (above-split level (level_of w) r.1) as (λ _. IsAbove k heads (suc level) w ⊎ In w current) [ inl x ↦ inl (r.0, x) | inr y ↦ inr (l.all w r.0 y) ])
    (λ w x. let high : suc level ≤ level_of w = x.1 in (x.0, omega arith))
    (λ w i. let t = l.live w i in let e : level_of w ≡ level = t.1 in (t.0, omega arith))
    kept inside a b
