-- Views that stand side by side, and the first places of views.
use Rattle.std.proofs.Common.{◌≡◌, ℕ, ◌+◌, ◌-◌, ◌<◌, ◌≤◌, true, false, nat_lt, List, [], ◌∷◌, ◌++◌, length, map, take, drop, get_or, inl, inr, Option, Some, IfSome, refl, ap, sym, ◌∙◌, subst, arith}
use Rattle.std.specs.Prelude.{◌↔◌, IsNone}
use Rattle.std.specs.List.Sorted.{IsPartitionPoint, IsPartitionedBy, IsNonDecreasingBy}
use Rattle.std.proofs.lemmas.Bool.{cases_lt}
use Rattle.std.proofs.lemmas.Grind.{common_steps}
use Rattle.std.proofs.lemmas.List.{get_or-take, get_or-drop, get_or_default, get_or-map, length-take-le, length-drop}
use Rattle.apfs_model.specs.Lists.{In}
use Rattle.apfs_model.proofs.BoolTests.{clash, below-from, from-below}
use Rattle.obj_base.specs.declared.site.Site.{Site}
use Rattle.omap_map.specs.Resolve.{resolved}
use Rattle.omap_map.specs.declared.records.OmapRecord.{OmapRecord}
use Rattle.omap_map.proofs.Laws.{resolved-means}
use Rattle.vol_view.specs.Volumes.{Loaded}
use Rattle.view_sweep.specs.declared.runs.Run.{Run}
use Rattle.view_sweep.specs.declared.wanted.SweptView.{SweptView}
use Rattle.view_sweep.specs.declared.wanted.Wanted.{Wanted}
use Rattle.view_sweep.specs.Found.{looked, records_at}
use Rattle.view_sweep.specs.Next.{AreAsOne, AreNoneAfter, IsNext, IsStretch, AreStretches, AreSoFar, xid_of}
use Rattle.view_sweep.specs.Runs.{has_place, AreRising}
use Rattle.view_sweep.specs.Sets.{view_of, of_view, is_before, AreDistinct, IsFirst, IsSetOf}
use Rattle.view_sweep.proofs.Ranked.{in-push}
use Rattle.view_sweep.proofs.Rises.{rising-put}
use Rattle.view_sweep.proofs.Since.{looked-is, found-since}

-- ---- stretches

one-self : (v : SweptView) → AreAsOne v v
one-self v = record { volume = refl; map = refl; hashed = refl }

one-trans : (a b c : SweptView) → AreAsOne a b → AreAsOne b c → AreAsOne a c
one-trans a b c p q = record { volume = p.volume ∙ q.volume; map = p.map ∙ q.map; hashed = p.hashed ∙ q.hashed }

-- one view is a stretch
pub stretch-one : (views : List SweptView) (low end : ℕ) → end ≡ low + 1 → IsStretch views low end
stretch-one views low end e = record {
  one = λ p q a b c. let same : p ≡ q = omega arith in subst (λ (n : ℕ). AreAsOne (view_of views p) (view_of views n)) same (one-self (view_of views p));
  rises = λ p q a b c. let same : p ≡ q = omega arith in subst (λ (n : ℕ). (view_of views p).xid ≤ (view_of views n).xid) same (omega arith);
}

-- one view more
pub stretch-more : (views : List SweptView) (low end before : ℕ) → low < end → end ≡ before + 1 → AreAsOne (view_of views before) (view_of views end) → (view_of views before).xid ≤ (view_of views end).xid → IsStretch views low end → IsStretch views low (end + 1)
stretch-more views low end before some e one rises s = record {
  one = λ p q a b c. elim (cases_lt q end) as (λ _. AreAsOne (view_of views p) (view_of views q)) [
    | inl front ↦ s.one p q a b front
    | inr back ↦
        let last : end ≡ q = omega arith in
        subst (λ (n : ℕ). AreAsOne (view_of views p) (view_of views n)) last (elim (cases_lt p end) as (λ _. AreAsOne (view_of views p) (view_of views end)) [
          | inl earlier ↦ one-trans (view_of views p) (view_of views before) (view_of views end) (s.one p before a (omega arith) (omega arith)) one
          | inr same ↦ let is : p ≡ end = omega arith in subst (λ (n : ℕ). AreAsOne (view_of views p) (view_of views n)) is (one-self (view_of views p))
        ])
  ];
  rises = λ p q a b c. elim (cases_lt q end) as (λ _. (view_of views p).xid ≤ (view_of views q).xid) [
    | inl front ↦ s.rises p q a b front
    | inr back ↦
        let last : end ≡ q = omega arith in
        subst (λ (n : ℕ). (view_of views p).xid ≤ (view_of views n).xid) last (elim (cases_lt p end) as (λ _. (view_of views p).xid ≤ (view_of views end).xid) [
          | inl earlier ↦ let x : (view_of views p).xid ≤ (view_of views before).xid = s.rises p before a (omega arith) (omega arith) in omega arith
          | inr same ↦ let is : p ≡ end = omega arith in subst (λ (n : ℕ). (view_of views p).xid ≤ (view_of views n).xid) is (omega arith)
        ])
  ];
}

-- of some views less
pub stretch-front : (views : List SweptView) (low end to : ℕ) → to ≤ end → IsStretch views low end → IsStretch views low to
stretch-front views low end to le s = record { one = λ p q a b c. s.one p q a b (omega arith); rises = λ p q a b c. s.rises p q a b (omega arith) }

pub stretch-part : (views : List SweptView) (low end from : ℕ) → low ≤ from → IsStretch views low end → IsStretch views from end
stretch-part views low end from le s = record { one = λ p q a b c. s.one p q (omega arith) b c; rises = λ p q a b c. s.rises p q (omega arith) b c }

pub no-stretches : (views : List SweptView) (runs : List Run) → runs ≡ [] → AreStretches views runs
no-stretches views runs e = record { inside = λ r h. absurd (subst (In r) e h); stretch = λ r h. absurd (subst (In r) e h) }

pub more-stretches : (views : List SweptView) (old new : List Run) (run : Run) → new ≡ old ++ run ∷ [] → run.end ≤ length views → IsStretch views run.from run.end → AreStretches views old → AreStretches views new
more-stretches views old new run e low s all = record {
  inside = λ r h. elim (in-push r old run (subst (In r) e h)) as (λ _. r.end ≤ length views) [ inl k ↦ all.inside r k | inr q ↦ subst (λ (x : Run). x.end ≤ length views) (sym q) low ];
  stretch = λ r h. elim (in-push r old run (subst (In r) e h)) as (λ _. IsStretch views r.from r.end) [ inl k ↦ all.stretch r k | inr q ↦ subst (λ (x : Run). IsStretch views x.from x.end) (sym q) s ];
}

-- ---- the stretches up to a place

pub none-far : (views : List SweptView) (runs : List Run) → runs ≡ [] → AreSoFar views runs 0 1
none-far views runs e = record {
  rising = subst AreRising (sym e) tt;
  before = λ r h. absurd (subst (In r) e h);
  all = no-stretches views runs e;
  low = omega arith;
  stretch = stretch-one views 0 1 refl;
}

pub far-follows : (views : List SweptView) (runs : List Run) (from place before : ℕ) → place ≡ before + 1 → AreAsOne (view_of views before) (view_of views place) → (view_of views before).xid ≤ (view_of views place).xid → AreSoFar views runs from place → AreSoFar views runs from (place + 1)
far-follows views runs from place before e one rises far =
    let low : from < place = far.low in
    record { rising = far.rising; before = far.before; all = far.all; low = omega arith; stretch = stretch-more views from place before low e one rises far.stretch }

pub last-rising : (views : List SweptView) (old new : List Run) (from end : ℕ) → new ≡ old ++ record { from = from; end = end } ∷ [] → AreSoFar views old from end → AreRising new
last-rising views old new from end e far = rising-put old new (record { from = from; end = end }) e far.before far.low far.rising

stretches-put : (views : List SweptView) (old new : List Run) (from end : ℕ) → new ≡ old ++ record { from = from; end = end } ∷ [] → end ≤ length views → AreSoFar views old from end → AreStretches views new
stretches-put views old new from end e inside far = more-stretches views old new (record { from = from; end = end }) e inside far.stretch far.all

pub last-all : (views : List SweptView) (old new : List Run) (from end : ℕ) → new ≡ old ++ record { from = from; end = end } ∷ [] → AreSoFar views old from (length views) → end ≡ length views → AreStretches views new
last-all views old new from end e far same = stretches-put views old new from end e (omega (arith, same)) (subst (λ (n : ℕ). AreSoFar views old from n) (sym same) far)

pub far-ends : (views : List SweptView) (old new : List Run) (from place : ℕ) → new ≡ old ++ record { from = from; end = place } ∷ [] → place < length views → AreSoFar views old from place → AreSoFar views new place (place + 1)
far-ends views old new from place e inside far =
    let low : from < place = far.low in
    record {
      rising = last-rising views old new from place e far;
      before = λ r h. elim (in-push r old (record { from = from; end = place }) (subst (In r) e h)) as (λ _. r.end ≤ place) [
        | inl k ↦ let ends : r.end ≤ from = far.before r k in omega arith
        | inr q ↦ subst (λ (x : Run). x.end ≤ place) (sym q) (omega arith)
      ];
      all = stretches-put views old new from place e (omega arith) far;
      low = omega arith;
      stretch = stretch-one views place (place + 1) refl;
    }

-- ---- the views of a stretch, by their places

pub part-long : (views : List SweptView) (low end : ℕ) → end ≤ length views → length (take (end - low) (drop low views)) ≡ end - low
part-long views low end inside = length-take-le (end - low) (drop low views) (omega (arith, length-drop low views))

part-view : (views : List SweptView) (low end i : ℕ) (d : SweptView) → i < end - low → end ≤ length views → get_or (take (end - low) (drop low views)) i d ≡ view_of views (low + i)
part-view views low end i d less inside = get_or-take (end - low) (drop low views) i d less ∙ (get_or-drop low views i d ∙ get_or_default views (low + i) d (record { slot = 0; place = 0; xid = 0; map = 0; hashed = false; volume = 0 }) (omega arith))

pub part-rises : (views : List SweptView) (low end : ℕ) → length (take (end - low) (drop low views)) ≡ end - low → end ≤ length views → IsStretch views low end → IsNonDecreasingBy xid_of (take (end - low) (drop low views))
part-rises views low end long inside s i j d le within =
    let less : j < end - low = omega (arith, within, long) in
    let a : xid_of (get_or (take (end - low) (drop low views)) i d) ≡ (view_of views (low + i)).xid = ap xid_of (part-view views low end i d (omega arith) inside) in
    let b : xid_of (get_or (take (end - low) (drop low views)) j d) ≡ (view_of views (low + j)).xid = ap xid_of (part-view views low end j d less inside) in
    let c : (view_of views (low + i)).xid ≤ (view_of views (low + j)).xid = s.rises (low + i) (low + j) (omega arith) (omega arith) (omega arith) in
    omega arith

pub before-split : (views : List SweptView) (xid : ℕ) → IsNonDecreasingBy xid_of views → IsPartitionedBy (λ (v : SweptView). nat_lt v.xid xid) views
before-split views xid rises i j d le within e =
    let a : (get_or views i d).xid ≤ (get_or views j d).xid = rises i j d le within in
    let b : (get_or views j d).xid < xid = below-from _ _ e in
    from-below (get_or views i d).xid xid (omega arith)

abbrev IsCut : List SweptView → ℕ → ℕ → Type 0
IsCut views xid at = IsPartitionPoint (λ (v : SweptView). nat_lt v.xid xid ≡ true) (λ (v : SweptView). nat_lt v.xid xid ≡ false) views at

pub cut-some : (views : List SweptView) (low end xid at : ℕ) → low < end → end ≤ length views → length (take (end - low) (drop low views)) ≡ end - low → (view_of views low).xid < xid → IsCut (take (end - low) (drop low views)) xid at → 0 < at
cut-some views low end xid at some inside long first split = elim (cases_lt 0 at) as (λ _. 0 < at) [
  | inl more ↦ more
  | inr none ↦
      let here : nat_lt (get_or (take (end - low) (drop low views)) 0 (view_of views low)).xid xid ≡ false = split.1 0 (view_of views low) none (omega (arith, long)) in
      let zero : low + 0 ≡ low = omega arith in
      let is : (get_or (take (end - low) (drop low views)) 0 (view_of views low)).xid ≡ (view_of views low).xid = ap xid_of (part-view views low end 0 (view_of views low) (omega arith) inside) ∙ ap (λ (n : ℕ). (view_of views n).xid) zero in
      clash (nat_lt (get_or (take (end - low) (drop low views)) 0 (view_of views low)).xid xid) (from-below _ _ (omega (arith, is, first))) here
]

pub cut-before : (views : List SweptView) (low end xid at p : ℕ) → end ≤ length views → at ≤ end - low → IsCut (take (end - low) (drop low views)) xid at → low ≤ p → p < low + at → (view_of views p).xid < xid
cut-before views low end xid at p inside few split above below =
    let i : ℕ = p - low in
    let same : low + i ≡ p = omega arith in
    let here : (get_or (take (end - low) (drop low views)) i (view_of views p)).xid < xid = below-from _ _ (split.0 i (view_of views p) (omega arith) (omega arith)) in
    let is : (get_or (take (end - low) (drop low views)) i (view_of views p)).xid ≡ (view_of views p).xid = ap xid_of (part-view views low end i (view_of views p) (omega arith) inside) ∙ ap (λ (n : ℕ). (view_of views n).xid) same in
    omega (arith, here, is)

-- ---- the views that find an object by one record

found-early : (volumes : List Loaded) (site : Site) (w : Wanted) (m : OmapRecord) → looked volumes site w ≡ Some m → m.xid ≤ w.view.xid
unfolding looked
found-early volumes site w m found = (resolved-means (records_at volumes w.view.volume) w.oid w.view.xid m (looked-is site (resolved (records_at volumes w.view.volume) w.oid w.view.xid) m found)).early

-- what is known of the next record of an id
abbrev pub IsKnownNext : List Loaded → Wanted → Option ℕ → Type 0
IsKnownNext volumes w next = (IsNone next → AreNoneAfter (records_at volumes w.view.volume) w.oid w.view.xid) × IfSome next (IsNext (records_at volumes w.view.volume) w.oid w.view.xid)

-- the views from a place up to another are as one view, and find an object by one record
pub record AreLike (volumes : List Loaded) (site : Site) (views : List SweptView) (w : Wanted) (m : OmapRecord) (low high : ℕ) : Type 0 where
  pub one : (p : ℕ) → low ≤ p → p < high → AreAsOne w.view (view_of views p)
  pub found : (p : ℕ) → low ≤ p → p < high → looked volumes site (of_view w (view_of views p)) ≡ Some m

-- those of a stretch, the first of which isn't before the record
pub like-stretch : (volumes : List Loaded) (site : Site) (views : List SweptView) (w : Wanted) (m : OmapRecord) (from high : ℕ) (next : Option ℕ) → looked volumes site w ≡ Some m → IsKnownNext volumes w next → AreAsOne w.view (view_of views from) → m.xid ≤ (view_of views from).xid
    → IsStretch views from high → ((p : ℕ) → from ≤ p → p < high → IfSome next (λ n. (view_of views p).xid < n)) → AreLike volumes site views w m from high
like-stretch volumes site views w m from high next found known first since s before = record {
  one = λ p above below. one-trans w.view (view_of views from) (view_of views p) first (s.one from p (omega arith) above below);
  found = λ p above below.
      let later : (view_of views from).xid ≤ (view_of views p).xid = s.rises from p (omega arith) above below in
      found-since volumes site w (view_of views p) m next found (one-trans w.view (view_of views from) (view_of views p) first (s.one from p (omega arith) above below)) (omega arith) known.0 known.1 (before p above below);
}

pub like-first : (volumes : List Loaded) (site : Site) (views : List SweptView) (w : Wanted) (m : OmapRecord) (low high : ℕ) (next : Option ℕ) → w.view ≡ view_of views low → looked volumes site w ≡ Some m → IsKnownNext volumes w next
    → IsStretch views low high → ((p : ℕ) → low ≤ p → p < high → IfSome next (λ n. (view_of views p).xid < n)) → AreLike volumes site views w m low high
like-first volumes site views w m low high next first found known s before =
    let early : m.xid ≤ w.view.xid = found-early volumes site w m found in
    like-stretch volumes site views w m low high next found known (subst (λ (v : SweptView). AreAsOne w.view v) first (one-self w.view)) (omega (arith, early, ap xid_of first)) s before

pub like-both : (volumes : List Loaded) (site : Site) (views : List SweptView) (w : Wanted) (m : OmapRecord) (low mid high : ℕ) → AreLike volumes site views w m low mid → AreLike volumes site views w m mid high → AreLike volumes site views w m low high
like-both volumes site views w m low mid high a b = record {
  one = λ p above below. elim (cases_lt p mid) as (λ _. AreAsOne w.view (view_of views p)) [ inl front ↦ a.one p above front | inr back ↦ b.one p back below ];
  found = λ p above below. elim (cases_lt p mid) as (λ _. looked volumes site (of_view w (view_of views p)) ≡ Some m) [ inl front ↦ a.found p above front | inr back ↦ b.found p back below ];
}

-- ---- views that stand one before the other

before-both : (a b c : SweptView) → is_before a b ≡ true → is_before b c ≡ true → is_before a c ≡ true
before-both a b c p q = grind (arith, common_steps)

before-itself : (a : SweptView) → is_before a a ≡ true → ⊥
before-itself a p = grind (arith, common_steps)

abbrev pub AreInOrder : List SweptView → ℕ → Type 0
AreInOrder views n = (p q : ℕ) → p < q → q < n → is_before (view_of views p) (view_of views q) ≡ true

pub order-more : (views : List SweptView) (n before : ℕ) → n ≡ before + 1 → is_before (view_of views before) (view_of views n) ≡ true → AreInOrder views n → AreInOrder views (n + 1)
order-more views n before e next order p q less within = elim (cases_lt q n) as (λ _. is_before (view_of views p) (view_of views q) ≡ true) [
  | inl front ↦ order p q less front
  | inr back ↦
      let last : n ≡ q = omega arith in
      subst (λ (k : ℕ). is_before (view_of views p) (view_of views k) ≡ true) last (elim (cases_lt p before) as (λ _. is_before (view_of views p) (view_of views n) ≡ true) [
        | inl earlier ↦ before-both (view_of views p) (view_of views before) (view_of views n) (order p before earlier (omega arith)) next
        | inr same ↦ let is : before ≡ p = omega arith in subst (λ (k : ℕ). is_before (view_of views k) (view_of views n) ≡ true) is next
      ])
]

pub order-distinct : (views : List SweptView) (n m : ℕ) → m ≤ n → AreInOrder views n → AreDistinct views m
order-distinct views n m le order p q less within e = before-itself (view_of views q) (subst (λ (v : SweptView). is_before v (view_of views q) ≡ true) e (order p q less (omega arith)))

pub first-place : (views : List SweptView) (at ordered : ℕ) → at < length views → at < ordered → AreDistinct views ordered → IsFirst views (view_of views at) at
first-place views at ordered within low apart = record {
  below = within;
  is = refl;
  first = λ q inside e. elim (cases_lt q at) as (λ _. at ≤ q) [ inl less ↦ absurd (apart q at less low e) | inr past ↦ past ];
}

-- the set of one place
pub one-set : (views : List SweptView) (set : List Run) (v : SweptView) (place : ℕ) → AreRising set → ((k : ℕ) → (has_place set k ≡ true) ↔ (k ≡ place)) → IsFirst views v place → IsSetOf views set
one-set views set v place rises one first = record {
  rising = rises;
  first = λ p e.
      let same : place ≡ p = sym ((one p).0 e) in
      let is : IsFirst views (view_of views place) place = subst (λ (u : SweptView). IsFirst views u place) (sym first.is) first in
      subst (λ (n : ℕ). IsFirst views (view_of views n) n) same is;
}

-- the view of a head
pub head-view : {X : Type 0} (f : X → SweptView) (views : List SweptView) (xs : List X) (i : ℕ) (d : X) → views ≡ map f xs → i < length xs → view_of views i ≡ f (get_or xs i d)
head-view f views xs i d e within = ap (λ (vs : List SweptView). view_of vs i) e ∙ get_or-map f xs i d (record { slot = 0; place = 0; xid = 0; map = 0; hashed = false; volume = 0 }) within
