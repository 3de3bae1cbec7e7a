-- What is wanted of the views of sets.
use Rattle.std.proofs.Common.{◌≡◌, ℕ, zero, suc, ◌+◌, ◌<◌, ◌≤◌, true, List, [], ◌∷◌, ◌++◌, length, get_or, inl, inr, refl, ap, ap₂, sym, ◌∙◌, subst, arith, length-append}
use Rattle.std.specs.List.{filter, range_with_len}
use Rattle.std.proofs.lemmas.Bool.{cases_lt}
use Rattle.apfs_model.specs.Lists.{In}
use Rattle.apfs_model.proofs.BoolTests.{in-range, from-range}
use Rattle.apfs_model.proofs.Searches.{in-map, from-map, in-filter, from-filter, filter-test, in-flat_map, from-flat_map}
use Rattle.view_sweep.specs.declared.runs.Run.{Run}
use Rattle.view_sweep.specs.declared.sets.ViewSet.{ViewSet}
use Rattle.view_sweep.specs.declared.wanted.SweptView.{SweptView}
use Rattle.view_sweep.specs.declared.wanted.Wanted.{Wanted}
use Rattle.view_sweep.specs.declared.wanted.Asked.{Asked}
use Rattle.view_sweep.specs.Runs.{has_place}
use Rattle.view_sweep.specs.Sets.{set_at, view_of, views_in, of_view, of_set, asked_of, all_asked, IsSetOf, AreSets, AreKept, AreNumbered}
use Rattle.view_sweep.specs.Asked.{IsOfSet}

in-views : (views : List SweptView) (set : List Run) (v : SweptView) → In v (views_in views set) → (p : ℕ) × ((p < length views) × ((has_place set p ≡ true) × (v ≡ view_of views p)))
in-views views set v h =
    let places : List ℕ = range_with_len 0 (length views) in
    let t = from-map (view_of views) (filter (has_place set) places) v h in
    let low : t.0 < 0 + length views = from-range 0 (length views) t.0 (from-filter (has_place set) t.0 places t.1.0) in
    (t.0, (omega arith, (filter-test (has_place set) t.0 places t.1.0, t.1.1)))

views-in : (views : List SweptView) (set : List Run) (p : ℕ) → p < length views → has_place set p ≡ true → In (view_of views p) (views_in views set)
views-in views set p low e =
    let places : List ℕ = range_with_len 0 (length views) in
    in-map (view_of views) (filter (has_place set) places) p (in-filter (has_place set) p places (in-range 0 (length views) p (omega arith) (omega arith)) e)

-- what is wanted of the views of a set, by its view
pub of-set : (views : List SweptView) (set : List Run) (w x : Wanted) → In x (of_set views set w) → IsOfSet views w set x
of-set views set w x h =
    let t = from-map (of_view w) (views_in views set) x h in
    let v = in-views views set t.0 t.1.0 in
    record { place = v.0; below = v.1.0; has = v.1.1.0; is = t.1.1 ∙ ap (of_view w) v.1.1.1 }

pub set-of : (views : List SweptView) (set : List Run) (w x : Wanted) → IsOfSet views w set x → In x (of_set views set w)
set-of views set w x i = subst (λ (y : Wanted). In y (of_set views set w)) (sym i.is) (in-map (of_view w) (views_in views set) (view_of views i.place) (views-in views set i.place i.below i.has))

pub from-asked : (views : List SweptView) (sets : List ViewSet) (asked : List Asked) (x : Wanted) → In x (all_asked views sets asked) → (a : Asked) × (In a asked × IsOfSet views a.wanted (set_at sets a.set) x)
from-asked views sets asked x h =
    let t = from-flat_map (asked_of views sets) x asked h in
    (t.0, (t.1.0, of-set views (set_at sets t.0.set) t.0.wanted x t.1.1))

pub in-asked : (views : List SweptView) (sets : List ViewSet) (asked : List Asked) (a : Asked) (x : Wanted) → In a asked → IsOfSet views a.wanted (set_at sets a.set) x → In x (all_asked views sets asked)
in-asked views sets asked a x h i = in-flat_map (asked_of views sets) a x asked h (set-of views (set_at sets a.set) a.wanted x i)

-- ---- sets by their numbers
pub set-push : (sets : List ViewSet) (s : ViewSet) → set_at (sets ++ s ∷ []) (length sets) ≡ s.runs.items
set-push [] s = refl
set-push (x ∷ xs) s = set-push xs s

pub set-front : (sets more : List ViewSet) (n : ℕ) → n < length sets → set_at (sets ++ more) n ≡ set_at sets n
set-front [] more n low = absurd (omega arith)
set-front (x ∷ xs) more zero low = refl
set-front (x ∷ xs) more (suc n) low = set-front xs more n (omega arith)

pub set-read : (sets : List ViewSet) (n : ℕ) (d : ViewSet) → n < length sets → set_at sets n ≡ (get_or sets n d).runs.items
set-read [] n d low = absurd (omega arith)
set-read (x ∷ xs) zero d low = refl
set-read (x ∷ xs) (suc n) d low = set-read xs n d (omega arith)

-- a set more
pub kept-push : (old new : List ViewSet) (s : ViewSet) → new ≡ old ++ s ∷ [] → AreKept old new
kept-push old new s e = record {
  more = let long : length new ≡ length old + 1 = ap length e ∙ length-append old (s ∷ []) in omega arith;
  same = λ n low. ap (λ (ss : List ViewSet). set_at ss n) e ∙ set-front old (s ∷ []) n low;
}

pub at-push : (old new : List ViewSet) (s : ViewSet) (n : ℕ) → n ≡ length old → new ≡ old ++ s ∷ [] → set_at new n ≡ s.runs.items
at-push old new s n low e = ap (λ (ss : List ViewSet). set_at ss n) e ∙ (ap (λ (i : ℕ). set_at (old ++ s ∷ []) i) low ∙ set-push old s)

pub sets-push : (views : List SweptView) (old new : List ViewSet) (s : ViewSet) → new ≡ old ++ s ∷ [] → AreSets views old → IsSetOf views s.runs.items → AreSets views new
sets-push views old new s e all is = λ n low. elim (cases_lt n (length old)) as (λ _. IsSetOf views (set_at new n)) [
  | inl front ↦ subst (IsSetOf views) (sym ((kept-push old new s e).same n front)) (all n front)
  | inr last ↦
      let long : length new ≡ length old + 1 = ap length e ∙ length-append old (s ∷ []) in
      subst (IsSetOf views) (sym (at-push old new s n (omega arith) e)) is
]

-- what is asked means the same among more sets
pub asked-kept : (views : List SweptView) (old new : List ViewSet) (asked : List Asked) → AreKept old new → AreNumbered (length old) asked → all_asked views new asked ≡ all_asked views old asked
asked-kept views old new [] kept low = refl
asked-kept views old new (a ∷ rest) kept low =
    ap₂ (λ (xs ys : List Wanted). xs ++ ys) (ap (λ set. of_set views set a.wanted) (kept.same a.set (low a (inl refl)))) (asked-kept views old new rest kept (λ b h. low b (inr h)))

pub numbered-more : (n m : ℕ) (asked : List Asked) → n ≤ m → AreNumbered n asked → AreNumbered m asked
numbered-more n m asked le low = λ a h. let k : a.set < n = low a h in omega arith

pub kept-both : (a b c : List ViewSet) → AreKept a b → AreKept b c → AreKept a c
kept-both a b c p q =
    let x : length a ≤ length b = p.more in
    let y : length b ≤ length c = q.more in
    record { more = omega arith; same = λ n low. q.same n (omega arith) ∙ p.same n low }
