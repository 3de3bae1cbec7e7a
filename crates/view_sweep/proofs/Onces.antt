-- Two that are asked for under one id of a view.
use Rattle.std.proofs.Common.{◌≡◌, ℕ, ◌+◌, ◌<◌, ◌≤◌, true, ◌||◌, List, length, ◌⊎◌, inl, inr, refl, ap, sym, ◌∙◌, subst, arith}
use Rattle.std.proofs.lemmas.Bool.{cases_lt}
use Rattle.apfs_model.proofs.BoolTests.{left-or, right-or}
use Rattle.obj_base.specs.declared.stop.Within.TheVariants.{Volume}
use Rattle.view_sweep.specs.declared.runs.Run.{Run}
use Rattle.view_sweep.specs.declared.sets.ViewSet.{ViewSet}
use Rattle.view_sweep.specs.declared.wanted.SweptView.{SweptView}
use Rattle.view_sweep.specs.declared.wanted.Wanted.{Wanted}
use Rattle.view_sweep.specs.declared.wanted.Asked.{Asked}
use Rattle.view_sweep.specs.Runs.{has_place, AreRising}
use Rattle.view_sweep.specs.Sets.{set_at, view_of, of_view, all_asked, AreSets, AreNumbered, IsFirst}
use Rattle.view_sweep.specs.Asked.{nth_asked, has_view, IsClashAt, AreAlikeAt, IsOfSet, IsRun}
use Rattle.view_sweep.specs.Here.{IsTwice, Among}
use Rattle.view_sweep.specs.Order.{AreById}
use Rattle.view_sweep.specs.Swept.{IsOnce}
use Rattle.view_sweep.proofs.Losts.{nobody}
use Rattle.view_sweep.proofs.Members.{from-asked, in-asked}
use Rattle.view_sweep.proofs.Orders.{wanted-is}
use Rattle.view_sweep.proofs.Ranked.{in-place, place-in}

-- one that isn't asked for, where a list has no item
abbrev pub noasked : Asked
noasked = record { wanted = nobody; set = 0 }

-- the number of the set is one of those that are kept
pub nth-numbered : (n : ℕ) (asked : List Asked) (j : ℕ) → AreNumbered n asked → j < length asked → (nth_asked asked j).set < n
nth-numbered n asked j low within = low (nth_asked asked j) (place-in asked j noasked within)

-- a set that is kept rises
pub set-rising : (views : List SweptView) (sets : List ViewSet) (asked : List Asked) (j : ℕ) (runs : List Run) → AreSets views sets → AreNumbered (length sets) asked → j < length asked → runs ≡ set_at sets (nth_asked asked j).set → AreRising runs
set-rising views sets asked j runs proper low within e = subst AreRising (sym e) (proper (nth_asked asked j).set (nth-numbered (length sets) asked j low within)).rising

-- ---- a run of those of one id

last-or : (j i : ℕ) → j < i + 1 → (j < i) ⊎ (i ≡ j)
last-or j i low = elim (cases_lt j i) as (λ _. (j < i) ⊎ (i ≡ j)) [ inl a ↦ inl a | inr b ↦ inr (omega arith) ]

alike-back : (views : List SweptView) (sets : List ViewSet) (asked : List Asked) (j k : ℕ) → AreAlikeAt views sets asked j k → AreAlikeAt views sets asked k j
alike-back views sets asked j k alike = λ p low a b. sym (alike p low b a)

once-more : (views : List SweptView) (sets : List ViewSet) (asked : List Asked) (i : ℕ)
    → ((j k : ℕ) → j < i → k < i → (nth_asked asked j).wanted.oid ≡ (nth_asked asked k).wanted.oid → AreAlikeAt views sets asked j k)
    → ((j : ℕ) → j < i → (nth_asked asked j).wanted.oid ≡ (nth_asked asked i).wanted.oid → AreAlikeAt views sets asked j i)
    → (j k : ℕ) → (j < i) ⊎ (i ≡ j) → (k < i) ⊎ (i ≡ k) → (nth_asked asked j).wanted.oid ≡ (nth_asked asked k).wanted.oid → AreAlikeAt views sets asked j k
once-more views sets asked i once new j k (inl a) (inl b) e = once j k a b e
once-more views sets asked i once new j k (inl a) (inr b) e = subst (λ (n : ℕ). AreAlikeAt views sets asked j n) b (new j a (e ∙ ap (λ (n : ℕ). (nth_asked asked n).wanted.oid) (sym b)))
once-more views sets asked i once new j k (inr a) (inl b) e = subst (λ (n : ℕ). AreAlikeAt views sets asked n k) a (alike-back views sets asked k i (new k b (sym e ∙ ap (λ (n : ℕ). (nth_asked asked n).wanted.oid) (sym a))))
once-more views sets asked i once new j k (inr a) (inr b) e = λ p low x y. ap (λ (n : ℕ). (nth_asked asked n).wanted.want) (sym a ∙ b)

-- the next is of the same id, and of no view that wants it in another way
pub run-again : (views : List SweptView) (sets : List ViewSet) (asked : List Asked) (seen new : List Run) (from i : ℕ) → IsRun views sets asked seen from i
    → (nth_asked asked i).wanted.oid ≡ (nth_asked asked from).wanted.oid → ((j : ℕ) → from ≤ j → j < i → AreAlikeAt views sets asked j i)
    → AreRising new → ((p : ℕ) → has_place new p ≡ (has_place seen p || has_view sets (nth_asked asked i) p)) → IsRun views sets asked new from (i + 1)
run-again views sets asked seen new from i r here alike rises bits =
    let start : from ≤ i = r.start in
    record {
      start = omega arith;
      rising = rises;
      same = λ j low high. elim (last-or j i high) as (λ _. (nth_asked asked j).wanted.oid ≡ (nth_asked asked from).wanted.oid) [
        | inl a ↦ r.same j low a
        | inr b ↦ ap (λ (n : ℕ). (nth_asked asked n).wanted.oid) (sym b) ∙ here
      ];
      less = r.less;
      known = λ j p low high e. bits p ∙ elim (last-or j i high) as (λ _. (has_place seen p || has_view sets (nth_asked asked i) p) ≡ true) [
        | inl a ↦ left-or (has_place seen p) _ (r.known j p low a e)
        | inr b ↦ right-or (has_place seen p) _ (ap (λ (n : ℕ). has_view sets (nth_asked asked n) p) b ∙ e)
      ];
      once = λ j k low high. once-more views sets asked i r.once (λ n a e. elim (cases_lt n from) as (λ _. AreAlikeAt views sets asked n i) [
        | inl before ↦ let less : (nth_asked asked n).wanted.oid < (nth_asked asked from).wanted.oid = r.less n before in absurd (omega (arith, less, e, here))
        | inr past ↦ alike n past a
      ]) j k (last-or j i low) (last-or k i high);
    }

-- the next is of another id
pub run-next : (views : List SweptView) (sets : List ViewSet) (asked : List Asked) (seen new : List Run) (from i : ℕ) → IsRun views sets asked seen from i → AreById asked → i < length asked
    → ((nth_asked asked i).wanted.oid ≡ (nth_asked asked from).wanted.oid → ⊥) → AreRising new → new ≡ set_at sets (nth_asked asked i).set → IsRun views sets asked new i (i + 1)
run-next views sets asked seen new from i r sorted within other rises bits =
    let above : (nth_asked asked from).wanted.oid ≤ (nth_asked asked i).wanted.oid = sorted from i r.start within in
    let more : (nth_asked asked from).wanted.oid < (nth_asked asked i).wanted.oid = elim (cases_lt (nth_asked asked from).wanted.oid (nth_asked asked i).wanted.oid) as (λ _. (nth_asked asked from).wanted.oid < (nth_asked asked i).wanted.oid) [
      | inl a ↦ a
      | inr b ↦ absurd (other (omega arith))
    ] in
    let less : (j : ℕ) → j < i → (nth_asked asked j).wanted.oid < (nth_asked asked i).wanted.oid = λ j low. elim (cases_lt j from) as (λ _. (nth_asked asked j).wanted.oid < (nth_asked asked i).wanted.oid) [
      | inl before ↦ let a : (nth_asked asked j).wanted.oid < (nth_asked asked from).wanted.oid = r.less j before in omega (arith, a, more)
      | inr past ↦ let a : (nth_asked asked j).wanted.oid ≡ (nth_asked asked from).wanted.oid = r.same j past low in omega (arith, a, more)
    ] in
    record {
      start = omega arith;
      rising = rises;
      same = λ j low high. let e : j ≡ i = omega arith in ap (λ (n : ℕ). (nth_asked asked n).wanted.oid) e;
      less = less;
      known = λ j p low high e. let s : j ≡ i = omega arith in ap (λ (bs : List Run). has_place bs p) bits ∙ (ap (λ (n : ℕ). has_view sets (nth_asked asked n) p) (sym s) ∙ e);
      once = λ j k low high. once-more views sets asked i r.once (λ n a e. let b : (nth_asked asked n).wanted.oid < (nth_asked asked i).wanted.oid = less n a in absurd (omega (arith, b, e))) j k (last-or j i low) (last-or k i high);
    }

-- one place of a view is told by the view
one-place : (views : List SweptView) (p q : ℕ) → IsFirst views (view_of views p) p → IsFirst views (view_of views q) q → view_of views p ≡ view_of views q → p ≡ q
one-place views p q a b e =
    let x : p ≤ q = a.first q b.below (sym e) in
    let y : q ≤ p = b.first p a.below e in
    omega arith

-- at the end no id of a view is wanted in two ways
pub run-all : (views : List SweptView) (sets : List ViewSet) (asked : List Asked) (seen : List Run) (from i : ℕ) → AreSets views sets → AreNumbered (length sets) asked → length asked ≤ i → IsRun views sets asked seen from i → IsOnce (all_asked views sets asked)
run-all views sets asked seen from i proper low end r = λ a b h k v o.
    let x = from-asked views sets asked a h in
    let y = from-asked views sets asked b k in
    let s : IsOfSet views x.0.wanted (set_at sets x.0.set) a = x.1.1 in
    let t : IsOfSet views y.0.wanted (set_at sets y.0.set) b = y.1.1 in
    let j = in-place asked x.0 noasked x.1.0 in
    let n = in-place asked y.0 noasked y.1.0 in
    let j_low : j.0 < length asked = j.1.0 in
    let n_low : n.0 < length asked = n.1.0 in
    let views_are : view_of views s.place ≡ view_of views t.place = sym (ap (λ (w : Wanted). w.view) s.is) ∙ (v ∙ ap (λ (w : Wanted). w.view) t.is) in
    let place : s.place ≡ t.place = one-place views s.place t.place ((proper x.0.set (low x.0 x.1.0)).first s.place s.has) ((proper y.0.set (low y.0 y.1.0)).first t.place t.has) views_are in
    let oids : (nth_asked asked j.0).wanted.oid ≡ (nth_asked asked n.0).wanted.oid =
    ap (λ (z : Asked). z.wanted.oid) (sym j.1.1) ∙ (sym (ap (λ (w : Wanted). w.oid) s.is) ∙ (o ∙ (ap (λ (w : Wanted). w.oid) t.is ∙ ap (λ (z : Asked). z.wanted.oid) n.1.1))) in
    let wants : (nth_asked asked j.0).wanted.want ≡ (nth_asked asked n.0).wanted.want =
    r.once j.0 n.0 (omega arith) (omega arith) oids s.place s.below (ap (λ (z : Asked). has_view sets z s.place) (sym j.1.1) ∙ s.has) (ap (λ (z : Asked). has_view sets z s.place) (sym n.1.1) ∙ (ap (has_view sets y.0) place ∙ t.has)) in
    wanted-is a b v o
    (ap (λ (w : Wanted). w.want) s.is ∙ (ap (λ (z : Asked). z.wanted.want) j.1.1 ∙ (wants ∙ (ap (λ (z : Asked). z.wanted.want) (sym n.1.1) ∙ sym (ap (λ (w : Wanted). w.want) t.is)))))

-- two that clash are wanted of one view under one id
pub twice-here : (views : List SweptView) (sets : List ViewSet) (asked : List Asked) (seen : List Run) (from last p : ℕ) → IsRun views sets asked seen from last → last < length asked → (nth_asked asked last).wanted.oid ≡ (nth_asked asked from).wanted.oid → IsClashAt views sets asked from last p
    → IsTwice (Among (all_asked views sets asked)) (Volume (view_of views p).slot) (nth_asked asked last).wanted.oid (view_of views p).xid
twice-here views sets asked seen from last p r within here c =
    let one : Asked = nth_asked asked last in
    let other : Asked = nth_asked asked c.other in
    let low : c.other < last = c.high in
    record {
      one = of_view one.wanted (view_of views p);
      other = of_view other.wanted (view_of views p);
      one_wanted = in-asked views sets asked one (of_view one.wanted (view_of views p)) (place-in asked last noasked within) (record { place = p; below = c.is.below; has = c.is.one_has; is = refl });
      other_wanted = in-asked views sets asked other (of_view other.wanted (view_of views p)) (place-in asked c.other noasked (omega arith)) (record { place = p; below = c.is.below; has = c.is.other_has; is = refl });
      same_view = refl;
      same_oid = here ∙ sym (r.same c.other c.low c.high);
      apart = λ e. c.is.apart (sym (ap (λ (w : Wanted). w.want) e));
      shown = record { within_is = refl; oid_is = refl; xid_is = refl };
    }
