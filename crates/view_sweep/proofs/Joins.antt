-- One more that is sought.
use Rattle.std.proofs.Common.{◌≡◌, ℕ, true, ◌||◌, List, [], ◌∷◌, ◌++◌, ◌⊎◌, inl, inr, refl, ap, sym, ◌∙◌, subst}
use Rattle.apfs_model.specs.Lists.{In}
use Rattle.apfs_model.proofs.Searches.{in-left, in-right}
use Rattle.apfs_model.proofs.BoolTests.{left-or, right-or, either-from}
use Rattle.view_sweep.specs.declared.runs.Run.{Run}
use Rattle.view_sweep.specs.declared.sets.ViewSet.{ViewSet}
use Rattle.view_sweep.specs.declared.joining.Sought.{Sought}
use Rattle.view_sweep.specs.declared.wanted.SweptView.{SweptView}
use Rattle.view_sweep.specs.declared.wanted.Wanted.{Wanted}
use Rattle.view_sweep.specs.declared.wanted.Asked.{Asked}
use Rattle.view_sweep.specs.Runs.{has_place, AreRising}
use Rattle.view_sweep.specs.Wanted.{number_by}
use Rattle.view_sweep.specs.Sets.{set_at, view_of, IsFirst, IsSetOf}
use Rattle.view_sweep.specs.Asked.{has_view, IsUnder, HasAsked, HasSought, IsJoined, AreSought, AreOfSets}
use Rattle.view_sweep.proofs.Ranked.{in-push, every-push}

-- a new one
pub joined-new : (w : Wanted) (set : List Run) (old new : List Sought) (s : Sought) → new ≡ old ++ s ∷ [] → s.wanted ≡ w → s.set.items ≡ set → IsJoined w set old new
joined-new w set old new s e same bits = record {
  kept = λ oid number p h. record { one = h.one; listed = subst (In h.one) (sym e) (in-left h.one old (s ∷ []) h.listed); under = h.under; has = h.has };
  more = λ p h. record { one = s; listed = subst (In s) (sym e) (in-right s old (s ∷ []) (inl refl)); under = record { oid_is = ap (λ (x : Wanted). x.oid) same; number_is = ap (λ (x : Wanted). number_by x.want) same }; has = ap (λ (bs : List Run). has_place bs p) bits ∙ h };
  only = λ oid number p h. elim (in-push h.one old s (subst (In h.one) e h.listed)) as (λ _. HasSought old oid number p ⊎ (IsUnder w oid number × (has_place set p ≡ true))) [
    | inl i ↦ inl (record { one = h.one; listed = i; under = h.under; has = h.has })
    | inr q ↦ inr (
      record { oid_is = sym (ap (λ (x : Wanted). x.oid) same) ∙ (sym (ap (λ (x : Sought). x.wanted.oid) q) ∙ h.under.oid_is); number_is = sym (ap (λ (x : Wanted). number_by x.want) same) ∙ (sym (ap (λ (x : Sought). number_by x.wanted.want) q) ∙ h.under.number_is) },
      sym (ap (λ (bs : List Run). has_place bs p) bits) ∙ (sym (ap (λ (x : Sought). has_place x.set.items p) q) ∙ h.has),
    )
  ];
}

-- the last one has more views
pub joined-last : (w : Wanted) (set : List Run) (front old new : List Sought) (last more : Sought) → old ≡ front ++ last ∷ [] → new ≡ front ++ more ∷ [] → more.wanted ≡ last.wanted → IsUnder last.wanted w.oid (number_by w.want) → ((p : ℕ) → has_place more.set.items p ≡ (has_place last.set.items p || has_place set p)) → IsJoined w set old new
joined-last w set front old new last more e f same under bits =
    let whole : (oid number : ℕ) → IsUnder last.wanted oid number → IsUnder more.wanted oid number = λ oid number u. record { oid_is = ap (λ (x : Wanted). x.oid) same ∙ u.oid_is; number_is = ap (λ (x : Wanted). number_by x.want) same ∙ u.number_is } in
    let here : In more new = subst (In more) (sym f) (in-right more front (more ∷ []) (inl refl)) in
    record {
      kept = λ oid number p h. elim (in-push h.one front last (subst (In h.one) e h.listed)) as (λ _. HasSought new oid number p) [
        | inl i ↦ record { one = h.one; listed = subst (In h.one) (sym f) (in-left h.one front (more ∷ []) i); under = h.under; has = h.has }
        | inr q ↦ record {
          one = more;
          listed = here;
          under = whole oid number (record { oid_is = sym (ap (λ (x : Sought). x.wanted.oid) q) ∙ h.under.oid_is; number_is = sym (ap (λ (x : Sought). number_by x.wanted.want) q) ∙ h.under.number_is });
          has = bits p ∙ left-or (has_place last.set.items p) (has_place set p) (sym (ap (λ (x : Sought). has_place x.set.items p) q) ∙ h.has);
        }
      ];
      more = λ p h. record { one = more; listed = here; under = whole w.oid (number_by w.want) under; has = bits p ∙ right-or (has_place last.set.items p) (has_place set p) h };
      only = λ oid number p h. elim (in-push h.one front more (subst (In h.one) f h.listed)) as (λ _. HasSought old oid number p ⊎ (IsUnder w oid number × (has_place set p ≡ true))) [
        | inl i ↦ inl (record { one = h.one; listed = subst (In h.one) (sym e) (in-left h.one front (last ∷ []) i); under = h.under; has = h.has })
        | inr q ↦
            let u : IsUnder last.wanted oid number = record { oid_is = sym (ap (λ (x : Wanted). x.oid) same) ∙ (sym (ap (λ (x : Sought). x.wanted.oid) q) ∙ h.under.oid_is); number_is = sym (ap (λ (x : Wanted). number_by x.want) same) ∙ (sym (ap (λ (x : Sought). number_by x.wanted.want) q) ∙ h.under.number_is) } in
            elim (either-from (has_place last.set.items p) (has_place set p) (sym (bits p) ∙ (sym (ap (λ (x : Sought). has_place x.set.items p) q) ∙ h.has))) as (λ _. HasSought old oid number p ⊎ (IsUnder w oid number × (has_place set p ≡ true))) [
              | inl a ↦ inl (record { one = last; listed = subst (In last) (sym e) (in-right last front (last ∷ []) (inl refl)); under = u; has = a })
              | inr b ↦ inr (record { oid_is = sym under.oid_is ∙ u.oid_is; number_is = sym under.number_is ∙ u.number_is }, b)
            ]
      ];
    }

-- the sets are of the views
pub sets-new : (views : List SweptView) (set : List Run) (old new : List Sought) (s : Sought) → new ≡ old ++ s ∷ [] → s.set.items ≡ set → AreOfSets views old → IsSetOf views set → AreOfSets views new
sets-new views set old new s e bits all is = every-push (λ (x : Sought). IsSetOf views x.set.items) old new s e all (subst (IsSetOf views) (sym bits) is)

set-or : (views : List SweptView) (a b new : List Run) → IsSetOf views a → IsSetOf views b → AreRising new → ((p : ℕ) → has_place new p ≡ (has_place a p || has_place b p)) → IsSetOf views new
set-or views a b new x y rises bits = record {
  rising = rises;
  first = λ p e. elim (either-from (has_place a p) (has_place b p) (sym (bits p) ∙ e)) as (λ _. IsFirst views (view_of views p) p) [ inl f ↦ x.first p f | inr f ↦ y.first p f ];
}

pub sets-last : (views : List SweptView) (set : List Run) (front old new : List Sought) (last more : Sought) → old ≡ front ++ last ∷ [] → new ≡ front ++ more ∷ [] → AreRising more.set.items → ((p : ℕ) → has_place more.set.items p ≡ (has_place last.set.items p || has_place set p)) → AreOfSets views old → IsSetOf views set → AreOfSets views new
sets-last views set front old new last more e f rises bits all is =
    let at : (s : Sought) → In s (front ++ last ∷ []) → IsSetOf views s.set.items = λ s h. all s (subst (In s) (sym e) h) in
    every-push (λ (x : Sought). IsSetOf views x.set.items) front new more f (λ s h. at s (in-left s front (last ∷ []) h))
    (set-or views last.set.items set more.set.items (at last (in-right last front (last ∷ []) (inl refl))) is rises bits)

-- ---- what is asked is sought

pub sought-more : (sets : List ViewSet) (asked longer : List Asked) (a : Asked) (set : List Run) (old new : List Sought) → longer ≡ asked ++ a ∷ [] → set ≡ set_at sets a.set → AreSought sets asked old → IsJoined a.wanted set old new → AreSought sets longer new
sought-more sets asked longer a set old new e bits so j = record {
  each = λ oid number p h. elim (in-push h.one asked a (subst (In h.one) e h.listed)) as (λ _. HasSought new oid number p) [
    | inl i ↦ j.kept oid number p (so.each oid number p (record { one = h.one; listed = i; under = h.under; has = h.has }))
    | inr q ↦
        let s = j.more p (ap (λ (bs : List Run). has_place bs p) bits ∙ (sym (ap (λ (x : Asked). has_view sets x p) q) ∙ h.has)) in
        record {
          one = s.one;
          listed = s.listed;
          under = record { oid_is = s.under.oid_is ∙ (sym (ap (λ (x : Asked). x.wanted.oid) q) ∙ h.under.oid_is); number_is = s.under.number_is ∙ (sym (ap (λ (x : Asked). number_by x.wanted.want) q) ∙ h.under.number_is) };
          has = s.has;
        }
  ];
  only = λ oid number p h. elim (j.only oid number p h) as (λ _. HasAsked sets longer oid number p) [
    | inl i ↦ let t = so.only oid number p i in record { one = t.one; listed = subst (In t.one) (sym e) (in-left t.one asked (a ∷ []) t.listed); under = t.under; has = t.has }
    | inr q ↦ record { one = a; listed = subst (In a) (sym e) (in-right a asked (a ∷ []) (inl refl)); under = q.0; has = sym (ap (λ (bs : List Run). has_place bs p) bits) ∙ q.1 }
  ];
}
