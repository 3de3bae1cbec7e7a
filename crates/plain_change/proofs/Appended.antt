-- Extents of a stream, one after the other.
use Rattle.std.proofs.Common.{◌≡◌, ℕ, ◌+◌, ◌<◌, ◌≤◌, Bool, true, false, ◌||◌, List, [], ◌∷◌, ◌++◌, length, get_or, take, map, inl, inr, refl, ap, sym, ◌∙◌, subst, arith}
use Rattle.std.specs.Prelude.{not}
use Rattle.std.specs.List.{list_any, list_all}
use Rattle.std.proofs.lemmas.Bool.Decides.{nat_tests}
use Rattle.std.proofs.lemmas.List.{take_more, map-append}
use Rattle.std.proofs.lemmas.List.Folds.{list_any-append}
use Rattle.apfs_model.specs.Lists.{In}
use Rattle.apfs_model.proofs.BoolTests.{left-true, right-true, both-true, not-true, false-not, either-from, equal-from}
use Rattle.apfs_model.proofs.Searches.{in-append}
use Rattle.fs_record.specs.Facts.{Fact, all_for}
use Rattle.fs_record.specs.StreamExtents.{extent_end, overlap, is_extent_even, are_apart, are_extents_ordered}
use Rattle.fs_record.specs.declared.extents.FileExt.{FileExt}
use Rattle.view_rules.specs.Facts.{Facts}
use Rattle.view_rules.specs.Extents.{is_disordered}
use Rattle.rule_changes.specs.Changes.{is_of, has_fact, is_rewritten, IsClearWhere}
use Rattle.rule_changes.proofs.Weaving.{some-in}

abbrev pub what : Fact FileExt → FileExt
what f = f.what

-- none of some extents ends after a place
abbrev pub EndBy : ℕ → List FileExt → Type 0
EndBy place es = (x : FileExt) → In x es → extent_end x ≤ place

behind : (a b : FileExt) → extent_end a ≤ b.logical → overlap a b ≡ false
behind a b h = grind (arith, nat_tests)

over-append : (x e : FileExt) (es : List FileExt) → list_any (overlap x) es ≡ false → overlap x e ≡ false → list_any (overlap x) (es ++ e ∷ []) ≡ false
over-append x e es none here = list_any-append (overlap x) es (e ∷ []) ∙ (λ i. none i || (here i || false))

apart-append : (es : List FileExt) (e : FileExt) → are_apart es ≡ true → EndBy e.logical es → are_apart (es ++ e ∷ []) ≡ true
apart-append [] e apart ends = refl
apart-append (x ∷ es) e apart ends =
    both-true (not (list_any (overlap x) (es ++ e ∷ []))) (are_apart (es ++ e ∷ []))
    (false-not (list_any (overlap x) (es ++ e ∷ [])) (over-append x e es (not-true (list_any (overlap x) es) (left-true (not (list_any (overlap x) es)) (are_apart es) apart)) (behind x e (ends x (inl refl)))))
    (apart-append es e (right-true (not (list_any (overlap x) es)) (are_apart es) apart) (λ y h. ends y (inr h)))

even-append : (test : FileExt → Bool) (es : List FileExt) (e : FileExt) → list_all test es ≡ true → test e ≡ true → list_all test (es ++ e ∷ []) ≡ true
even-append test [] e all here = both-true (test e) true here refl
even-append test (x ∷ es) e all here = both-true (test x) (list_all test (es ++ e ∷ [])) (left-true (test x) (list_all test es) all) (even-append test es e (right-true (test x) (list_all test es) all) here)

ordered-append : (block_size : ℕ) (es : List FileExt) (e : FileExt) → are_extents_ordered block_size es ≡ true → is_extent_even block_size e ≡ true → EndBy e.logical es → are_extents_ordered block_size (es ++ e ∷ []) ≡ true
unfolding are_extents_ordered
ordered-append block_size es e ordered even ends =
    both-true (list_all (is_extent_even block_size) (es ++ e ∷ [])) (are_apart (es ++ e ∷ []))
    (even-append (is_extent_even block_size) es e (left-true (list_all (is_extent_even block_size) es) (are_apart es) ordered) even)
    (apart-append es e (right-true (list_all (is_extent_even block_size) es) (are_apart es) ordered) ends)

next : (run : List (Fact FileExt)) (i : ℕ) (f : Fact FileExt) → i < length run → f ≡ get_or run i f → map what (take (i + 1) run) ≡ map what (take i run) ++ f.what ∷ []
next run i f low is = ap (map what) (take_more run i f low) ∙ (map-append what (take i run) (get_or run i f ∷ []) ∙ ap (λ (g : Fact FileExt). map what (take i run) ++ g.what ∷ []) (sym is))

-- the extents so far, and one more
pub ordered-more : (block_size : ℕ) (run : List (Fact FileExt)) (i end : ℕ) (f : Fact FileExt) → i < length run → f ≡ get_or run i f → are_extents_ordered block_size (map what (take i run)) ≡ true → EndBy end (map what (take i run))
    → is_extent_even block_size f.what ≡ true → end ≤ f.what.logical → are_extents_ordered block_size (map what (take (i + 1) run)) ≡ true
ordered-more block_size run i end f low is ordered ends even after =
    ap (are_extents_ordered block_size) (next run i f low is) ∙ ordered-append block_size (map what (take i run)) f.what ordered even (λ x h. let e : extent_end x ≤ end = ends x h in omega arith)

pub ends-more : (run : List (Fact FileExt)) (i end : ℕ) (f : Fact FileExt) → i < length run → f ≡ get_or run i f → EndBy end (map what (take i run)) → end ≤ f.what.logical → EndBy (extent_end f.what) (map what (take (i + 1) run))
ends-more run i end f low is ends after x h =
    elim (in-append x (map what (take i run)) (f.what ∷ []) (subst (λ (es : List FileExt). In x es) (next run i f low is) h)) as (λ _. extent_end x ≤ extent_end f.what) [
      | inl old ↦ let e : extent_end x ≤ end = ends x old in omega arith
      | inr new ↦ elim new as (λ _. extent_end x ≤ extent_end f.what) [
        | inl same ↦ let e : extent_end x ≡ extent_end f.what = ap extent_end same in omega arith
        | inr none ↦ absurd none
      ]
    ]

-- the streams of which an extent is gone or has come
pub order-clear : (block_size : ℕ) (after gone come : Facts) → ((f : Fact FileExt) → In f gone.extents → are_extents_ordered block_size (all_for f.id after.extents) ≡ true)
    → ((f : Fact FileExt) → In f come.extents → are_extents_ordered block_size (all_for f.id after.extents) ≡ true) → IsClearWhere (is_rewritten gone come) (is_disordered block_size after) after.extents
unfolding is_disordered
order-clear block_size after gone come old new x listed touched =
    let ordered : are_extents_ordered block_size (all_for x.id after.extents) ≡ true =
    elim (either-from (has_fact x.id gone.extents) (has_fact x.id come.extents) touched) as (λ _. are_extents_ordered block_size (all_for x.id after.extents) ≡ true) [
      | inl some ↦ let t = some-in (is_of x.id) gone.extents some in subst (λ id. are_extents_ordered block_size (all_for id after.extents) ≡ true) (equal-from t.0.id x.id t.1.1) (old t.0 t.1.0)
      | inr some ↦ let t = some-in (is_of x.id) come.extents some in subst (λ id. are_extents_ordered block_size (all_for id after.extents) ≡ true) (equal-from t.0.id x.id t.1.1) (new t.0 t.1.0)
    ] in
    ap not ordered
