-- Tests and items of a range.
use Rattle.std.specs.Prelude.{◌≡◌, ℕ, zero, suc, ◌+◌, ◌<◌, Bool, true, map, Some, slice_get}
use Rattle.std.specs.List.{range_with_len, list_all}
use Rattle.std.proofs.Common.{arith, ap, sym, ◌∙◌, inl, inr, refl}
use Rattle.std.proofs.lemmas.Bool.{cases_Bool, false≢true}
use Rattle.std.proofs.lemmas.Grind.{common_steps}
use Rattle.std.proofs.lemmas.List.FromFn.{get_or-map-range_with_len, length-map-range_with_len}
use Rattle.std.proofs.lemmas.Option.{slice_get_read}
use Rattle.apfs_model.proofs.Ranges.{all_more, all_fails}

-- where each number of a range passes, one of them does
pub one_passes : (p : ℕ → Bool) (n i : ℕ) → list_all p (range_with_len 0 n) ≡ true → i < n → p i ≡ true
one_passes p n i all low =
    elim (cases_Bool (p i)) [
      | inl passed ↦ passed
      | inr failed ↦ absurd (false≢true (sym (all_fails p n i low failed) ∙ all))
    ]

-- where each number below passes, the range does
pub all_pass : (p : ℕ → Bool) (n : ℕ) → ((i : ℕ) → i < n → p i ≡ true) → list_all p (range_with_len 0 n) ≡ true
all_pass p zero each = refl
all_pass p (suc n) each =
    let e : suc n ≡ n + 1 = Prim.omega arith in
    let front : list_all p (range_with_len 0 n) ≡ true = all_pass p n (λ i low. each i (Prim.omega arith)) in
    let last : p n ≡ true = each n (Prim.omega arith) in
    ap (λ m. list_all p (range_with_len 0 m)) e ∙ all_more p n ∙ Prim.grind (arith, common_steps, front, last)

-- an item of a list that a range gives
pub item_listed : {X : Type 0} (f : ℕ → X) (n i : ℕ) → i < n → slice_get (map f (range_with_len 0 n)) i ≡ Some (f i)
item_listed f n i low = slice_get_read (map f (range_with_len 0 n)) n i (f i) (sym (length-map-range_with_len f 0 n)) low (sym (get_or-map-range_with_len f 0 n i i (f i) low (Prim.omega arith)))
