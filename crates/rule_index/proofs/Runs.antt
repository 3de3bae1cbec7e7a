-- The items of an id in a list that is in the order of its ids.
use Rattle.std.proofs.Common.{◌≡◌, ℕ, zero, suc, ◌-◌, ◌<◌, ◌≤◌, Bool, true, false, cond, ◌&&◌, ◌||◌, ◌==◌, List, [], ◌∷◌, length, get_or, take, drop, Some, inl, inr, refl, ap, sym, ◌∙◌, arith}
use Rattle.std.specs.Prelude.{nat_lt, nat_le, filter, slice_get}
use Rattle.std.specs.List.{find, list_any}
use Rattle.std.specs.List.Sorted.{IsPartitionPoint}
use Rattle.std.proofs.lemmas.Bool.Decides.{nat_tests}
use Rattle.apfs_model.proofs.BoolTests.{test_or}

-- one that fails isn't kept
pub filter-no : {X : Type 0} (p : X → Bool) (x : X) (xs : List X) → p x ≡ false → filter p (x ∷ xs) ≡ filter p xs
filter-no p x xs e = ap (λ b. cond b (x ∷ filter p xs) (filter p xs)) e

-- one that passes is
pub filter-yes : {X : Type 0} (p : X → Bool) (x : X) (xs : List X) → p x ≡ true → filter p (x ∷ xs) ≡ x ∷ filter p xs
filter-yes p x xs e = ap (λ b. cond b (x ∷ filter p xs) (filter p xs)) e

none-kept : {X : Type 0} (p : X → Bool) (xs : List X) → ((k : ℕ) (d : X) → k < length xs → p (get_or xs k d) ≡ false) → filter p xs ≡ []
none-kept p [] fails = refl
none-kept p (x ∷ xs) fails = filter-no p x xs (fails 0 x (omega arith)) ∙ none-kept p xs (λ k d low. fails (suc k) d (omega arith))

above-other : (n q : ℕ) → nat_le n q ≡ false → (n == q) ≡ false
above-other n q e = grind (arith, nat_tests)

below-other : (n q : ℕ) → nat_lt n q ≡ true → (n == q) ≡ false
below-other n q e = grind (arith, nat_tests)

between-same : (n q : ℕ) → nat_lt n q ≡ false → nat_le n q ≡ true → (n == q) ≡ true
between-same n q e f = grind (arith, nat_tests)

both-ways : (n q : ℕ) → nat_lt n q ≡ true → nat_le n q ≡ false → ⊥
both-ways n q e f = grind (arith, nat_tests)

-- those of a number stand between those below it and those above it
pub run-is : {X : Type 0} (n : X → ℕ) (xs : List X) (q from to : ℕ) → from ≤ length xs → to ≤ length xs
    → IsPartitionPoint (λ x. nat_lt (n x) q ≡ true) (λ x. nat_lt (n x) q ≡ false) xs from → IsPartitionPoint (λ x. nat_le (n x) q ≡ true) (λ x. nat_le (n x) q ≡ false) xs to
    → take (to - from) (drop from xs) ≡ filter (λ x. n x == q) xs
run-is n [] q zero to low high first last = let e : to - 0 ≡ 0 = omega arith in ap (λ k. take k []) e
run-is n [] q (suc from) to low high first last = absurd (omega arith)
run-is n (x ∷ xs) q zero zero low high first last =
    sym (none-kept (λ y. n y == q) (x ∷ xs) (λ k d inside. above-other (n (get_or (x ∷ xs) k d)) q (last.1 k d (omega arith) inside)))
run-is n (x ∷ xs) q zero (suc to) low high first last =
    let rest : take (to - 0) (drop 0 xs) ≡ filter (λ y. n y == q) xs = run-is n xs q 0 to (omega arith) (omega arith) ((λ k d a b. absurd (omega arith)), (λ k d a b. first.1 (suc k) d (omega arith) (omega arith))) ((λ k d a b. last.0 (suc k) d (omega arith) (omega arith)), (λ k d a b. last.1 (suc k) d (omega arith) (omega arith))) in
    let here : (n x == q) ≡ true = between-same (n x) q (first.1 0 x (omega arith) (omega arith)) (last.0 0 x (omega arith) (omega arith)) in
    let e : suc to - 0 ≡ suc (to - 0) = omega arith in
    ap (λ k. take k (x ∷ xs)) e ∙ (ap (λ ys. x ∷ ys) rest ∙ sym (filter-yes (λ y. n y == q) x xs here))
run-is n (x ∷ xs) q (suc from) zero low high first last = absurd (both-ways (n x) q (first.0 0 x (omega arith) (omega arith)) (last.1 0 x (omega arith) (omega arith)))
run-is n (x ∷ xs) q (suc from) (suc to) low high first last =
    let rest : take (to - from) (drop from xs) ≡ filter (λ y. n y == q) xs = run-is n xs q from to (omega arith) (omega arith) ((λ k d a b. first.0 (suc k) d (omega arith) (omega arith)), (λ k d a b. first.1 (suc k) d (omega arith) (omega arith))) ((λ k d a b. last.0 (suc k) d (omega arith) (omega arith)), (λ k d a b. last.1 (suc k) d (omega arith) (omega arith))) in
    let less : (n x == q) ≡ false = below-other (n x) q (first.0 0 x (omega arith) (omega arith)) in
    let e : suc to - suc from ≡ to - from = omega arith in
    ap (λ k. take k (drop from xs)) e ∙ (rest ∙ sym (filter-no (λ y. n y == q) x xs less))

-- the first one that is kept is the one that is found
pub first-kept : {X : Type 0} (p : X → Bool) (xs : List X) → slice_get (filter p xs) 0 ≡ find p xs
first-kept p [] = refl
first-kept {X} p (x ∷ xs) = go (p x) (first-kept p xs)
  where
    go : (b : Bool) → slice_get (filter p xs) 0 ≡ find p xs → slice_get (cond b (x ∷ filter p xs) (filter p xs)) 0 ≡ cond b (Some x) (find p xs)
    go true e = refl
    go false e = e

-- some of those that are kept passes where some of all is kept and passes
pub any-filtered : {X : Type 0} (p q : X → Bool) (xs : List X) → list_any p (filter q xs) ≡ list_any (λ x. q x && p x) xs
any-filtered p q [] = refl
any-filtered {X} p q (x ∷ xs) = elim (test_or (q x)) as (λ _. list_any p (filter q (x ∷ xs)) ≡ list_any (λ y. q y && p y) (x ∷ xs)) [
  | inl good ↦ ap (list_any p) (filter-yes q x xs good) ∙ (ap (λ b. p x || b) (any-filtered p q xs) ∙ sym (ap (λ b. (b && p x) || list_any (λ y. q y && p y) xs) good))
  | inr bad ↦ ap (list_any p) (filter-no q x xs bad) ∙ (any-filtered p q xs ∙ sym (ap (λ b. (b && p x) || list_any (λ y. q y && p y) xs) bad))
]
