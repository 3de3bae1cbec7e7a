-- Whether a number stands twice shows in the sorted list.
use Rattle.std.proofs.Common.{◌≡◌, ℕ, zero, suc, ◌+◌, ◌<◌, ◌≤◌, Bool, true, false, not, ◌&&◌, ◌||◌, ◌==◌, List, [], ◌∷◌, length, get_or, refl, ap, sym, subst, ◌∙◌, arith}
use Rattle.std.specs.Prelude.{nat_eq}
use Rattle.std.specs.List.{IsDistinct, AllByRecursion}
use Rattle.std.specs.List.Sorted.{IsPermutation, IsNonDecreasingBy}
use Rattle.std.proofs.lemmas.Grind.{common_steps}
use Rattle.std.proofs.lemmas.Map.Keys.{IsDistinct-IsPermutation}
use Rattle.std.proofs.lemmas.List.Sorted.{IsPermutation-sym}
use Rattle.apfs_model.specs.Lists.{has, is_distinct}
use Rattle.nx_ring.specs.Rising.{Rises, Halts}

absent : (xs : List ℕ) (x : ℕ) → has xs x ≡ false → AllByRecursion (λ y. nat_eq x y ≡ false) xs
absent [] x e = tt
absent (y ∷ ys) x e = (Prim.grind (arith, common_steps, e), absent ys x (Prim.grind (arith, common_steps, e)))

absent_from : (xs : List ℕ) (x : ℕ) → AllByRecursion (λ y. nat_eq x y ≡ false) xs → has xs x ≡ false
absent_from [] x e = refl
absent_from (y ∷ ys) x e = let rest = absent_from ys x e.1 in let here = e.0 in Prim.grind (arith, common_steps, rest, here)

-- a list without a number twice, in the words of std
pub apart : (xs : List ℕ) → is_distinct xs ≡ true → IsDistinct nat_eq xs
unfolding IsDistinct
apart [] e = tt
apart (x ∷ xs) e = (absent xs x (Prim.grind (arith, common_steps, e)), apart xs (Prim.grind (arith, common_steps, e)))

apart_from : (xs : List ℕ) → IsDistinct nat_eq xs → is_distinct xs ≡ true
unfolding IsDistinct
apart_from [] e = refl
apart_from (x ∷ xs) e = let rest = apart_from xs e.1 in let here = absent_from xs x e.0 in Prim.grind (arith, common_steps, rest, here)

flips : (x y : ℕ) → nat_eq x y ≡ nat_eq y x
flips x y = Prim.grind (arith, common_steps)

moved : (xs ys : List ℕ) → IsPermutation xs ys → is_distinct xs ≡ true → is_distinct ys ≡ true
moved xs ys p e = apart_from ys (IsDistinct-IsPermutation nat_eq flips xs ys p (apart xs e))

same : (a b : Bool) → (a ≡ true → b ≡ true) → (b ≡ true → a ≡ true) → a ≡ b
same true b f g = sym (f refl)
same false true f g = g refl
same false false f g = refl

-- a list has a number twice in any order
pub distinct_moved : (xs ys : List ℕ) → IsPermutation xs ys → is_distinct xs ≡ is_distinct ys
distinct_moved xs ys p = same (is_distinct xs) (is_distinct ys) (moved xs ys p) (moved ys xs (IsPermutation-sym xs ys p))

tail_rises : (x : ℕ) (xs : List ℕ) → Rises (x ∷ xs) → Rises xs
tail_rises x xs up = λ k low.
    let next : suc k + 1 ≡ suc (k + 1) = Prim.omega arith in
    subst (λ (j : ℕ). get_or xs k 0 < get_or (x ∷ xs) j 0) next (up (suc k) (Prim.omega (arith, low)))

-- what rises from above a number on doesn't have it
above : (xs : List ℕ) (x y : ℕ) → y ≤ x → Rises (x ∷ xs) → has xs y ≡ false
above [] x y low up = refl
above (z ∷ zs) x y low up =
    let next : x < z = up 0 (Prim.omega arith) in
    let rest : has zs y ≡ false = above zs z y (Prim.omega (arith, next, low)) (tail_rises x (z ∷ zs) up) in
    Prim.grind (arith, common_steps, rest, next, low)

pub rising_distinct : (xs : List ℕ) → Rises xs → is_distinct xs ≡ true
rising_distinct [] up = refl
rising_distinct (x ∷ xs) up =
    let rest = rising_distinct xs (tail_rises x xs up) in
    let no = above xs x x (Prim.omega arith) up in
    Prim.grind (arith, common_steps, rest, no)

-- two neighbours that are one
pub twice : (xs : List ℕ) (k : ℕ) → k + 1 < length xs → get_or xs k 0 ≡ get_or xs (k + 1) 0 → is_distinct xs ≡ false
twice [] k low e = absurd (Prim.omega (arith, low))
twice (x ∷ []) k low e = absurd (Prim.omega (arith, low))
twice (x ∷ y ∷ ys) zero low e = let one : x ≡ y = e in Prim.grind (arith, common_steps, one)
twice (x ∷ y ∷ ys) (suc k) low e =
    let next : suc k + 1 ≡ suc (k + 1) = Prim.omega arith in
    let one : get_or (y ∷ ys) k 0 ≡ get_or (y ∷ ys) (k + 1) 0 = e ∙ ap (λ (j : ℕ). get_or (x ∷ y ∷ ys) j 0) next in
    let rest : is_distinct (y ∷ ys) ≡ false = twice (y ∷ ys) k (Prim.omega (arith, low)) one in
    let first = not (has (y ∷ ys) x) in
    elim first as (λ b. (b && is_distinct (y ∷ ys)) ≡ false) [ true ↦ rest | false ↦ refl ]

-- the sorted list tells
pub sorted_tells : (xs ys : List ℕ) (b : Bool) → IsPermutation xs ys → IsNonDecreasingBy (λ (x : ℕ). x) ys → (b ≡ true → Rises ys) → (b ≡ false → Halts ys) → b ≡ is_distinct xs
sorted_tells xs ys true p order f g = sym (distinct_moved xs ys p ∙ rising_distinct ys (f refl))
sorted_tells xs ys false p order f g =
    let t = g refl in
    let low = t.1.0 in
    let more = order t.0 (t.0 + 1) 0 (Prim.omega arith) low in
    sym (distinct_moved xs ys p ∙ twice ys t.0 low (Prim.omega (arith, more, t.1.1)))
