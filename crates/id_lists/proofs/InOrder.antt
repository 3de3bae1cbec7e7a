-- Searches in lists that are in order.
use Rattle.std.proofs.Common.{◌≡◌, ℕ, zero, suc, ◌+◌, ◌<◌, ◌≤◌, Bool, true, false, cond, List, [], ◌∷◌, length, get_or, set, Some, None, Result, Ok, Err, refl, ap, sym, ◌∙◌, inl, inr, arith}
use Rattle.std.specs.Prelude.{◌-◌, count_by, find, slice_get, ◌==◌, nat_lt, nat_le, is_ok, MatchResult, filter, not, ◌&&◌, option_map}
use Rattle.std.specs.List.{position_or_len, AllPairs, AllAdjacentBelow, position}
use Rattle.std.specs.List.Sorted.{IsNonDecreasing, IsNonDecreasingBy, IsPartitionPoint, IsStableByKey, ties}
use Rattle.std.specs.Ordering.{nat_cmp, is_lt}
use Rattle.std.proofs.lemmas.Bool.{cases_eq, cases_lt, ltb-true, ltb-false}
use Rattle.std.proofs.lemmas.Bool.Decides.{nat_tests}
use Rattle.std.proofs.lemmas.List.{get_or-set_same, get_or-set_other, get_or_default, length-set}
use Rattle.std.proofs.lemmas.List.Sums.{sum_by-cons, position_or_len_is, prefix_len-le-length}
use Rattle.std.proofs.lemmas.List.Quantifiers.{position-Some}
use Rattle.std.proofs.lemmas.List.Sorted.{IsNonDecreasingBy-from_all_adjacent}
use Rattle.std.proofs.lemmas.List.Folds.{find_at}
use Rattle.std.proofs.lemmas.List.Kept.{AllPairs-from_increasing}
use Rattle.apfs_model.proofs.BoolTests.{never-true, equal-from, from-equal, below-from, from-below}

one-more : {X : Type 0} (p : X → Bool) (x : X) (xs : List X) → count_by p (x ∷ xs) ≡ cond (p x) 1 0 + count_by p xs
one-more p x xs = sum_by-cons (λ y. cond (p y) 1 0) x xs

-- those that pass stand first, so they are counted by where they end
pub point-count : {X : Type 0} (p : X → Bool) (xs : List X) (i : ℕ) → i ≤ length xs → IsPartitionPoint (λ x. p x ≡ true) (λ x. p x ≡ false) xs i → count_by p xs ≡ i
point-count p [] i low point = omega arith
point-count p (x ∷ xs) zero low point =
    let fails : p x ≡ false = point.1 0 x (omega arith) (omega arith) in
    let rest : count_by p xs ≡ 0 = point-count p xs zero (omega arith) ((λ k d a b. absurd (omega arith)), (λ k d a b. point.1 (suc k) d (omega arith) (omega arith))) in
    one-more p x xs ∙ (λ j. cond (fails j) 1 0 + rest j)
point-count p (x ∷ xs) (suc i) low point =
    let passes : p x ≡ true = point.0 0 x (omega arith) (omega arith) in
    let rest : count_by p xs ≡ i = point-count p xs i (omega arith) ((λ k d a b. point.0 (suc k) d (omega arith) (omega arith)), (λ k d a b. point.1 (suc k) d (omega arith) (omega arith))) in
    let both : count_by p (x ∷ xs) ≡ 1 + i = one-more p x xs ∙ (λ j. cond (passes j) 1 0 + rest j) in
    omega arith

-- none is counted where none passes
pub none-count : {X : Type 0} (p : X → Bool) (xs : List X) → ((k : ℕ) (d : X) → k < length xs → p (get_or xs k d) ≡ false) → count_by p xs ≡ 0
none-count p xs fails = point-count p xs 0 (omega arith) ((λ k d a b. absurd (omega arith)), (λ k d a b. fails k d b))

-- one that passes is counted
pub some-count : {X : Type 0} (p : X → Bool) (xs : List X) (k : ℕ) (d : X) → k < length xs → p (get_or xs k d) ≡ true → 0 < count_by p xs
some-count p [] k d low passes = absurd (omega arith)
some-count p (x ∷ xs) zero d low passes =
    let both : count_by p (x ∷ xs) ≡ 1 + count_by p xs = one-more p x xs ∙ ap (λ b. cond b 1 0 + count_by p xs) passes in
    omega arith
some-count p (x ∷ xs) (suc k) d low passes =
    let rest : 0 < count_by p xs = some-count p xs k d (omega arith) passes in
    let both = one-more p x xs in
    omega arith

-- two neighbours that pass are counted
pub two-count : {X : Type 0} (p : X → Bool) (xs : List X) (k : ℕ) (d : X) → suc k < length xs → p (get_or xs k d) ≡ true → p (get_or xs (suc k) d) ≡ true → 1 < count_by p xs
two-count p [] k d low first second = absurd (omega arith)
two-count p (x ∷ xs) zero d low first second =
    let rest : 0 < count_by p xs = some-count p xs 0 d (omega arith) second in
    let both : count_by p (x ∷ xs) ≡ 1 + count_by p xs = one-more p x xs ∙ ap (λ b. cond b 1 0 + count_by p xs) first in
    omega arith
two-count p (x ∷ xs) (suc k) d low first second =
    let rest : 1 < count_by p xs = two-count p xs k d (omega arith) first second in
    let both = one-more p x xs in
    omega arith

-- a number that stands next to itself is counted twice
pub repeated-count : (xs : List ℕ) (i : ℕ) → 1 ≤ i → i < length xs → get_or xs (i - 1) 0 ≡ get_or xs i 0 → 1 < count_by (λ n. n == get_or xs i 0) xs
repeated-count xs zero above low same = absurd (omega arith)
repeated-count xs (suc k) above low same =
    let before : get_or xs k 0 ≡ get_or xs (suc k) 0 = ap (λ j. get_or xs j 0) (sub-one k) ∙ same in
    two-count (λ n. n == get_or xs (suc k) 0) xs k 0 low (from-equal (get_or xs k 0) (get_or xs (suc k) 0) before) (from-equal (get_or xs (suc k) 0) (get_or xs (suc k) 0) refl)
  where
    sub-one : (k : ℕ) → k ≡ suc k - 1
    sub-one k = omega arith

-- those that pass one of two tests, of which none passes both
pub both-count : {X : Type 0} (p r s : X → Bool) → ((x : X) → cond (s x) 1 0 ≡ cond (p x) 1 0 + cond (r x) 1 0) → (xs : List X) → count_by s xs ≡ count_by p xs + count_by r xs
both-count p r s each [] = refl
both-count p r s each (x ∷ xs) =
    let a = one-more p x xs in
    let b = one-more r x xs in
    let c = one-more s x xs in
    let here = each x in
    let rest = both-count p r s each xs in
    omega arith

up-to-test : (n q : ℕ) → cond (nat_le n q) 1 0 ≡ cond (nat_lt n q) 1 0 + cond (n == q) 1 0
up-to-test n q = grind (arith, nat_tests)

-- those of a number stand between those below it and those above it
pub between-count : {X : Type 0} (n : X → ℕ) (xs : List X) (q from to : ℕ) → from ≤ length xs → to ≤ length xs
    → IsPartitionPoint (λ x. nat_lt (n x) q ≡ true) (λ x. nat_lt (n x) q ≡ false) xs from → IsPartitionPoint (λ x. nat_le (n x) q ≡ true) (λ x. nat_le (n x) q ≡ false) xs to
    → to ≡ from + count_by (λ x. n x == q) xs
between-count n xs q from to low high first last =
    let a = point-count (λ x. nat_lt (n x) q) xs from low first in
    let b = point-count (λ x. nat_le (n x) q) xs to high last in
    let c = both-count (λ x. nat_lt (n x) q) (λ x. n x == q) (λ x. nat_le (n x) q) (λ x. up-to-test (n x) q) xs in
    omega arith

-- what a search among numbers in order answers
pub among-count : (xs : List ℕ) (q : ℕ) (r : Result ℕ ℕ) → MatchResult r (λ i. (i < length xs) × (get_or xs i 0 ≡ q)) (λ i. (i ≤ length xs) × ((k : ℕ) → k < i → get_or xs k 0 < q) × ((k : ℕ) → i ≤ k → k < length xs → q < get_or xs k 0)) → is_ok r ≡ nat_lt 0 (count_by (λ n. n == q) xs)
among-count xs q (Ok i) found =
    let some : 0 < count_by (λ n. n == q) xs = some-count (λ n. n == q) xs i 0 found.0 (from-equal (get_or xs i 0) q found.1) in
    grind (arith, nat_tests)
among-count xs q (Err i) found =
    let none : count_by (λ n. n == q) xs ≡ 0 = none-count (λ n. n == q) xs (λ k d low.
    let same = get_or_default xs k d 0 low in
    never-true (get_or xs k d == q) (λ e.
    let is = equal-from (get_or xs k d) q e in
    elim (cases_lt k i) as (λ _. ⊥) [
      | inl before ↦ let less = found.1 k before in omega arith
      | inr after ↦ let more = found.2 k after low in omega arith
    ])) in
    sym (ap (nat_lt 0) none)

-- where neighbours differ no number is counted twice
few-above : (q : ℕ) (xs : List ℕ) → AllPairs (λ x y. x < y) xs → count_by (λ n. n == q) xs ≤ 1
few-above q [] up = omega arith
few-above q (x ∷ xs) up =
    let both = one-more (λ n. n == q) x xs in
    let go : (b : Bool) → (x == q) ≡ b → cond b 1 0 + count_by (λ n. n == q) xs ≤ 1 =
    λ b. elim b as (λ b. (x == q) ≡ b → cond b 1 0 + count_by (λ n. n == q) xs ≤ 1) [
      | true ↦ λ e.
          let is = equal-from x q e in
          let none : count_by (λ n. n == q) xs ≡ 0 = none-count (λ n. n == q) xs (λ k d low.
          let above : x < get_or xs k d = up 0 (suc k) d (omega arith) (omega arith) in
          never-true (get_or xs k d == q) (λ f. let other = equal-from (get_or xs k d) q f in omega arith)) in
          omega arith
      | false ↦ λ e. let rest = few-above q xs (λ i j d a b. up (suc i) (suc j) d (omega arith) (omega arith)) in omega arith
    ] in
    let here = go (x == q) refl in
    omega arith

pub distinct-count : (xs : List ℕ) → IsNonDecreasing xs → ((k : ℕ) → k + 1 < length xs → get_or xs k 0 ≡ get_or xs (k + 1) 0 → ⊥) → (q : ℕ) → count_by (λ n. n == q) xs ≤ 1
distinct-count xs up apart q = few-above q xs (AllPairs-from_increasing xs (λ k low. let le = up k (k + 1) 0 (omega arith) low in let ne = apart k low in omega arith))

pub get-past : {X : Type 0} (xs : List X) → slice_get xs (length xs) ≡ None
get-past [] = refl
get-past (x ∷ xs) = get-past xs

pub get-at : {X : Type 0} (xs : List X) (i : ℕ) (d : X) → i < length xs → slice_get xs i ≡ Some (get_or xs i d)
get-at [] i d low = absurd (omega arith)
get-at (x ∷ xs) zero d low = refl
get-at (x ∷ xs) (suc i) d low = get-at xs i d (omega arith)

-- the first of a number stands after those below it, where it is there
first-place : {X : Type 0} (n : X → ℕ) (xs : List X) (q i : ℕ) (d : X) → i < length xs → IsPartitionPoint (λ x. nat_lt (n x) q ≡ true) (λ x. nat_lt (n x) q ≡ false) xs i → n (get_or xs i d) ≡ q → position_or_len (λ x. n x == q) xs ≡ i
first-place {X} n xs q i d low point same =
    let p : X → Bool = λ x. n x == q in
    position_or_len_is p xs i d (omega arith)
    (λ k less. never-true (p (get_or xs k d)) (λ h. let e = equal-from (n (get_or xs k d)) q h in let b = ltb-true (n (get_or xs k d)) q (point.0 k d (omega arith) less) in omega arith))
    (λ _. from-equal (n (get_or xs i d)) q same)

-- it isn't there
no-place : {X : Type 0} (n : X → ℕ) (xs : List X) (q i : ℕ) (d : X) → i ≤ length xs → IsNonDecreasingBy n xs → IsPartitionPoint (λ x. nat_lt (n x) q ≡ true) (λ x. nat_lt (n x) q ≡ false) xs i → (i < length xs → n (get_or xs i d) ≡ q → ⊥) → position_or_len (λ x. n x == q) xs ≡ length xs
no-place {X} n xs q i d low up point other =
    let p : X → Bool = λ x. n x == q in
    let differs : (k : ℕ) → k < length xs → n (get_or xs k d) ≡ q → ⊥ = λ k less e. elim (cases_lt k i) as (λ _. ⊥) [
      | inl before ↦ let b = ltb-true (n (get_or xs k d)) q (point.0 k d (omega arith) before) in omega arith
      | inr after ↦
          let a = up i k d after less in
          let b = ltb-false (n (get_or xs i d)) q (point.1 i d (omega arith) (omega arith)) in
          other (omega arith) (omega arith)
    ] in
    position_or_len_is p xs (length xs) d (omega arith)
    (λ k less. never-true (p (get_or xs k d)) (λ h. differs k less (equal-from (n (get_or xs k d)) q h)))
    (λ less. absurd (omega arith))

-- the place of the first of a number
pub position-is : {X : Type 0} (n : X → ℕ) (xs : List X) (q i : ℕ) (d : X) → i < length xs → IsPartitionPoint (λ x. nat_lt (n x) q ≡ true) (λ x. nat_lt (n x) q ≡ false) xs i → n (get_or xs i d) ≡ q → position (λ x. n x == q) xs ≡ Some i
position-is n xs q i d low point same =
    let e : position_or_len (λ x. n x == q) xs ≡ i = first-place n xs q i d low point same in
    (λ j. cond (nat_lt (e j) (length xs)) (Some (e j)) None) ∙ ap (λ b. cond b (Some i) None) (from-below i (length xs) low)

pub position-none : {X : Type 0} (n : X → ℕ) (xs : List X) (q i : ℕ) (d : X) → i ≤ length xs → IsNonDecreasingBy n xs → IsPartitionPoint (λ x. nat_lt (n x) q ≡ true) (λ x. nat_lt (n x) q ≡ false) xs i → (i < length xs → n (get_or xs i d) ≡ q → ⊥) → position (λ x. n x == q) xs ≡ None
position-none n xs q i d low up point other =
    let e : position_or_len (λ x. n x == q) xs ≡ length xs = no-place n xs q i d low up point other in
    (λ j. cond (nat_lt (e j) (length xs)) (Some (e j)) None) ∙ ap (λ b. cond b (Some (length xs)) None) (never-true (nat_lt (length xs) (length xs)) (λ h. let b = below-from (length xs) (length xs) h in omega arith))

find-filter : {X : Type 0} (p : X → Bool) (xs : List X) → find p xs ≡ find p (filter p xs)
find-filter p [] = refl
find-filter {X} p (x ∷ xs) =
    let go : (b : Bool) → p x ≡ b → cond b (Some x) (find p xs) ≡ find p (cond b (x ∷ filter p xs) (filter p xs)) =
    λ b. elim b as (λ b. p x ≡ b → cond b (Some x) (find p xs) ≡ find p (cond b (x ∷ filter p xs) (filter p xs))) [ true ↦ λ e. sym (ap (λ b. cond b (Some x) (find p (filter p xs))) e) | false ↦ λ e. find-filter p xs ] in
    go (p x) refl

-- two lists with the same of each number have the same first
same-first : {X : Type 0} (p r : X → Bool) → ((x : X) → r x ≡ p x) → (xs ys : List X) → filter r ys ≡ filter r xs → find p ys ≡ find p xs
same-first p r same xs ys kept =
    find-filter p ys ∙ (ap (find p) ((λ i. filter (λ x. sym (same x) i) ys)) ∙ (ap (find p) (kept ∙ (λ i. filter (λ x. same x i) xs)) ∙ sym (find-filter p xs)))

tied-by : (a b : ℕ) → (not (is_lt (nat_cmp a b)) && not (is_lt (nat_cmp b a))) ≡ (b == a)
tied-by a b = grind (arith, nat_tests)

-- a stable sort keeps the first of a number
pub stable-first : {X : Type 0} (n : X → ℕ) (xs ys : List X) (q : ℕ) (x : X) → n x ≡ q → IsStableByKey n nat_cmp xs ys → find (λ y. n y == q) ys ≡ find (λ y. n y == q) xs
stable-first {X} n xs ys q x same stable =
    same-first (λ y. n y == q) (ties (λ (a b : X). is_lt (nat_cmp (n a) (n b))) x) (λ y. tied-by (n x) (n y) ∙ ap (λ m. n y == m) same) xs ys (stable x)

-- a place before which an item is below a number, and at which one isn't
pub point-here : {X : Type 0} (n : X → ℕ) (xs : List X) (q i : ℕ) → IsNonDecreasingBy n xs → i ≤ length xs → ((d : X) → i < length xs → q ≤ n (get_or xs i d)) → ((d : X) → 0 < i → n (get_or xs (i - 1) d) < q)
    → IsPartitionPoint (λ x. nat_lt (n x) q ≡ true) (λ x. nat_lt (n x) q ≡ false) xs i
point-here {X} n xs q i up low here before = (first, second)
  where
    first : (k : ℕ) (d : X) → 0 ≤ k → k < i → nat_lt (n (get_or xs k d)) q ≡ true
    first k d a b =
        let last = before d (omega arith) in
        let le = up k (i - 1) d (omega arith) (omega arith) in
        from-below (n (get_or xs k d)) q (omega arith)

    second : (k : ℕ) (d : X) → i ≤ k → k < length xs → nat_lt (n (get_or xs k d)) q ≡ false
    second k d a b =
        let low = here d (omega arith) in
        let le = up i k d a b in
        never-true (nat_lt (n (get_or xs k d)) q) (λ h. let less = below-from (n (get_or xs k d)) q h in omega arith)

rises-before : {X : Type 0} (n : X → ℕ) (xs : List X) (q i : ℕ) → AllAdjacentBelow (λ x y. n x < n y) xs (length xs) → i < length xs → ((d : X) → n (get_or xs i d) ≡ q) → (d : X) → 0 < i → n (get_or xs (i - 1) d) < q
rises-before n xs q zero up low same d above = absurd (omega arith)
rises-before n xs q (suc k) up low same d above =
    let less = up k d (omega arith) in
    let here = same d in
    let next = ap (λ j. n (get_or xs j d)) (add-one k) in
    let before = ap (λ j. n (get_or xs j d)) (sub-one k) in
    omega (arith, less, here, next, before)
  where
    add-one : (k : ℕ) → k + 1 ≡ suc k
    add-one k = omega arith

    sub-one : (k : ℕ) → suc k - 1 ≡ k
    sub-one k = omega arith

-- where numbers rise, one of a number is the only one
pub only-place : {X : Type 0} (n : X → ℕ) (xs : List X) (q i : ℕ) (d : X) → AllAdjacentBelow (λ x y. n x < n y) xs (length xs) → i < length xs → n (get_or xs i d) ≡ q → position (λ x. n x == q) xs ≡ Some i
only-place {X} n xs q i d up low same =
    let order : IsNonDecreasingBy n xs = IsNonDecreasingBy-from_all_adjacent n xs (λ k e less. let here = up k e less in omega arith) in
    let each : (e : X) → n (get_or xs i e) ≡ q = λ e. ap n (get_or_default xs i e d low) ∙ same in
    let point = point-here n xs q i order (omega arith) (λ e inside. let one = each e in omega arith) (rises-before n xs q i up low each) in
    position-is n xs q i d low point same

-- where all are below a number, none is of it
pub position-past : {X : Type 0} (n : X → ℕ) (xs : List X) (q i : ℕ) → i ≡ length xs → IsNonDecreasingBy n xs → IsPartitionPoint (λ x. nat_lt (n x) q ≡ true) (λ x. nat_lt (n x) q ≡ false) xs i → position (λ x. n x == q) xs ≡ None
position-past n [] q i end up point = refl
position-past n (x ∷ xs) q i end up point = position-none n (x ∷ xs) q i x (omega arith) up point (λ less e. omega arith)

placed : (b : Bool) (k i : ℕ) → cond b (Some k) None ≡ Some i → k ≡ i
placed true k i e = cc
placed false k i e = absurd (let r : ⊥ = cc in r)

unplaced : {X : Type 0} (p : X → Bool) (xs : List X) → position p xs ≡ None → position_or_len p xs ≡ length xs
unplaced p xs e =
    let most = prefix_len-le-length (λ x. not (p x)) xs in
    let go : (b : Bool) → nat_lt (position_or_len p xs) (length xs) ≡ b → cond b (Some (position_or_len p xs)) None ≡ None → position_or_len p xs ≡ length xs =
    λ b. elim b as (λ b. nat_lt (position_or_len p xs) (length xs) ≡ b → cond b (Some (position_or_len p xs)) None ≡ None → position_or_len p xs ≡ length xs) [
      | true ↦ λ f g. absurd (let r : ⊥ = cc in r)
      | false ↦ λ f g. let le = ltb-false (position_or_len p xs) (length xs) f in omega arith
    ] in
    go (nat_lt (position_or_len p xs) (length xs)) refl e

-- the place of the first that passes is where those before it end
pub place-is : {X : Type 0} (p : X → Bool) (xs : List X) (i : ℕ) → Some i ≡ position p xs → i ≡ position_or_len p xs
place-is p xs i e = sym (placed (nat_lt (position_or_len p xs) (length xs)) (position_or_len p xs) i (sym e))

-- the first that passes is at its place
pub found-there : {X : Type 0} (p : X → Bool) (xs : List X) (i : ℕ) (d : X) → Some i ≡ position p xs → find p xs ≡ Some (get_or xs i d)
found-there p xs i d e =
    let t = position-Some p xs i d (sym e) in
    find_at p xs ∙ (ap (slice_get xs) (sym (place-is p xs i e)) ∙ get-at xs i d t.0)

-- none passes without a place
pub found-nowhere : {X : Type 0} (p : X → Bool) (xs : List X) → None ≡ position p xs → find p xs ≡ None
found-nowhere p xs e = find_at p xs ∙ (ap (slice_get xs) (unplaced p xs (sym e)) ∙ get-past xs)

-- an item is of a number
of-number : {X : Type 0} (n : X → ℕ) (xs : List X) (i q : ℕ) (d : X) → option_map n (slice_get xs i) ≡ Some q → n (get_or xs i d) ≡ q
of-number n [] i q d e = absurd (let r : ⊥ = cc in r)
of-number n (x ∷ xs) zero q d e = cc
of-number n (x ∷ xs) (suc i) q d e = of-number n xs i q d e

-- one of the same number in its place leaves the others where they are
pub rises-set : {X : Type 0} (n : X → ℕ) (xs : List X) (i : ℕ) (y : X) → option_map n (slice_get xs i) ≡ Some (n y) → IsNonDecreasingBy n xs → IsNonDecreasingBy n (set xs i y)
rises-set {X} n xs i y same up j k d le low =
    let long : k < length xs = omega (arith, length-set xs i y) in
    let a = kept j (omega arith) in
    let b = kept k long in
    let c = up j k d le long in
    omega arith
  where
    kept : (m : ℕ) → m < length xs → n (get_or (set xs i y) m d) ≡ n (get_or xs m d)
    kept m less =
        elim (cases_eq m i) as (λ _. n (get_or (set xs i y) m d) ≡ n (get_or xs m d)) [
          | inl here ↦
              let inside : i < length xs = omega arith in
              ap (λ k. n (get_or (set xs i y) k d)) here ∙ (ap n (get_or-set_same xs i y d inside) ∙ (sym (of-number n xs i (n y) d same) ∙ ap (λ k. n (get_or xs k d)) (sym here)))
          | inr other ↦ ap n (get_or-set_other xs i m y d other)
        ]

-- at the place of the first of a number stands an item of it
pub placed_number : {X : Type 0} (n : X → ℕ) (xs : List X) (q i : ℕ) → Some i ≡ position (λ x. n x == q) xs → option_map n (slice_get xs i) ≡ Some q
placed_number n [] q i e = absurd (let r : ⊥ = cc in r)
placed_number n (x ∷ xs) q i e =
    let t = position-Some (λ x. n x == q) (x ∷ xs) i x (sym e) in
    ap (option_map n) (get-at (x ∷ xs) i x t.0) ∙ ap (λ k. Some k) (equal-from (n (get_or (x ∷ xs) i x)) q t.1)
