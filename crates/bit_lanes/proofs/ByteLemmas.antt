-- Bits of one byte, and of a byte in a run.
use Rattle.std.proofs.Common.{◌≡◌, ◌≢◌, ℕ, zero, suc, ◌+◌, ◌*◌, ◌/◌, ◌%◌, ◌^◌, ◌<◌, ◌≤◌, Bool, true, false, ◌&&◌, ◌||◌, cond, eqb, ltb, List, length, get_or, min, max, w8, refl, sym, ap, ap₂, ◌∙◌, arith, inl, inr}
use Rattle.std.specs.Prelude.{bit_and, bit_or, bit_xor}
use Rattle.std.specs.Int.{bit_at as bit_number, trailing_zeros}
use Rattle.std.proofs.lemmas.Bool.{cases_lt, and_parts, and_from, both_ways, cond-true, cond-false, lt-ltb, le-ltb}
use Rattle.std.proofs.lemmas.List.{get_or_past}
use Rattle.std.proofs.lemmas.Nat.{xor_lt, and_le_l}
use Rattle.std.proofs.lemmas.Nat.Bits.{bit_at_and, bit_at_or, bit_at_xor, bit_at-lt, bit_at-zero, bit_at-trailing_zeros, same_from_bits}
use Rattle.apfs_model.specs.Bytes.{has_bit, bit_at}
use Rattle.bit_lanes.specs.Bits.{IsLowestApart, IsFirstDifference, ShareBit}

-- ---- one number

is_set : ℕ → Bool
is_set b = eqb b 1

or_test : (a b : ℕ) → a < 2 → b < 2 → is_set (max a b) ≡ (is_set a || is_set b)
unfolding is_set
or_test zero zero low_a low_b = refl
or_test zero (suc zero) low_a low_b = refl
or_test (suc zero) zero low_a low_b = refl
or_test (suc zero) (suc zero) low_a low_b = refl
or_test (suc (suc a)) b low_a low_b = absurd (Prim.omega arith)
or_test a (suc (suc b)) low_a low_b = absurd (Prim.omega arith)

and_test : (a b : ℕ) → a < 2 → b < 2 → is_set (min a b) ≡ (is_set a && is_set b)
unfolding is_set
and_test zero zero low_a low_b = refl
and_test zero (suc zero) low_a low_b = refl
and_test (suc zero) zero low_a low_b = refl
and_test (suc zero) (suc zero) low_a low_b = refl
and_test (suc (suc a)) b low_a low_b = absurd (Prim.omega arith)
and_test a (suc (suc b)) low_a low_b = absurd (Prim.omega arith)

equal_test : (a b : ℕ) → a < 2 → b < 2 → (a + b) % 2 ≡ 0 → is_set a ≡ is_set b
unfolding is_set
equal_test a b low_a low_b even = let same : a ≡ b = Prim.omega arith in ap (λ v. eqb v 1) same

apart_test : (a b : ℕ) → a < 2 → b < 2 → (a + b) % 2 ≡ 1 → is_set a ≢ is_set b
unfolding is_set
apart_test zero zero low_a low_b odd e = Prim.omega arith
apart_test zero (suc zero) low_a low_b odd e = Prim.cc
apart_test (suc zero) zero low_a low_b odd e = Prim.cc
apart_test (suc zero) (suc zero) low_a low_b odd e = Prim.omega arith
apart_test (suc (suc a)) b low_a low_b odd e = Prim.omega arith
apart_test a (suc (suc b)) low_a low_b odd e = Prim.omega arith

-- a bit is set in x | y where it is set in one of both
pub has_bit_or : (x y i : ℕ) → has_bit (bit_or x y) i ≡ (has_bit x i || has_bit y i)
unfolding is_set
has_bit_or x y i =
    ap is_set (bit_at_or x y i) ∙ or_test (bit_number x i) (bit_number y i) (bit_at-lt x i) (bit_at-lt y i)

-- a bit is set in x & y where it is set in both
has_bit_and : (x y i : ℕ) → has_bit (bit_and x y) i ≡ (has_bit x i && has_bit y i)
unfolding is_set
has_bit_and x y i =
    ap is_set (bit_at_and x y i) ∙ and_test (bit_number x i) (bit_number y i) (bit_at-lt x i) (bit_at-lt y i)

-- numbers whose x ^ y is 0 are equal
same_of_xor : (x y : ℕ) → bit_xor x y ≡ 0 → x ≡ y
same_of_xor x y none =
    same_from_bits x y
    (λ i. let even : (bit_number x i + bit_number y i) % 2 ≡ 0 = sym (bit_at_xor x y i) ∙ ap (λ n. bit_number n i) none ∙ bit_at-zero i in
    let low_x : bit_number x i < 2 = bit_at-lt x i in
    let low_y : bit_number y i < 2 = bit_at-lt y i in
    Prim.omega arith)

some_of_xor : (x y : ℕ) → x ≢ y → 0 < bit_xor x y
some_of_xor x y apart =
    elim (cases_lt 0 (bit_xor x y)) [
      | inl some ↦ some
      | inr none ↦ absurd (apart (same_of_xor x y (Prim.omega arith)))
    ]

-- the lowest bit of x ^ y
pub lowest_apart : (x y : ℕ) → x < 2 ^ 8 → y < 2 ^ 8 → x ≢ y → IsLowestApart x y (trailing_zeros w8 (bit_xor x y))
unfolding is_set
lowest_apart x y low_x low_y apart =
    let t = bit_at-trailing_zeros w8 (bit_xor x y) (some_of_xor x y apart) (xor_lt 8 x y low_x low_y) in
    let at : ℕ = trailing_zeros w8 (bit_xor x y) in
    record {
      inside = t.0;
      differs = apart_test (bit_number x at) (bit_number y at) (bit_at-lt x at) (bit_at-lt y at) (sym (bit_at_xor x y at) ∙ t.1);
      least = λ k low.
          equal_test (bit_number x k) (bit_number y k) (bit_at-lt x k) (bit_at-lt y k) (sym (bit_at_xor x y k) ∙ t.2 k low);
    }

no_bit : (i : ℕ) → has_bit 0 i ≡ false
unfolding is_set
no_bit i = ap is_set (bit_at-zero i)

-- ---- a byte in a run

bit_in_byte : (bytes : List ℕ) (i j : ℕ) → j < 8 → bit_at bytes (8 * i + j) ≡ has_bit (get_or bytes i 0) j
unfolding bit_at
bit_in_byte bytes i j low =
    let byte : (8 * i + j) / 8 ≡ i = Prim.omega arith in
    let place : (8 * i + j) % 8 ≡ j = Prim.omega arith in
    ap₂ (λ a b. has_bit (get_or bytes a 0) b) byte place

bit_of_byte : (bytes : List ℕ) (k i : ℕ) → k / 8 ≡ i → bit_at bytes k ≡ has_bit (get_or bytes i 0) (k % 8)
unfolding bit_at
bit_of_byte bytes k i e = ap (λ a. has_bit (get_or bytes a 0) (k % 8)) e

-- two runs first differ where two of their bytes do, the bytes before being equal
pub first_from_byte : (a b : List ℕ) (i t : ℕ) → i < length a → IsLowestApart (get_or a i 0) (get_or b i 0) t → ((j : ℕ) → j < i → get_or a j 0 ≡ get_or b j 0) → IsFirstDifference a b (8 * i + t)
first_from_byte a b i t low apart same =
    let inside : t < 8 = apart.inside in
    record {
      inside = Prim.omega arith;
      differs = λ e. apart.differs (sym (bit_in_byte a i t inside) ∙ e ∙ bit_in_byte b i t inside);
      least = λ k below.
          elim (cases_lt k (8 * i)) [
            | inl before ↦
                bit_of_byte a k (k / 8) refl ∙ ap (λ byte. has_bit byte (k % 8)) (same (k / 8) (Prim.omega arith)) ∙ sym (bit_of_byte b k (k / 8) refl)
            | inr here ↦
                let byte : k / 8 ≡ i = Prim.omega arith in
                bit_of_byte a k i byte ∙ apart.least (k % 8) (Prim.omega arith) ∙ sym (bit_of_byte b k i byte)
          ];
    }

-- runs that differ at a bit are not equal
pub differ_apart : (a b : List ℕ) (i : ℕ) → IsFirstDifference a b i → a ≢ b
differ_apart a b i first e = first.differs (ap (λ bytes. bit_at bytes i) e)

-- a byte of x & y that is not 0 has a bit that both have
pub share_from_byte : (a b : List ℕ) (i : ℕ) → get_or a i 0 < 2 ^ 8 → bit_and (get_or a i 0) (get_or b i 0) ≢ 0 → ShareBit a b
unfolding is_set
share_from_byte a b i low some =
    let both : ℕ = bit_and (get_or a i 0) (get_or b i 0) in
    let above : 0 < both = elim (cases_lt 0 both) [ inl positive ↦ positive | inr none ↦ absurd (some (Prim.omega arith)) ] in
    let below : both < 2 ^ 8 = Prim.omega (arith, and_le_l (get_or a i 0) (get_or b i 0)) in
    let t = bit_at-trailing_zeros w8 both above below in
    let at : ℕ = trailing_zeros w8 both in
    let set = and_parts (has_bit (get_or a i 0) at) (has_bit (get_or b i 0) at) (sym (has_bit_and (get_or a i 0) (get_or b i 0) at) ∙ ap is_set t.1) in
    (8 * i + at, (bit_in_byte a i at t.0 ∙ set.0, bit_in_byte b i at t.0 ∙ set.1))

-- runs share no bit where each byte of x & y is 0
pub no_share : (a b : List ℕ) → ((i : ℕ) → i < length a → bit_and (get_or a i 0) (get_or b i 0) ≡ 0) → ShareBit a b → ⊥
no_share a b none (k, (set_a, set_b)) =
    let i : ℕ = k / 8 in
    let in_a : has_bit (get_or a i 0) (k % 8) ≡ true = sym (bit_of_byte a k i refl) ∙ set_a in
    let in_b : has_bit (get_or b i 0) (k % 8) ≡ true = sym (bit_of_byte b k i refl) ∙ set_b in
    elim (cases_lt i (length a)) [
      | inl inside ↦
          both_ways _
          (ap (λ n. has_bit n (k % 8)) (none i inside) ∙ no_bit (k % 8))
          (has_bit_and (get_or a i 0) (get_or b i 0) (k % 8) ∙ and_from _ _ in_a in_b)
      | inr past ↦ both_ways _ (ap (λ n. has_bit n (k % 8)) (get_or_past a i 0 past) ∙ no_bit (k % 8)) in_a
    ]

-- the bits of a run whose bytes are those of two runs, joined
pub joined_bits : (old from new : List ℕ) → ((j : ℕ) → get_or new j 0 ≡ bit_or (get_or old j 0) (get_or from j 0)) → (k : ℕ) → bit_at new k ≡ (bit_at old k || bit_at from k)
unfolding bit_at
joined_bits old from new joined k =
    ap (λ n. has_bit n (k % 8)) (joined (k / 8)) ∙ has_bit_or (get_or old (k / 8) 0) (get_or from (k / 8) 0) (k % 8)

-- beyond their ends two runs have zeros, whose join is 0
pub joined_at : (old from : List ℕ) (n j : ℕ) → length old ≤ n → length from ≤ n → cond (ltb j n) (bit_or (get_or old j 0) (get_or from j 0)) (get_or old j 0) ≡ bit_or (get_or old j 0) (get_or from j 0)
joined_at old from n j in_old in_from =
    elim (cases_lt j n) [
      | inl inside ↦ cond-true (ltb j n) _ _ (lt-ltb j n inside)
      | inr past ↦
          cond-false (ltb j n) _ _ (le-ltb j n past)
          ∙ get_or_past old j 0 (Prim.omega arith)
          ∙ ap₂ bit_or (sym (get_or_past old j 0 (Prim.omega arith))) (sym (get_or_past from j 0 (Prim.omega arith)))
    ]

-- 64 bytes more are joined
pub joined_part : (old from now new : List ℕ) (part : ℕ) →
    ((j : ℕ) → get_or now j 0 ≡ cond (ltb j (64 * part)) (bit_or (get_or old j 0) (get_or from j 0)) (get_or old j 0)) →
    ((j : ℕ) → 64 * part ≤ j → j < 64 * part + 64 → get_or new j 0 ≡ bit_or (get_or now j 0) (get_or from j 0)) →
    ((j : ℕ) → j < 64 * part → get_or new j 0 ≡ get_or now j 0) →
    ((j : ℕ) → 64 * part + 64 ≤ j → get_or new j 0 ≡ get_or now j 0) →
    (j : ℕ) → get_or new j 0 ≡ cond (ltb j (64 * (part + 1))) (bit_or (get_or old j 0) (get_or from j 0)) (get_or old j 0)
joined_part old from now new part so_far here before after j =
    elim (cases_lt j (64 * part)) [
      | inl below ↦
          before j below ∙ so_far j ∙ cond-true (ltb j (64 * part)) _ _ (lt-ltb j (64 * part) below)
          ∙ sym (cond-true (ltb j (64 * (part + 1))) _ _ (lt-ltb j (64 * (part + 1)) (Prim.omega arith)))
      | inr past ↦
          let stays : get_or now j 0 ≡ get_or old j 0 = so_far j ∙ cond-false (ltb j (64 * part)) _ _ (le-ltb j (64 * part) past) in
          elim (cases_lt j (64 * part + 64)) [
            | inl inside ↦
                here j past inside ∙ ap (λ n. bit_or n (get_or from j 0)) stays
                ∙ sym (cond-true (ltb j (64 * (part + 1))) _ _ (lt-ltb j (64 * (part + 1)) (Prim.omega arith)))
            | inr above ↦
                after j above ∙ stays ∙ sym (cond-false (ltb j (64 * (part + 1))) _ _ (le-ltb j (64 * (part + 1)) (Prim.omega arith)))
          ]
    ]

-- the bits of a run whose bytes are those of two runs, met
pub met_bits : (old from new : List ℕ) → ((j : ℕ) → get_or new j 0 ≡ bit_and (get_or old j 0) (get_or from j 0)) → (k : ℕ) → bit_at new k ≡ (bit_at old k && bit_at from k)
unfolding bit_at
met_bits old from new met k =
    ap (λ n. has_bit n (k % 8)) (met (k / 8)) ∙ has_bit_and (get_or old (k / 8) 0) (get_or from (k / 8) 0) (k % 8)

-- beyond their ends two runs have zeros, which meet in 0
pub met_at : (old from : List ℕ) (n j : ℕ) → length old ≤ n → length from ≤ n → cond (ltb j n) (bit_and (get_or old j 0) (get_or from j 0)) (get_or old j 0) ≡ bit_and (get_or old j 0) (get_or from j 0)
met_at old from n j in_old in_from =
    elim (cases_lt j n) [
      | inl inside ↦ cond-true (ltb j n) _ _ (lt-ltb j n inside)
      | inr past ↦
          cond-false (ltb j n) _ _ (le-ltb j n past)
          ∙ get_or_past old j 0 (Prim.omega arith)
          ∙ ap₂ bit_and (sym (get_or_past old j 0 (Prim.omega arith))) (sym (get_or_past from j 0 (Prim.omega arith)))
    ]
