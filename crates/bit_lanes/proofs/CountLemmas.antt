-- Bits that are set, byte by byte.
use Rattle.std.proofs.Common.{◌≡◌, ℕ, zero, suc, ◌+◌, ◌*◌, ◌/◌, ◌%◌, ◌^◌, ◌<◌, ◌≤◌, ◌-◌, eqb, cond, List, get_or, map, count_by, min, add-zero, refl, sym, ap, ap₂, ◌∙◌, arith}
use Rattle.std.specs.Prelude.{count_ones}
use Rattle.std.specs.List.{range_with_len}
use Rattle.std.specs.Int.{bit_at as bit_number}
use Rattle.std.proofs.lemmas.List.{map-id}
use Rattle.std.proofs.lemmas.List.Sums.{sum_by_push, count_by-le-length}
use Rattle.std.proofs.lemmas.List.FromFn.{length-range_with_len, map-range_with_len_more}
use Rattle.std.proofs.lemmas.Nat.Bits.{bit_at-suc, bit_at-lt}
use Rattle.std.proofs.Math.Nat.{pow-suc}
use lib.Count.{ones, ones_step}
use Rattle.apfs_model.specs.Bytes.{has_bit, bit_at}
use Rattle.apfs_model.specs.Counts.{given}
use Rattle.bit_lanes.specs.Bits.{ones_below}

-- how many of the lowest k bits of a number are set
abbrev low_ones : ℕ → ℕ → ℕ
low_ones zero n = 0
low_ones (suc k) n = n % 2 + low_ones k (n / 2)

low_ones_more : (k n : ℕ) → low_ones (suc k) n ≡ low_ones k n + bit_number n k
low_ones_more zero n = Prim.grind arith
low_ones_more (suc k) n =
    ap (λ m. n % 2 + m) (low_ones_more k (n / 2)) ∙ Prim.grind (arith, bit_at-suc n k)

half_below : (k n : ℕ) → n < 2 ^ suc k → n / 2 < 2 ^ k
half_below k n low = let twice : 2 ^ suc k ≡ 2 ^ k * 2 = pow-suc 2 k in Prim.omega arith

-- a number of k bits has no others
count_ones-low : (k n : ℕ) → n < 2 ^ k → count_ones n ≡ low_ones k n
unfolding ones
count_ones-low zero n low = let none : n ≡ 0 = Prim.omega arith in ap count_ones none
count_ones-low (suc k) n low =
    ones_step n ∙ ap (λ m. n % 2 + m) (count_ones-low k (n / 2) (half_below k n low))

one_more : (bytes : List ℕ) (n : ℕ) → ones_below bytes (n + 1) ≡ ones_below bytes n + cond (bit_at bytes n) 1 0
one_more bytes n =
    ap (count_by (bit_at bytes)) (sym (map-id (range_with_len 0 (n + 1))) ∙ map-range_with_len_more (λ i. i) 0 n n (Prim.omega arith))
    ∙ sum_by_push (λ i. cond (bit_at bytes i) 1 0) (map (λ i. i) (range_with_len 0 n)) n
    ∙ ap (λ ns. count_by (bit_at bytes) ns + cond (bit_at bytes n) 1 0) (map-id (range_with_len 0 n))

as_number : (b : ℕ) → b < 2 → cond (eqb b 1) 1 0 ≡ b
as_number zero low = refl
as_number (suc zero) low = refl
as_number (suc (suc b)) low = absurd (Prim.omega arith)

bit_number_at : (bytes : List ℕ) (i j : ℕ) → j < 8 → cond (bit_at bytes (8 * i + j)) 1 0 ≡ bit_number (get_or bytes i 0) j
unfolding bit_at
bit_number_at bytes i j low =
    let byte : (8 * i + j) / 8 ≡ i = Prim.omega arith in
    let place : (8 * i + j) % 8 ≡ j = Prim.omega arith in
    ap₂ (λ a b. cond (has_bit (get_or bytes a 0) b) 1 0) byte place ∙ as_number (bit_number (get_or bytes i 0) j) (bit_at-lt (get_or bytes i 0) j)

ones_in_byte : (bytes : List ℕ) (i j : ℕ) → j ≤ 8 → ones_below bytes (8 * i + j) ≡ ones_below bytes (8 * i) + low_ones j (get_or bytes i 0)
ones_in_byte bytes i zero low =
    ap (ones_below bytes) (add-zero (8 * i)) ∙ sym (add-zero (ones_below bytes (8 * i)))
ones_in_byte bytes i (suc j) low =
    let next : 8 * i + suc j ≡ 8 * i + j + 1 = Prim.omega arith in
    let before = ones_in_byte bytes i j (Prim.omega arith) in
    let here = bit_number_at bytes i j (Prim.omega arith) in
    let more = low_ones_more j (get_or bytes i 0) in
    ap (ones_below bytes) next ∙ one_more bytes (8 * i + j) ∙ Prim.omega (arith, before, here, more)

-- one byte more has its ones more
pub ones_of_byte : (bytes : List ℕ) (i : ℕ) → get_or bytes i 0 < 2 ^ 8 → ones_below bytes (8 * (i + 1)) ≡ ones_below bytes (8 * i) + count_ones (get_or bytes i 0)
ones_of_byte bytes i low =
    let next : 8 * (i + 1) ≡ 8 * i + 8 = Prim.omega arith in
    ap (ones_below bytes) next ∙ ones_in_byte bytes i 8 (Prim.omega arith)
    ∙ ap (λ m. ones_below bytes (8 * i) + m) (sym (count_ones-low 8 (get_or bytes i 0) low))

-- the same of a count that stands at its greatest number
pub given_more : (n m : ℕ) → min (given n + m) (2 ^ 64 - 1) ≡ given (n + m)
given_more n m = Prim.omega arith

-- no more bits are set than there are
pub ones_bound : (bytes : List ℕ) (n : ℕ) → ones_below bytes n ≤ n
ones_bound bytes n =
    Prim.omega (arith, count_by-le-length (bit_at bytes) (range_with_len 0 n), length-range_with_len 0 n)
