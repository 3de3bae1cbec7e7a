-- Bits that are set in a run of bytes, and bits of a part of one.
use Rattle.std.proofs.Common.{◌≡◌, ◌≢◌, ℕ, zero, suc, ◌+◌, ◌-◌, ◌*◌, ◌/◌, ◌%◌, ◌^◌, ◌<◌, ◌≤◌, Bool, true, false, ◌||◌, ◌==◌, List, length, get_or, set, replicate, take, slice_range, w8, refl, ap, ap₂, sym, ◌∙◌, arith, inl, inr, get_or-set_same, get_or-set_other, rules}
use Rattle.std.specs.Prelude.{bit_or, Option, Some, None, IfSome, IsNone, ◌↔◌}
use borrow.Rule.Slice.PartMut.{put_mid}
use Rattle.std.proofs.lemmas.List.{places, get_or-replicate, length-replicate, take-replicate}
use Rattle.std.proofs.lemmas.List.Edits.{get_or-between, length-between}
use Rattle.std.proofs.lemmas.Nat.Bits.{bit_at_ones}
use Rattle.bit_lanes.specs.Bits.{IsFirstDifference}
use Rattle.std.proofs.lemmas.Bool.{cases_eq, cases_lt}
use Rattle.std.proofs.lemmas.Bool.Decides.{nat_tests}
use Rattle.std.proofs.lemmas.Nat.Bits.{bit_at_set_same, bit_at_set_other, bit_at-zero}
use Rattle.apfs_model.specs.Bytes.{has_bit, bit_at}
use Rattle.bit_lanes.specs.Places.{is_from, AreClear, IsLeastSet, IsSearched}

-- a run of bytes with a further bit
abbrev pub with_bit : List ℕ → ℕ → List ℕ
with_bit bytes i = set bytes (i / 8) (bit_or (get_or bytes (i / 8) 0) (1 * 2 ^ (i % 8) % 256))

or-true : (b : Bool) → (b || true) ≡ true
or-true true = refl
or-true false = refl

or-false : (b : Bool) → (b || false) ≡ b
or-false true = refl
or-false false = refl

is_one : ℕ → Bool
is_one n = n == 1

set_here : (bytes : List ℕ) (i : ℕ) → i < 8 * length bytes → bit_at (with_bit bytes i) i ≡ true
unfolding bit_at is_one
set_here bytes i low =
    let inside : i / 8 < length bytes = omega arith in
    let small : i % 8 < 8 = omega arith in
    rw get_or-set_same (ap is_one (bit_at_set_same w8 (get_or bytes (i / 8) 0) (i % 8) small))

set_elsewhere : (bytes : List ℕ) (i k : ℕ) → i < 8 * length bytes → k ≢ i → bit_at (with_bit bytes i) k ≡ bit_at bytes k
unfolding bit_at is_one
set_elsewhere bytes i k low apart =
    let inside : i / 8 < length bytes = omega arith in
    let small : i % 8 < 8 = omega arith in
    elim (cases_eq (k / 8) (i / 8)) [
      | inl same ↦
          let bit : k % 8 ≢ i % 8 = λ e. apart (omega (arith, same, e)) in
          rw (same, get_or-set_same) (ap is_one (bit_at_set_other w8 (get_or bytes (i / 8) 0) (i % 8) small (k % 8) bit))
      | inr other ↦
          let byte : k / 8 ≢ i / 8 = other in
          rw get_or-set_other refl
    ]

-- a bit is set
pub one_set : (bytes : List ℕ) (i : ℕ) → i < 8 * length bytes → (k : ℕ) → bit_at (with_bit bytes i) k ≡ (bit_at bytes k || (k == i))
one_set bytes i low k =
    elim (cases_eq k i) [
      | inl same ↦
          ap (bit_at (with_bit bytes i)) same ∙ set_here bytes i low ∙ sym (or-true (bit_at bytes k)) ∙ ap (λ b. bit_at bytes k || b) (grind (arith, nat_tests))
      | inr apart ↦
          set_elsewhere bytes i k low apart ∙ sym (or-false (bit_at bytes k)) ∙ ap (λ b. bit_at bytes k || b) (grind (arith, nat_tests))
    ]

-- ---- parts of a run

byte_below : (a n : ℕ) (xs ys : List ℕ) (j : ℕ) → j < a → a ≤ length xs → get_or (put_mid a n xs ys) j 0 ≡ get_or xs j 0
byte_below a n xs ys j low le = search (rules, places)

byte_inside : (a n : ℕ) (xs ys : List ℕ) (j : ℕ) → a ≤ j → j < a + length ys → a ≤ length xs → get_or (put_mid a n xs ys) j 0 ≡ get_or ys (j - a) 0
byte_inside a n xs ys j above below le = search (rules, places)

byte_above : (a n : ℕ) (xs ys : List ℕ) (j : ℕ) → a + n ≤ j → length ys ≡ n → a + n ≤ length xs → get_or (put_mid a n xs ys) j 0 ≡ get_or xs j 0
byte_above a n xs ys j above long le = search (rules, places)

has_ones : (i : ℕ) → i < 8 → has_bit 255 i ≡ true
unfolding is_one
has_ones i low = ap is_one (bit_at_ones 8 i low)

-- whole bytes of ones
pub part_set : (bytes : List ℕ) (a b : ℕ) → a ≤ b → b ≤ length bytes → (ones : List ℕ) → ones ≡ replicate (b - a) 255 → (k : ℕ) →
    bit_at (put_mid a (b - a) bytes ones) k ≡ (bit_at bytes k || is_from (8 * a) (8 * b) k)
unfolding bit_at
part_set bytes a b order inside ones same k =
    let long : length ones ≡ b - a = ap length same ∙ length-replicate (b - a) 255 in
    elim (cases_lt (k / 8) a) [
      | inl below ↦
          ap (λ n. has_bit n (k % 8)) (byte_below a (b - a) bytes ones (k / 8) below (omega arith))
          ∙ sym (or-false (has_bit (get_or bytes (k / 8) 0) (k % 8))) ∙ ap (λ c. has_bit (get_or bytes (k / 8) 0) (k % 8) || c) (grind (arith, nat_tests))
      | inr above ↦ elim (cases_lt (k / 8) b) [
        | inl here ↦
            let inside_ones : k / 8 - a < b - a = omega arith in
            ap (λ n. has_bit n (k % 8)) (byte_inside a (b - a) bytes ones (k / 8) above (omega arith) (omega arith) ∙ ap (λ xs. get_or xs (k / 8 - a) 0) same ∙ get_or-replicate (b - a) (k / 8 - a) 255 0 inside_ones)
            ∙ has_ones (k % 8) (omega arith)
            ∙ sym (or-true (has_bit (get_or bytes (k / 8) 0) (k % 8))) ∙ ap (λ c. has_bit (get_or bytes (k / 8) 0) (k % 8) || c) (grind (arith, nat_tests))
        | inr beyond ↦
            ap (λ n. has_bit n (k % 8)) (byte_above a (b - a) bytes ones (k / 8) (omega arith) long (omega arith))
            ∙ sym (or-false (has_bit (get_or bytes (k / 8) 0) (k % 8))) ∙ ap (λ c. has_bit (get_or bytes (k / 8) 0) (k % 8) || c) (grind (arith, nat_tests))
      ]
    ]

-- a bit of a part
pub bit_in_part : (bytes : List ℕ) (a b k : ℕ) → k < 8 * (b - a) → bit_at (slice_range bytes a b) k ≡ bit_at bytes (8 * a + k)
unfolding bit_at
bit_in_part bytes a b k low =
    let byte : a + k / 8 ≡ (8 * a + k) / 8 = omega arith in
    let place : k % 8 ≡ (8 * a + k) % 8 = omega arith in
    ap₂ has_bit (get_or-between bytes a b (k / 8) 0 (omega arith) ∙ ap (λ i. get_or bytes i 0) byte) place

pub no_bits : (zeros : List ℕ) → ((j : ℕ) → get_or zeros j 0 ≡ 0) → (k : ℕ) → bit_at zeros k ≡ false
unfolding bit_at is_one
no_bits zeros none k = ap (λ n. has_bit n (k % 8)) (none (k / 8)) ∙ ap is_one (bit_at-zero (k % 8))

apart-true : (a b : Bool) → (a ≡ b → ⊥) → b ≡ false → a ≡ true
apart-true true b apart off = refl
apart-true false b apart off = absurd (apart (sym off))

-- the least bit at which a run differs from zeros is the least that is set
pub least_from_zeros : (part zeros : List ℕ) → ((j : ℕ) → get_or zeros j 0 ≡ 0) → (place : ℕ) → IsFirstDifference part zeros place → IsLeastSet part 0 (8 * length part) place
least_from_zeros part zeros none place first = record {
  above = omega arith;
  below = first.inside;
  is_set = apart-true (bit_at part place) (bit_at zeros place) first.differs (no_bits zeros none place);
  least = λ k from low. first.least k low ∙ no_bits zeros none k;
}

-- a run that equals zeros has no bit
pub clear_from_zeros : (part zeros : List ℕ) → ((j : ℕ) → get_or zeros j 0 ≡ 0) → part ≡ zeros → AreClear part 0 (8 * length part)
clear_from_zeros part zeros none same k from low = ap (λ xs. bit_at xs k) same ∙ no_bits zeros none k

pub zero_at : (n j : ℕ) → get_or {A = ℕ} (replicate n 0) j 0 ≡ 0
zero_at zero j = refl
zero_at (suc n) zero = refl
zero_at (suc n) (suc j) = zero_at n j

-- zeros have no byte but 0
pub zeros_at : (n : ℕ) → n ≤ 64 → (j : ℕ) → get_or {A = ℕ} (take n (replicate 64 0)) j 0 ≡ 0
zeros_at n few j = ap (λ (xs : List ℕ). get_or xs j 0) (take-replicate n 64 0 few) ∙ zero_at n j

-- the answer of a comparison with zeros
pub searched_zeros : (part zeros : List ℕ) (found : Option ℕ) → ((j : ℕ) → get_or zeros j 0 ≡ 0) → IfSome found (IsFirstDifference part zeros) → (IsNone found ↔ (part ≡ zeros)) → IsSearched part 0 (8 * length part) found
searched_zeros part zeros None none first same = clear_from_zeros part zeros none (same.0 refl)
searched_zeros part zeros (Some place) none first same = least_from_zeros part zeros none place first

-- a part after those that have no bit: its least bit, or none
pub part_least : (bits : List ℕ) (from to at end place : ℕ) → from ≤ at → at ≤ end → end ≤ to → to ≤ length bits → AreClear bits (8 * from) (8 * at) →
    IsLeastSet (slice_range bits at end) 0 (8 * length (slice_range bits at end)) place → IsLeastSet bits (8 * from) (8 * to) (8 * at + place)
part_least bits from to at end place low order high inside before here =
    let long : length (slice_range bits at end) ≡ end - at = length-between bits at end (omega arith) in
    let below = here.below in
    record {
      above = omega arith;
      below = omega arith;
      is_set = sym (bit_in_part bits at end place (omega arith)) ∙ here.is_set;
      least = λ k above lower. elim (cases_lt k (8 * at)) [
        | inl earlier ↦ before k above earlier
        | inr later ↦
            let same : 8 * at + (k - 8 * at) ≡ k = omega arith in
            ap (bit_at bits) (sym same) ∙ sym (bit_in_part bits at end (k - 8 * at) (omega arith)) ∙ here.least (k - 8 * at) (omega arith) (omega arith)
      ];
    }

pub part_clear : (bits : List ℕ) (from at end : ℕ) → at ≤ end → end ≤ length bits → AreClear bits (8 * from) (8 * at) →
    AreClear (slice_range bits at end) 0 (8 * length (slice_range bits at end)) → AreClear bits (8 * from) (8 * end)
part_clear bits from at end order inside before here k above lower =
    let long : length (slice_range bits at end) ≡ end - at = length-between bits at end (omega arith) in
    elim (cases_lt k (8 * at)) [
      | inl earlier ↦ before k above earlier
      | inr later ↦
          let same : 8 * at + (k - 8 * at) ≡ k = omega arith in
          ap (bit_at bits) (sym same) ∙ sym (bit_in_part bits at end (k - 8 * at) (omega arith)) ∙ here (k - 8 * at) (omega arith) (omega arith)
    ]
