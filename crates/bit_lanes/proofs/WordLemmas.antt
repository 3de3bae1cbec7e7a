-- Words of runs of bytes, and their bits.
use Rattle.std.proofs.Common.{◌≡◌, ℕ, zero, suc, ◌+◌, ◌-◌, ◌*◌, ◌%◌, ◌/◌, ◌<◌, ◌≤◌, ◌^◌, List, [], ◌∷◌, length, get_or, map, add-zero, refl, sym, ap, ◌∙◌, arith}
use Rattle.std.specs.Prelude.{count_ones}
use Rattle.std.specs.List.{range_with_len}
use Rattle.std.specs.Simd.Lanes.{Each1, chunk, number_l, digits_l}
use Rattle.std.proofs.Math.Seq.{drop-cons}
use Rattle.std.proofs.lemmas.List.FromFn.{get_or-map-range_with_len}
use Rattle.std.proofs.lemmas.Simd.{get_or-chunk, length-chunk, get_or_wider}
use lib.Count.{ones, ones_cat}
use Rattle.apfs_model.specs.Bytes.{number_at, u64_at}
use Rattle.bit_lanes.specs.Bits.{ones_below}
use Rattle.bit_lanes.specs.Words.{eight_words}
use Rattle.bit_lanes.proofs.CountLemmas.{ones_of_byte}

-- the number in a run of bytes
number_of_chunk : (n : ℕ) (bytes : List ℕ) (at : ℕ) → at + n ≤ length bytes → number_l 256 (chunk at n bytes) ≡ number_at n bytes at
number_of_chunk zero bytes at le = refl
number_of_chunk (suc n) bytes at le =
    rw (drop-cons bytes at 0 (Prim.omega arith)) (ap (λ rest. get_or bytes at 0 + 256 * rest) (number_of_chunk n bytes (suc at) (Prim.omega arith)))

-- a number inside a run of bytes
number_in_chunk : (n : ℕ) (bytes : List ℕ) (at len i : ℕ) → i + n ≤ len → number_at n (chunk at len bytes) i ≡ number_at n bytes (at + i)
number_in_chunk zero bytes at len i le = refl
number_in_chunk (suc n) bytes at len i le =
    let here : get_or (chunk at len bytes) i 0 ≡ get_or bytes (at + i) 0 = get_or-chunk at len bytes i 0 (Prim.omega arith) in
    let rest : number_at n (chunk at len bytes) (suc i) ≡ number_at n bytes (suc (at + i)) = number_in_chunk n bytes at len (suc i) (Prim.omega arith) ∙ ap (number_at n bytes) (Prim.omega arith) in
    Prim.cc

lane_is : (bytes : List ℕ) (at j : ℕ) → at + 64 ≤ length bytes → Each1 (λ x. x < 256) (chunk at 64 bytes) → j < 8 →
    get_or (digits_l 18446744073709551616 8 (number_l 256 (chunk at 64 bytes))) j 0 ≡ u64_at bytes (at + 8 * j)
unfolding u64_at
lane_is bytes at j le small lt =
    let long = length-chunk at 64 bytes le in
    get_or_wider 256 8 18446744073709551616 8 (chunk at 64 bytes) j refl small lt
    ∙ number_of_chunk 8 (chunk at 64 bytes) (8 * j) (Prim.omega arith)
    ∙ number_in_chunk 8 bytes at 64 (8 * j) (Prim.omega arith)

-- a list by its items
items_are : (f : ℕ → ℕ) (xs : List ℕ) (a n : ℕ) → length xs ≡ n → ((k : ℕ) → k < n → get_or xs k 0 ≡ f (a + k)) → xs ≡ map f (range_with_len a n)
items_are f [] a zero e h = refl
items_are f [] a (suc n) e h = absurd (Prim.omega arith)
items_are f (x ∷ xs) a zero e h = absurd (Prim.omega arith)
items_are f (x ∷ xs) a (suc n) e h =
    let head : x ≡ f a = h 0 (Prim.omega arith) ∙ ap f (Prim.omega arith) in
    let tail : xs ≡ map f (range_with_len (a + 1) n) = items_are f xs (a + 1) n (Prim.omega arith) (λ k lt. h (suc k) (Prim.omega arith) ∙ ap f (Prim.omega arith)) in
    Prim.cc

-- eight lanes of 64 bits from 64 bytes are eight words
pub eight_are : (bytes : List ℕ) (at : ℕ) → at + 64 ≤ length bytes → Each1 (λ x. x < 256) (chunk at 64 bytes) →
    digits_l 18446744073709551616 8 (number_l 256 (chunk at 64 bytes)) ≡ eight_words bytes at
eight_are bytes at le small =
    items_are (λ j. u64_at bytes (at + 8 * j)) (digits_l 18446744073709551616 8 (number_l 256 (chunk at 64 bytes))) 0 8 refl
    (λ k lt. lane_is bytes at k le small lt ∙ ap (λ i. u64_at bytes (at + 8 * i)) (Prim.omega arith))

ones-zero : count_ones 0 ≡ 0
unfolding ones
ones-zero = refl

-- the bits of a number are those of its bytes
ones_of_number : (n : ℕ) (bytes : List ℕ) (at : ℕ) → ((k : ℕ) → get_or bytes k 0 < 256) → ones_below bytes (8 * at) + count_ones (number_at n bytes at) ≡ ones_below bytes (8 * (at + n))
ones_of_number zero bytes at small =
    let none : count_ones 0 ≡ 0 = ones-zero in
    ap (λ n. ones_below bytes (8 * at) + n) none ∙ add-zero (ones_below bytes (8 * at)) ∙ ap (λ i. ones_below bytes (8 * i)) (sym (add-zero at))
ones_of_number (suc n) bytes at small =
    let byte : ones_below bytes (8 * (at + 1)) ≡ ones_below bytes (8 * at) + count_ones (get_or bytes at 0) = ones_of_byte bytes at (small at) in
    let next : at + 1 ≡ suc at = Prim.omega arith in
    let end : suc at + n ≡ at + suc n = Prim.omega arith in
    let whole : get_or bytes at 0 + 256 * number_at n bytes (suc at) ≡ number_at n bytes (suc at) * 2 ^ 8 + get_or bytes at 0 = Prim.omega arith in
    let rest : ones_below bytes (8 * (at + 1)) + count_ones (number_at n bytes (suc at)) ≡ ones_below bytes (8 * (at + suc n)) =
    ap (λ i. ones_below bytes (8 * i) + count_ones (number_at n bytes (suc at))) next ∙ ones_of_number n bytes (suc at) small ∙ ap (λ i. ones_below bytes (8 * i)) end in
    let parts : count_ones (get_or bytes at 0 + 256 * number_at n bytes (suc at)) ≡ count_ones (number_at n bytes (suc at)) + count_ones (get_or bytes at 0) =
    ap count_ones whole ∙ ones_cat 8 (number_at n bytes (suc at)) (get_or bytes at 0) (small at) in
    Prim.omega (arith, byte, rest, parts)

-- a word is one of the eight
word_is : (bytes : List ℕ) (at j : ℕ) → j < 8 → get_or (eight_words bytes at) j 0 ≡ number_at 8 bytes (at + 8 * j)
unfolding u64_at
word_is bytes at j lt = get_or-map-range_with_len (λ j. u64_at bytes (at + 8 * j)) 0 8 j j 0 lt (Prim.omega arith)

-- one word more has its ones more
pub ones_of_word : (bytes : List ℕ) (at j : ℕ) → j < 8 → ((k : ℕ) → get_or bytes k 0 < 256) →
    ones_below bytes (8 * (at + 8 * j)) + count_ones (get_or (eight_words bytes at) j 0) ≡ ones_below bytes (8 * (at + 8 * (j + 1)))
ones_of_word bytes at j lt small =
    let end : at + 8 * j + 8 ≡ at + 8 * (j + 1) = Prim.omega arith in
    ap (λ n. ones_below bytes (8 * (at + 8 * j)) + count_ones n) (word_is bytes at j lt)
    ∙ ones_of_number 8 bytes (at + 8 * j) small ∙ ap (λ i. ones_below bytes (8 * i)) end

-- equal numbers have equal bytes
same_bytes : (n : ℕ) (a b : List ℕ) (at k : ℕ) → ((j : ℕ) → get_or a j 0 < 256) → ((j : ℕ) → get_or b j 0 < 256) → number_at n a at ≡ number_at n b at → k < n → get_or a (at + k) 0 ≡ get_or b (at + k) 0
same_bytes zero a b at k small_a small_b same lt = absurd (Prim.omega arith)
same_bytes (suc n) a b at zero small_a small_b same lt =
    let low_a = small_a at in
    let low_b = small_b at in
    let here : get_or a at 0 ≡ get_or b at 0 = Prim.omega arith in
    ap (λ i. get_or a i 0) (add-zero at) ∙ here ∙ ap (λ i. get_or b i 0) (sym (add-zero at))
same_bytes (suc n) a b at (suc k) small_a small_b same lt =
    let low_a = small_a at in
    let low_b = small_b at in
    let rest : number_at n a (suc at) ≡ number_at n b (suc at) = Prim.omega arith in
    let next : at + suc k ≡ suc at + k = Prim.omega arith in
    ap (λ i. get_or a i 0) next ∙ same_bytes n a b (suc at) k small_a small_b rest (Prim.omega arith) ∙ ap (λ i. get_or b i 0) (sym next)

-- runs whose eight words are equal have the same 64 bytes
pub same_words : (a b : List ℕ) (at : ℕ) → ((j : ℕ) → get_or a j 0 < 256) → ((j : ℕ) → get_or b j 0 < 256) →
    ((j : ℕ) → j < 8 → get_or (eight_words a at) j 0 ≡ get_or (eight_words b at) j 0) → (i : ℕ) → at ≤ i → i < at + 64 → get_or a i 0 ≡ get_or b i 0
same_words a b at small_a small_b same i from below =
    let j : ℕ = (i - at) / 8 in
    let lt : j < 8 = Prim.omega arith in
    let word : number_at 8 a (at + 8 * j) ≡ number_at 8 b (at + 8 * j) = sym (word_is a at j lt) ∙ same j lt ∙ word_is b at j lt in
    let place : at + 8 * j + (i - at) % 8 ≡ i = Prim.omega arith in
    ap (λ i. get_or a i 0) (sym place) ∙ same_bytes 8 a b (at + 8 * j) ((i - at) % 8) small_a small_b word (Prim.omega arith) ∙ ap (λ i. get_or b i 0) place
