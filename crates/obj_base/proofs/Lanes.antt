-- Eight words a step.
use Rattle.std.proofs.Common.{◌≡◌, ℕ, zero, suc, ◌+◌, ◌*◌, ◌<◌, ◌≤◌, ◌^◌, List, [], ◌∷◌, ◌++◌, length, get_or, map, sum, refl, sym, ap, ◌∙◌, arith, length-append, w64, Fits}
use Rattle.std.specs.List.{range_with_len}
use Rattle.std.specs.Simd.Lanes.{Each1, Each2, chunk, zip2, sum_l, products, number_l, digits_l}
use Rattle.std.proofs.Math.Seq.{drop-cons}
use Rattle.std.proofs.lemmas.Simd.{Each1-weaker, sum-zip2, length-zip2, sum_bound, get_or-chunk, length-chunk, get_or_wider}
use Rattle.std.proofs.lemmas.List.Sums.{sum_by-cons, sum_by-append}
use Rattle.apfs_model.specs.Bytes.{number_at, u32_at}
use Rattle.apfs_model.specs.Sum.{weighted}
use Rattle.obj_base.specs.Words.{words_from}

-- the number in a run of bytes
number_of_chunk : (n : ℕ) (bytes : List ℕ) (at : ℕ) → at + n ≤ length bytes → number_l 256 (chunk at n bytes) ≡ number_at n bytes at
number_of_chunk zero bytes at le = refl
number_of_chunk (suc n) bytes at le =
    rw (drop-cons bytes at 0 (omega arith)) (ap (λ rest. get_or bytes at 0 + 256 * rest) (number_of_chunk n bytes (suc at) (omega arith)))

-- a number inside a run of bytes
number_in_chunk : (n : ℕ) (bytes : List ℕ) (at len i : ℕ) → i + n ≤ len → number_at n (chunk at len bytes) i ≡ number_at n bytes (at + i)
number_in_chunk zero bytes at len i le = refl
number_in_chunk (suc n) bytes at len i le =
    let here : get_or (chunk at len bytes) i 0 ≡ get_or bytes (at + i) 0 = get_or-chunk at len bytes i 0 (omega arith) in
    let rest : number_at n (chunk at len bytes) (suc i) ≡ number_at n bytes (suc (at + i)) = number_in_chunk n bytes at len (suc i) (omega arith) ∙ ap (number_at n bytes) (omega arith) in
    cc

lane_is : (bytes : List ℕ) (at j : ℕ) → at + 32 ≤ length bytes → Each1 (λ x. x < 256) (chunk at 32 bytes) → j < 8 →
    get_or (digits_l 4294967296 8 (number_l 256 (chunk at 32 bytes))) j 0 ≡ u32_at bytes (at + 4 * j)
unfolding u32_at
lane_is bytes at j le small lt =
    let long = length-chunk at 32 bytes le in
    get_or_wider 256 4 4294967296 8 (chunk at 32 bytes) j refl small lt
    ∙ number_of_chunk 4 (chunk at 32 bytes) (4 * j) (omega arith)
    ∙ number_in_chunk 4 bytes at 32 (4 * j) (omega arith)

-- a list by its items
items_are : (f : ℕ → ℕ) (xs : List ℕ) (a n : ℕ) → length xs ≡ n → ((k : ℕ) → k < n → get_or xs k 0 ≡ f (a + k)) → xs ≡ map f (range_with_len a n)
items_are f [] a zero e h = refl
items_are f [] a (suc n) e h = absurd (omega arith)
items_are f (x ∷ xs) a zero e h = absurd (omega arith)
items_are f (x ∷ xs) a (suc n) e h =
    let head : x ≡ f a = h 0 (omega arith) ∙ ap f (omega arith) in
    let tail : xs ≡ map f (range_with_len (a + 1) n) = items_are f xs (a + 1) n (omega arith) (λ k lt. h (suc k) (omega arith) ∙ ap f (omega arith)) in
    cc

-- eight lanes of 32 bits from 32 bytes are eight words
pub eight_are : (bytes : List ℕ) (first : ℕ) → 8 + 4 * (first + 8) ≤ length bytes → Each1 (λ x. x < 256) (chunk (8 + 4 * first) 32 bytes) →
    digits_l 4294967296 8 (number_l 256 (chunk (8 + 4 * first) 32 bytes)) ≡ words_from bytes first 8
eight_are bytes first le small =
    items_are (λ i. u32_at bytes (8 + 4 * i)) (digits_l 4294967296 8 (number_l 256 (chunk (8 + 4 * first) 32 bytes))) first 8 refl
    (λ k lt. lane_is bytes (8 + 4 * first) k (omega arith) small lt ∙ ap (u32_at bytes) (omega arith))

-- the words of two runs, one after the other
range_more : (f : ℕ → ℕ) (a n m : ℕ) → map f (range_with_len a (n + m)) ≡ map f (range_with_len a n) ++ map f (range_with_len (a + n) m)
range_more f a zero m =
    let none : 0 + m ≡ m = omega arith in
    let here : a + 0 ≡ a = omega arith in
    rw (none, here) refl
range_more f a (suc n) m =
    let whole : map f (range_with_len (a + 1) (n + m)) ≡ map f (range_with_len (a + 1) n) ++ map f (range_with_len (a + suc n) m) =
    range_more f (a + 1) n m ∙ ap (λ k. map f (range_with_len (a + 1) n) ++ map f (range_with_len k m)) (omega arith) in
    let longer : suc n + m ≡ suc (n + m) = omega arith in
    rw longer (ap (λ l. f a ∷ l) whole)

pub words_more : (bytes : List ℕ) (a n m : ℕ) → words_from bytes a (n + m) ≡ words_from bytes a n ++ words_from bytes (a + n) m
words_more bytes a n m = range_more (λ i. u32_at bytes (8 + 4 * i)) a n m

arrange : (m n x wx wy sx : ℕ) → (m + n + 1) * x + (wx + n * sx + wy) ≡ ((m + 1) * x + wx) + n * (x + sx) + wy
arrange m n x wx wy sx = grind arith

pub weighted_append : (xs ys : List ℕ) → weighted (xs ++ ys) ≡ weighted xs + length ys * sum xs + weighted ys
weighted_append [] ys = grind arith
weighted_append (x ∷ xs) ys =
    ap (λ k. (k + 1) * x + weighted (xs ++ ys)) (length-append xs ys)
    ∙ ap (λ r. (length xs + length ys + 1) * x + r) (weighted_append xs ys)
    ∙ arrange (length xs) (length ys) x (weighted xs) (weighted ys) (sum xs)
    ∙ ap (λ s. ((length xs + 1) * x + weighted xs) + length ys * s + weighted ys) (sym (sum_by-cons (λ (n : ℕ). n) x xs))

pub sum_l_is : (xs : List ℕ) → sum_l xs ≡ sum xs
sum_l_is [] = refl
sum_l_is (x ∷ xs) =
    let rest = sum_l_is xs in
    let whole = sum_by-cons (λ (n : ℕ). n) x xs in
    omega arith

-- what eight lanes count too often
abbrev pub late : List ℕ → ℕ
late lanes = sum_l (products lanes (0 ∷ 1 ∷ 2 ∷ 3 ∷ 4 ∷ 5 ∷ 6 ∷ 7 ∷ []))

pub late_of_words : (bytes : List ℕ) (first : ℕ) → weighted (words_from bytes first 8) + late (words_from bytes first 8) ≡ 8 * sum_l (words_from bytes first 8)
late_of_words bytes first = omega arith

products_add : (xs ys zs : List ℕ) → length xs ≡ length ys → sum_l (products (zip2 (λ a b. a + b) xs ys) zs) ≡ sum_l (products xs zs) + sum_l (products ys zs)
products_add [] [] zs e = refl
products_add [] (y ∷ ys) zs e = absurd (omega arith)
products_add (x ∷ xs) [] zs e = absurd (omega arith)
products_add (x ∷ xs) (y ∷ ys) [] e = refl
products_add (x ∷ xs) (y ∷ ys) (z ∷ zs) e =
    let rest = products_add xs ys zs (omega arith) in
    grind arith

pub products_fit : (xs ys : List ℕ) → sum_l (products xs ys) < 2 ^ 64 → Each2 (λ a b. Fits w64 (a * b)) xs ys
products_fit [] ys lt = tt
products_fit (x ∷ xs) [] lt = tt
products_fit (x ∷ xs) (y ∷ ys) lt = (record { fits = omega arith }, products_fit xs ys (omega arith))

-- one step: the words so far, eight more, and the lanes
pub step_sums : (ws new plain heavy : List ℕ) → length plain ≡ 8 → length heavy ≡ 8 → length new ≡ 8 → weighted new + late new ≡ 8 * sum_l new →
    sum_l plain ≡ sum ws → 8 * sum_l heavy ≡ weighted ws + late plain →
    (sum_l (zip2 (λ a b. a + b) plain new) ≡ sum (ws ++ new))
    × (8 * sum_l (zip2 (λ a b. a + b) heavy (zip2 (λ a b. a + b) plain new)) ≡ weighted (ws ++ new) + late (zip2 (λ a b. a + b) plain new))
step_sums ws new plain heavy long_plain long_heavy long_new by_place plain_is heavy_is =
    let plain_more : sum_l (zip2 (λ a b. a + b) plain new) ≡ sum_l plain + sum_l new = sum-zip2 plain new (omega arith) in
    let long : length (zip2 (λ a b. a + b) plain new) ≡ length plain = length-zip2 (λ a b. a + b) plain new (omega arith) in
    let heavy_more : sum_l (zip2 (λ a b. a + b) heavy (zip2 (λ a b. a + b) plain new)) ≡ sum_l heavy + sum_l (zip2 (λ a b. a + b) plain new) = sum-zip2 heavy (zip2 (λ a b. a + b) plain new) (omega arith) in
    let late_more : late (zip2 (λ a b. a + b) plain new) ≡ late plain + late new = products_add plain new (0 ∷ 1 ∷ 2 ∷ 3 ∷ 4 ∷ 5 ∷ 6 ∷ 7 ∷ []) (omega arith) in
    let sum_more : sum (ws ++ new) ≡ sum ws + sum new = sum_by-append (λ (n : ℕ). n) ws new in
    let weighted_more : weighted (ws ++ new) ≡ weighted ws + 8 * sum ws + weighted new = weighted_append ws new ∙ ap (λ n. weighted ws + n * sum ws + weighted new) long_new in
    let same = sum_l_is new in
    (omega arith, omega arith)

-- the sum of eight numbers of 32 bits
pub eight_small : (new : List ℕ) → length new ≡ 8 → Each1 (λ word. word < 2 ^ 32) new → sum_l new ≤ 34359738360
eight_small new long small =
    let bound = sum_bound 4294967295 new (Each1-weaker (λ word. word < 2 ^ 32) (λ word. word ≤ 4294967295) (λ word lt. omega arith) new small) in
    omega arith
