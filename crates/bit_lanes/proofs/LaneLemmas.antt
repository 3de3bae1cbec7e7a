-- Lanes of bytes, 64 at a time.
use Rattle.std.proofs.Common.{◌≡◌, ℕ, zero, suc, ◌+◌, ◌-◌, ◌%◌, ◌<◌, ◌≤◌, ◌^◌, Bool, true, false, not, cond, eqb, List, [], ◌∷◌, length, get_or, map, replicate, w8, refl, sym, ap, ap₂, ◌∙◌, arith, inl, inr}
use Rattle.std.specs.Prelude.{bit_and, bit_or}
use Rattle.std.specs.Simd.Lanes.{chunk, zip2, put_chunk, mask_l, top}
use Rattle.std.proofs.lemmas.Bool.{cases_eq, ne_eqb}
use Rattle.std.proofs.lemmas.Simd.{length-chunk, length-zip2, get_or-chunk, get_or-zip2, get_or-replicate, get_or-put_chunk_at, tops_compared, mask_l-mod, length-replicate}
use mir.Syntax.{Width}
use mir.Val.{bits, hbits}

-- 1 where two numbers differ
differ_bit : ℕ → ℕ → ℕ
differ_bit x y = cond (not (eqb x y)) 1 0

no_bit_equal : (x y : ℕ) → differ_bit x y ≡ 0 → x ≡ y
unfolding differ_bit
no_bit_equal x y none =
    elim (cases_eq x y) [
      | inl same ↦ same
      | inr apart ↦
          absurd (let one : differ_bit x y ≡ 1 = ap (λ t. cond (not t) 1 0) (ne_eqb x y apart) in Prim.omega arith)
    ]

none_apart : (xs ys : List ℕ) → length xs ≡ length ys → mask_l (zip2 (λ x y. not (eqb x y)) xs ys) ≡ 0 → (i : ℕ) → get_or xs i 0 ≡ get_or ys i 0
unfolding differ_bit
none_apart [] [] e none i = refl
none_apart [] (y ∷ ys) e none i = absurd (Prim.omega arith)
none_apart (x ∷ xs) [] e none i = absurd (Prim.omega arith)
none_apart (x ∷ xs) (y ∷ ys) e none zero = no_bit_equal x y (Prim.omega arith)
none_apart (x ∷ xs) (y ∷ ys) e none (suc i) = none_apart xs ys (Prim.omega arith) (Prim.omega arith) i

-- lanes are equal where the mask of those that differ is empty
pub same_lanes : (w : Width) (xs ys : List ℕ) → length xs ≡ length ys → length xs ≤ 64 →
    mask_l (map (top (hbits w)) (zip2 (λ x y. cond (not (eqb x y)) (2 ^ bits w - 1) 0) xs ys)) % 2 ^ 64 ≡ 0 → (i : ℕ) → get_or xs i 0 ≡ get_or ys i 0
same_lanes w xs ys same short none =
    let t : ℕ → ℕ → Bool = λ (x y : ℕ). not (eqb x y) in
    none_apart xs ys same
    (sym (mask_l-mod (zip2 t xs ys) 64 (Prim.omega (arith, length-zip2 t xs ys same))) ∙ ap (λ ms. mask_l ms % 2 ^ 64) (sym (tops_compared w t xs ys)) ∙ none)

no_mask : (n : ℕ) → not (eqb n 0) ≡ false → n ≡ 0
no_mask n none =
    elim (cases_eq n 0) [ inl same ↦ same | inr some ↦ absurd (let on : not (eqb n 0) ≡ true = ap not (ne_eqb n 0 some) in Prim.cc) ]

-- 64 bytes of two runs have no bit in both where no lane of their x & y differs from 0
pub apart_lanes : (a b : List ℕ) (at : ℕ) → at + 64 ≤ length a → at + 64 ≤ length b →
    not (eqb (mask_l (map (top 7) (zip2 (λ x y. cond (not (eqb x y)) 255 0) (zip2 bit_and (chunk at 64 a) (chunk at 64 b)) (replicate 64 0))) % 18446744073709551616) 0) ≡ false →
    (i : ℕ) → at ≤ i → i < at + 64 → bit_and (get_or a i 0) (get_or b i 0) ≡ 0
apart_lanes a b at in_a in_b none i from below =
    let x = chunk at 64 a in
    let y = chunk at 64 b in
    let j : ℕ = i - at in
    let here : at + j ≡ i = Prim.omega arith in
    let long_x : length x ≡ 64 = length-chunk at 64 a in_a in
    let long_y : length y ≡ 64 = length-chunk at 64 b in_b in
    let long : length (zip2 bit_and x y) ≡ 64 = length-zip2 bit_and x y (Prim.omega arith) ∙ long_x in
    let same = same_lanes w8 (zip2 bit_and x y) (replicate 64 0) (long ∙ sym (length-replicate {A = ℕ} 64 0)) (Prim.omega arith) (no_mask _ none) j in
    ap₂ bit_and (ap (λ k. get_or a k 0) (sym here) ∙ sym (get_or-chunk at 64 a j 0 (Prim.omega arith))) (ap (λ k. get_or b k 0) (sym here) ∙ sym (get_or-chunk at 64 b j 0 (Prim.omega arith)))
    ∙ sym (get_or-zip2 bit_and x y j 0 0 0 (Prim.omega arith) (Prim.omega arith))
    ∙ same ∙ get_or-replicate 64 j 0 0 (Prim.omega arith)

-- 64 bytes joined
pub joined_lanes : (old from : List ℕ) (at : ℕ) → at + 64 ≤ length old → at + 64 ≤ length from → (i : ℕ) → at ≤ i → i < at + 64 →
    get_or (put_chunk at old (zip2 bit_or (chunk at 64 old) (chunk at 64 from))) i 0 ≡ bit_or (get_or old i 0) (get_or from i 0)
joined_lanes old from at in_old in_from i least below =
    let x = chunk at 64 old in
    let y = chunk at 64 from in
    let j : ℕ = i - at in
    let here : at + j ≡ i = Prim.omega arith in
    let long_x : length x ≡ 64 = length-chunk at 64 old in_old in
    let long_y : length y ≡ 64 = length-chunk at 64 from in_from in
    let long : length (zip2 bit_or x y) ≡ 64 = length-zip2 bit_or x y (Prim.omega arith) ∙ long_x in
    ap (λ k. get_or (put_chunk at old (zip2 bit_or x y)) k 0) (sym here)
    ∙ get_or-put_chunk_at at old (zip2 bit_or x y) j 0 (Prim.omega arith) (Prim.omega arith)
    ∙ get_or-zip2 bit_or x y j 0 0 0 (Prim.omega arith) (Prim.omega arith)
    ∙ ap₂ bit_or (get_or-chunk at 64 old j 0 (Prim.omega arith) ∙ ap (λ k. get_or old k 0) here) (get_or-chunk at 64 from j 0 (Prim.omega arith) ∙ ap (λ k. get_or from k 0) here)

-- the length of what is joined
pub length-joined : (old from : List ℕ) (at : ℕ) → at + 64 ≤ length old → at + 64 ≤ length from → length (zip2 bit_or (chunk at 64 old) (chunk at 64 from)) ≡ 64
length-joined old from at in_old in_from =
    let long_x : length (chunk at 64 old) ≡ 64 = length-chunk at 64 old in_old in
    let long_y : length (chunk at 64 from) ≡ 64 = length-chunk at 64 from in_from in
    length-zip2 bit_or (chunk at 64 old) (chunk at 64 from) (Prim.omega arith) ∙ long_x
