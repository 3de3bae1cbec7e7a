-- The words of an object, part by part.
use Rattle.std.proofs.Common.{◌≡◌, ℕ, zero, suc, ◌+◌, ◌-◌, ◌*◌, ◌/◌, ◌%◌, ◌≤◌, ◌<◌, true, List, [], ◌∷◌, ◌++◌, length, get_or, map, sum, refl, ap, sym, ◌∙◌, arith, length-append, append-nil}
use Rattle.std.specs.List.{range_with_len, flat_map}
use Rattle.std.proofs.lemmas.Grind.{common_steps}
use Rattle.std.proofs.lemmas.List.{get_or_append_left, get_or-append-add}
use Rattle.std.proofs.lemmas.List.Sums.{sum_by_push}
use Rattle.std.proofs.lemmas.List.Concat.{flat_map-cons}
use Rattle.std.proofs.Math.Nat.{add-mod-mod, mod-add-mod}
use Rattle.apfs_model.specs.Bytes.{number_at, u32_at, u64_at}
use Rattle.apfs_model.specs.Blocks.{block_of}
use Rattle.apfs_model.specs.Sum.{weighted}
use Rattle.obj_base.proofs.Lanes.{words_more}
use Rattle.obj_base.proofs.Sums.{weighted_push}
use Rattle.nx_ring.specs.declared.areas.Areas.{Areas}
use Rattle.nx_ring.specs.declared.mappings.Mapping.{Mapping}
use Rattle.obj_base.specs.BlockSize.{is_accepted}
use Rattle.nx_ring.specs.Objects.{mapped_part, data_block, is_placed, object_blocks}
use Rattle.nx_ring.specs.Sums.{words_at, words_after}

same_rest : (x y a b m : ℕ) → x % m ≡ a % m → y % m ≡ b % m → (x + y) % m ≡ (a + b) % m
same_rest x y a b m p q =
    sym (mod-add-mod x m y) ∙ ap (λ s. (s + y) % m) p ∙ mod-add-mod a m y ∙ sym (add-mod-mod a y m) ∙ ap (λ s. (a + s) % m) q ∙ add-mod-mod a b m

-- one more word, as remainders of m
pub plain_next : (ws : List ℕ) (w m plain : ℕ) → plain % m ≡ sum ws % m → (plain + w) % m ≡ sum (ws ++ w ∷ []) % m
plain_next ws w m plain e = rw (sum_by_push (λ x. x) ws w) (same_rest plain w (sum ws) w m e refl)

pub weighted_next : (ws : List ℕ) (w m plain heavy : ℕ) → plain % m ≡ sum (ws ++ w ∷ []) % m → heavy % m ≡ weighted ws % m → (heavy + plain) % m ≡ weighted (ws ++ w ∷ []) % m
weighted_next ws w m plain heavy e f = same_rest heavy plain (weighted ws) (sum (ws ++ w ∷ [])) m f e ∙ ap (λ s. s % m) (sym (weighted_push ws w))

-- a number in the first or in the second of two parts
number_left : (n : ℕ) (xs ys : List ℕ) (at : ℕ) → at + n ≤ length xs → number_at n (xs ++ ys) at ≡ number_at n xs at
number_left zero xs ys at low = refl
number_left (suc n) xs ys at low =
    let here : get_or (xs ++ ys) at 0 ≡ get_or xs at 0 = get_or_append_left xs ys 0 at (omega arith) in
    let rest : number_at n (xs ++ ys) (suc at) ≡ number_at n xs (suc at) = number_left n xs ys (suc at) (omega arith) in
    cc

number_right : (n : ℕ) (xs ys : List ℕ) (at j : ℕ) → length xs + at ≡ j → number_at n (xs ++ ys) j ≡ number_at n ys at
number_right zero xs ys at j e = refl
number_right (suc n) xs ys at j e =
    let here : get_or (xs ++ ys) j 0 ≡ get_or ys at 0 = ap (λ k. get_or (xs ++ ys) k 0) (sym e) ∙ get_or-append-add xs ys at 0 in
    let rest : number_at n (xs ++ ys) (suc j) ≡ number_at n ys (suc at) = number_right n xs ys (suc at) (suc j) (omega arith) in
    cc

pub u64_left : (xs ys : List ℕ) (at : ℕ) → at + 8 ≤ length xs → u64_at (xs ++ ys) at ≡ u64_at xs at
unfolding u64_at
u64_left xs ys at low = number_left 8 xs ys at low

pub u32_left : (xs ys : List ℕ) (at : ℕ) → at + 4 ≤ length xs → u32_at (xs ++ ys) at ≡ u32_at xs at
unfolding u32_at
u32_left xs ys at low = number_left 4 xs ys at low

u32_right : (xs ys : List ℕ) (at j : ℕ) → length xs + at ≡ j → u32_at (xs ++ ys) j ≡ u32_at ys at
unfolding u32_at
u32_right xs ys at j e = number_right 4 xs ys at j e

same_map : (f g : ℕ → ℕ) (a b n : ℕ) → ((k : ℕ) → k < n → f (a + k) ≡ g (b + k)) → map f (range_with_len a n) ≡ map g (range_with_len b n)
same_map f g a b zero h = refl
same_map f g a b (suc n) h =
    let head : f a ≡ g b = ap f (omega arith) ∙ (h 0 (omega arith) ∙ ap g (omega arith)) in
    let tail : map f (range_with_len (a + 1) n) ≡ map g (range_with_len (b + 1) n) = same_map f g (a + 1) (b + 1) n (λ k low. ap f (omega arith) ∙ (h (suc k) (omega arith) ∙ ap g (omega arith))) in
    cc

-- the words of an object with one more part
pub words_joined : (xs ys : List ℕ) → length xs % 4 ≡ 0 → 8 ≤ length xs → words_after (xs ++ ys) 8 ≡ words_after xs 8 ++ words_after ys 0
words_joined xs ys even long =
    let n = (length xs - 8) / 4 in
    let m = (length ys - 0) / 4 in
    let count : (length (xs ++ ys) - 8) / 4 ≡ n + m = omega (arith, length-append xs ys) in
    let left : words_at (xs ++ ys) 8 n ≡ words_at xs 8 n = same_map (λ i. u32_at (xs ++ ys) (8 + 4 * i)) (λ i. u32_at xs (8 + 4 * i)) 0 0 n (λ k low. u32_left xs ys (8 + 4 * (0 + k)) (omega arith)) in
    let right : map (λ i. u32_at (xs ++ ys) (8 + 4 * i)) (range_with_len (0 + n) m) ≡ words_at ys 0 m =
    same_map (λ i. u32_at (xs ++ ys) (8 + 4 * i)) (λ i. u32_at ys (0 + 4 * i)) (0 + n) 0 m (λ k low. u32_right xs ys (0 + 4 * (0 + k)) (8 + 4 * ((0 + n) + k)) (omega arith)) in
    ap (words_at (xs ++ ys) 8) count ∙ (words_more (xs ++ ys) 0 n m ∙ (ap (λ ws. ws ++ map (λ i. u32_at (xs ++ ys) (8 + 4 * i)) (range_with_len (0 + n) m)) left ∙ ap (λ ws. words_at xs 8 n ++ ws) right))

-- a mapped object begins with its first block
pub begins : (image : List ℕ) (areas : Areas) (m : Mapping) (n : ℕ) → 1 ≤ n → (rest : List ℕ) × (mapped_part image areas m n ≡ mapped_part image areas m 1 ++ rest)
begins image areas m zero some = absurd (omega arith)
begins image areas m (suc n) some =
    let f : ℕ → List ℕ = λ t. block_of areas.size image (data_block areas m.paddr t) in
    (flat_map f (range_with_len 1 n), flat_map-cons f 0 (range_with_len 1 n) ∙ ap (λ xs. xs ++ flat_map f (range_with_len 1 n)) (sym (flat_map-cons f 0 [] ∙ append-nil (f 0))))

pub first_part : (image : List ℕ) (areas : Areas) (m : Mapping) → mapped_part image areas m 1 ≡ block_of areas.size image (data_block areas m.paddr 0)
first_part image areas m = let f : ℕ → List ℕ = λ t. block_of areas.size image (data_block areas m.paddr t) in flat_map-cons f 0 [] ∙ append-nil (f 0)

-- so many accepted blocks, one or more, are whole words
pub even_blocks : (size t : ℕ) → is_accepted size ≡ true → 1 ≤ t → ((size * t) % 4 ≡ 0) × (8 ≤ size * t)
even_blocks size t accepted some = (Prim.grind (arith, common_steps, accepted, some), Prim.grind (arith, common_steps, accepted, some))

-- an accepted block is longer than a header
pub header_fits : (size : ℕ) → is_accepted size ≡ true → 36 ≤ size
header_fits size accepted = Prim.grind (arith, common_steps, accepted)

-- a placed mapping has a block
pub some_blocks : (areas : Areas) (m : Mapping) → is_placed areas m ≡ true → 1 ≤ object_blocks areas m
unfolding is_placed
some_blocks areas m e = Prim.grind (arith, common_steps, e)

-- a placed mapping starts in the data area
pub starts_inside : (areas : Areas) (m : Mapping) → is_placed areas m ≡ true → (areas.data_base ≤ m.paddr) × (m.paddr < areas.data_base + areas.data_blocks)
unfolding is_placed
starts_inside areas m e = (Prim.grind (arith, common_steps, e), Prim.grind (arith, common_steps, e))

-- a placed mapping has a size of whole blocks
pub whole_blocks : (areas : Areas) (m : Mapping) → is_placed areas m ≡ true → areas.size * object_blocks areas m ≡ m.size
unfolding is_placed
whole_blocks areas m e = Prim.grind (arith, common_steps, e)
