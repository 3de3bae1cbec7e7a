-- The bytes of a part of a stream: those of the image from a place on, or zeros.
use Rattle.std.proofs.Common.{◌≡◌, ℕ, zero, suc, ◌+◌, ◌-◌, ◌*◌, ◌/◌, ◌%◌, ◌<◌, ◌≤◌, true, false, cond, List, ◌∷◌, ◌++◌, length, map, take, drop, get_or, Option, Some, None, refl, ap, sym, ◌∙◌, arith}
use Rattle.std.specs.Prelude.{replicate, slice_index}
use Rattle.std.specs.List.{range_with_len}
use Rattle.std.proofs.Math.Seq.{drop-cons}
use Rattle.std.proofs.lemmas.List.{get_or-take, get_or-drop}
use Rattle.apfs_model.specs.Blocks.{block_of}
use Rattle.fs_record.specs.StreamExtents.{is_hole}
use Rattle.fs_record.specs.declared.extents.FileExt.{FileExt}
use Rattle.file_extent.specs.Streams.{extent_over, byte_in, byte_by, byte_of, bytes_from}
use Rattle.file_extent.specs.Laid.{IsPart}

-- numbers that are those of a list from a place on
map-take : (f : ℕ → ℕ) (xs : List ℕ) (i at n : ℕ) → at + n ≤ length xs → ((j k : ℕ) → i ≤ j → j < i + n → k + i ≡ at + j → f j ≡ get_or xs k 0) → map f (range_with_len i n) ≡ take n (drop at xs)
map-take f xs i at zero inside same = refl
map-take f xs i at (suc n) inside same =
    let here : f i ≡ get_or xs at 0 = same i at (omega arith) (omega arith) refl in
    let rest : map f (range_with_len (i + 1) n) ≡ take n (drop (suc at) xs) = map-take f xs (i + 1) (suc at) n (omega arith) (λ j k from to e. same j k (omega arith) (omega arith) (omega arith)) in
    let whole : drop at xs ≡ get_or xs at 0 ∷ drop (suc at) xs = drop-cons xs at 0 (omega arith) in
    ap (λ x. x ∷ map f (range_with_len (i + 1) n)) here ∙ ap (λ ys. get_or xs at 0 ∷ ys) rest ∙ sym (ap (take (suc n)) whole)

-- numbers that are all 0
map-zeros : (f : ℕ → ℕ) (i n : ℕ) → ((j : ℕ) → i ≤ j → j < i + n → f j ≡ 0) → map f (range_with_len i n) ≡ replicate n 0
map-zeros f i zero same = refl
map-zeros f i (suc n) same =
    ap (λ x. x ∷ map f (range_with_len (i + 1) n)) (same i (omega arith) (omega arith))
    ∙ ap (λ ys. 0 ∷ ys) (map-zeros f (i + 1) n (λ j from to. same j (omega arith) (omega arith)))

-- one range after another
map-more : {X : Type 0} (f : ℕ → X) (i n m j k : ℕ) → j ≡ i + n → k ≡ n + m → map f (range_with_len i n) ++ map f (range_with_len j m) ≡ map f (range_with_len i k)
map-more f i zero m j k follows both =
    ap (λ a. map f (range_with_len a m)) (let e : j ≡ i = omega arith in e) ∙ ap (λ b. map f (range_with_len i b)) (let e : m ≡ k = omega arith in e)
map-more f i (suc n) m j zero follows both = absurd (omega arith)
map-more f i (suc n) m j (suc k) follows both = ap (λ ys. f i ∷ ys) (map-more f (i + 1) n m j k (omega arith) (omega arith))

pub bytes-more : (block_size : ℕ) (image : List ℕ) (es : List FileExt) (i n m j k : ℕ) → j ≡ i + n → k ≡ n + m → bytes_from block_size image es i n ++ bytes_from block_size image es j m ≡ bytes_from block_size image es i k
bytes-more block_size image es i n m j k follows both = map-more (byte_of block_size image es) i n m j k follows both

-- a byte of an extent that is no hole is one of the image
place-of : (block_size block n : ℕ) → 0 < block_size → block_size * (block + n / block_size) + n % block_size ≡ block_size * block + n
place-of block_size block n some =
    let split : block_size * (n / block_size) + n % block_size ≡ n = omega arith in
    let spread : block_size * (block + n / block_size) ≡ block_size * block + block_size * (n / block_size) = grind arith in
    omega (arith, split, spread)

byte-image : (block_size : ℕ) (image : List ℕ) (e : FileExt) (n : ℕ) → 0 < block_size → is_hole e ≡ false → byte_in block_size image e n ≡ get_or image (block_size * e.block + n) 0
unfolding byte_in block_of
byte-image block_size image e n some solid =
    let first : ℕ = block_size * (e.block + n / block_size) in
    let low : n % block_size < block_size = omega arith in
    let wide : (first + block_size) - first ≡ block_size = omega arith in
    ap (λ b. cond b 0 (get_or (take ((first + block_size) - first) (drop first image)) (n % block_size) 0)) solid
    ∙ ap (λ w. get_or (take w (drop first image)) (n % block_size) 0) wide
    ∙ get_or-take block_size (drop first image) (n % block_size) 0 low
    ∙ get_or-drop first image (n % block_size) 0
    ∙ ap (λ a. get_or image a 0) (place-of block_size e.block n some)

byte-hole : (block_size : ℕ) (image : List ℕ) (e : FileExt) (n : ℕ) → is_hole e ≡ true → byte_in block_size image e n ≡ 0
unfolding byte_in
byte-hole block_size image e n hole = ap (λ b. cond b 0 (slice_index (block_of block_size image (e.block + n / block_size)) (n % block_size))) hole

byte-over : (block_size : ℕ) (image : List ℕ) (es : List FileExt) (i : ℕ) (o : Option FileExt) → extent_over es i ≡ o → byte_of block_size image es i ≡ byte_by block_size image i o
unfolding byte_of
byte-over block_size image es i o same = ap (byte_by block_size image i) same

-- the bytes of a part that an extent covers, from a place of the image on
pub bytes-solid : (block_size : ℕ) (image : List ℕ) (es : List FileExt) (i n at left : ℕ) (e : FileExt) → 0 < block_size → IsPart es i (Some e) left → is_hole e ≡ false → e.logical ≤ i → n ≤ left → at ≡ block_size * e.block + (i - e.logical) → at + n ≤ length image →
    bytes_from block_size image es i n ≡ take n (drop at image)
bytes-solid block_size image es i n at left e some part solid low few same inside =
    map-take (byte_of block_size image es) image i at n inside (λ j k from to eq.
    byte-over block_size image es j (Some e) (part.same j from (omega arith))
    ∙ byte-image block_size image e (j - e.logical) some solid
    ∙ ap (λ a. get_or image a 0) (let q : block_size * e.block + (j - e.logical) ≡ k = omega arith in q))

-- the bytes of a hole, and of a part that none covers
pub bytes-hole : (block_size : ℕ) (image : List ℕ) (es : List FileExt) (i n left : ℕ) (e : FileExt) → IsPart es i (Some e) left → is_hole e ≡ true → n ≤ left → bytes_from block_size image es i n ≡ replicate n 0
bytes-hole block_size image es i n left e part hole few =
    map-zeros (byte_of block_size image es) i n (λ j from to. byte-over block_size image es j (Some e) (part.same j from (omega arith)) ∙ byte-hole block_size image e (j - e.logical) hole)

pub bytes-none : (block_size : ℕ) (image : List ℕ) (es : List FileExt) (i n left : ℕ) → IsPart es i None left → n ≤ left → bytes_from block_size image es i n ≡ replicate n 0
bytes-none block_size image es i n left part few =
    map-zeros (byte_of block_size image es) i n (λ j from to. byte-over block_size image es j None (part.same j from (omega arith)))
