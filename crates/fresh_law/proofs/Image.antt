-- Which bytes of a new container are which block.
use Rattle.std.proofs.Common.{arith, ◌≡◌, ℕ, zero, suc, ◌+◌, ◌-◌, ◌*◌, ◌<◌, Bool, true, false, ◌==◌, List, [], ◌∷◌, ◌++◌, length, take, drop, refl, ap, sym, ◌∙◌, if◌then◌else◌}
use Rattle.std.specs.Prelude.{replicate}
use Rattle.std.specs.List.{flat_map, range_with_len}
use Rattle.std.proofs.lemmas.List.{length-append, length-replicate, take_at, drop_at, drop-drop}
use Rattle.apfs_model.specs.Blocks.{block_of}
use Rattle.img_format.specs.declared.spec.Spec.{Spec}
use Rattle.img_format.specs.Tables.{size}
use Rattle.img_format.specs.Blocks.{super, checkpoint_map, space_manager, reaper, pool_queue, main_queue, object_map, map_tree, pool_bitmap, chunk_info, chunk_bitmap, volume, files, extents, snapshots}
use Rattle.img_format.specs.Fresh.{block}
use Rattle.fresh_law.specs.Site.{block_at}

-- pieces of one length, one after another
pub pieces-length : (f : ℕ → List ℕ) → ((k : ℕ) → length (f k) ≡ size) → (n a : ℕ) → length (flat_map f (range_with_len a n)) ≡ size * n
pieces-length f long zero a = refl
pieces-length f long (suc n) a =
    length-append (f a) (flat_map f (range_with_len (a + 1) n)) ∙ omega (arith, long a, pieces-length f long n (a + 1))

-- the bytes from a piece's beginning on, so many as a piece has, are the piece
pub piece-at : (f : ℕ → List ℕ) → ((k : ℕ) → length (f k) ≡ size) → (n a k : ℕ) → k < n → take size (drop (size * k) (flat_map f (range_with_len a n))) ≡ f (a + k)
piece-at f long zero a k h = absurd (omega (arith, h))
piece-at f long (suc n) a zero h =
    take_at (f a) (flat_map f (range_with_len (a + 1) n)) size (long a) ∙ ap f (omega arith)
piece-at f long (suc n) a (suc k) h =
    let rest : List ℕ = flat_map f (range_with_len (a + 1) n) in
    let far : size * suc k ≡ size + size * k = omega arith in
    ap (λ m. take size (drop m (f a ++ rest))) far
    ∙ ap (λ (bs : List ℕ). take size bs) (sym (drop-drop (size * k) size (f a ++ rest)))
    ∙ ap (λ (bs : List ℕ). take size (drop (size * k) bs)) (drop_at (f a) rest size (long a))
    ∙ piece-at f long n (a + 1) k (omega (arith, h))
    ∙ ap f (omega arith)

-- a block of an image that is made of pieces
pub block-by : (f : ℕ → List ℕ) → ((k : ℕ) → length (f k) ≡ size) → (n k : ℕ) → k < n → block_at (flat_map f (range_with_len 0 n)) k ≡ f k
unfolding block_of
block-by f long n k h =
    let same : (size * k + size) - size * k ≡ size = omega arith in
    ap (λ m. take m (drop (size * k) (flat_map f (range_with_len 0 n)))) same
    ∙ piece-at f long n 0 k h
    ∙ ap f (omega arith)

-- ---- the blocks that aren't zeros, as a list
abbrev pub Row : Type 0
Row = ℕ × List ℕ

abbrev pub rows : Spec → List Row
rows spec =
    (0, super spec)
    ∷ (1, checkpoint_map)
    ∷ (2, super spec)
    ∷ (9, space_manager spec)
    ∷ (10, reaper)
    ∷ (11, pool_queue)
    ∷ (12, main_queue)
    ∷ (25, object_map 25 26)
    ∷ (26, map_tree 26 1026 51)
    ∷ (27, pool_bitmap)
    ∷ (43, chunk_info spec)
    ∷ (44, chunk_bitmap)
    ∷ (51, volume spec)
    ∷ (52, object_map 52 53)
    ∷ (53, map_tree 53 1028 54)
    ∷ (54, files)
    ∷ (55, extents)
    ∷ (56, snapshots)
    ∷ []

-- the bytes of a block in such a list, zeros where it isn't there
abbrev in_rows : List Row → ℕ → List ℕ
in_rows [] k = replicate size 0
in_rows (row ∷ rows) k = if k == row.0 then row.1 else in_rows rows k

block-listed : (spec : Spec) (k : ℕ) → block spec k ≡ in_rows (rows spec) k
unfolding block
block-listed spec k = refl

-- each of them is as long as a block
abbrev pub AreLong : List Row → Type 0
AreLong [] = Unit {0}
AreLong (row ∷ rows) = (length row.1 ≡ size) × AreLong rows

chosen : (b : Bool) (x y : List ℕ) → length x ≡ size → length y ≡ size → length (if b then x else y) ≡ size
chosen true x y p q = p
chosen false x y p q = q

rows-length : (rows : List Row) (k : ℕ) → AreLong rows → length (in_rows rows k) ≡ size
rows-length [] k all = length-replicate {A = ℕ} size 0
rows-length (row ∷ rows) k all = chosen (k == row.0) row.1 (in_rows rows k) all.0 (rows-length rows k all.1)

pub block-length : (spec : Spec) (k : ℕ) → AreLong (rows spec) → length (block spec k) ≡ size
block-length spec k all = ap length (block-listed spec k) ∙ rows-length (rows spec) k all
