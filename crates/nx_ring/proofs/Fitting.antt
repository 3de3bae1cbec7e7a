-- Blocks in an image.
use Rattle.std.proofs.Common.{◌≡◌, ℕ, ◌+◌, ◌*◌, ◌/◌, ◌≤◌, ◌<◌, arith}
use Rattle.std.proofs.Common.{List, true, false, Ok, length, ap, sym, ◌∙◌}
use Rattle.std.proofs.Common.{◌^◌, ◌%◌}
use Rattle.apfs_model.specs.Blocks.{is_multiple}
use Rattle.nx_block.specs.Read.{read_of}
use Rattle.nx_block.proofs.Laws.{read_means}
use Rattle.std.proofs.Math.Nat.{mul-div-le, mul-le-mul_left}
use Rattle.std.proofs.lemmas.Grind.{common_steps}
use Rattle.obj_base.specs.BlockSize.{is_accepted}
use Rattle.nx_block.specs.Super.{block_size_of, block_count_of, desc_base_of, desc_blocks_of, data_base_of, data_blocks_of}
use Rattle.nx_ring.specs.Zero.{has_areas, is_area, is_short, is_contiguous, areas_of}
use Rattle.nx_ring.specs.Reading.{Fits}

-- a block below the end of a range that fits, fits
pub block_fits : (size a b len : ℕ) → a < b → size * b ≤ len → size * a + size ≤ len
block_fits size a b len low fits =
    let more : size * (a + 1) ≤ size * b = mul-le-mul_left size (omega arith) in
    grind arith

-- the first blocks of an image, up to its last whole one, fit
pub blocks_fit : (size n count len : ℕ) → n ≤ count → count ≤ len / size → size * n ≤ len
blocks_fit size n count len low fits =
    let more : size * n ≤ size * (len / size) = mul-le-mul_left size (omega arith) in
    let whole : size * (len / size) ≤ len = mul-div-le len size in
    omega arith

-- an area that fits ends below 2 ^ 64
pub small_area : (size n len : ℕ) → is_accepted size ≡ true → size * n ≤ len → len < 2 ^ 64 → n < 2 ^ 64
small_area size n len accepted fits small = Prim.grind (arith, common_steps, accepted, fits, small)

-- the areas of a whole superblock fit in an image that has the container's blocks
pub areas_fit : (len : ℕ) (zero : List ℕ) → len < 2 ^ 64 → is_accepted (block_size_of zero) ≡ true → has_areas zero ≡ true → is_short len zero ≡ false → is_contiguous zero ≡ true → Fits (areas_of zero) len
unfolding has_areas is_area is_short is_contiguous areas_of
areas_fit len zero low size inside short apart =
    let desc : block_size_of zero * (desc_base_of zero + desc_blocks_of zero) ≤ len = blocks_fit (block_size_of zero) (desc_base_of zero + desc_blocks_of zero) (block_count_of zero) len (Prim.grind (arith, common_steps, inside, apart)) (Prim.grind (arith, common_steps, short)) in
    let area : block_size_of zero * (data_base_of zero + data_blocks_of zero) ≤ len = blocks_fit (block_size_of zero) (data_base_of zero + data_blocks_of zero) (block_count_of zero) len (Prim.grind (arith, common_steps, inside, apart)) (Prim.grind (arith, common_steps, short)) in
    record {
      accepted = size;
      some_desc = Prim.grind (arith, common_steps, inside, apart);
      some_data = Prim.grind (arith, common_steps, inside, apart);
      few_desc = Prim.grind (arith, common_steps, apart);
      few_data = Prim.grind (arith, common_steps, apart);
      small_desc = small_area (block_size_of zero) (desc_base_of zero + desc_blocks_of zero) len size desc low;
      small_data = small_area (block_size_of zero) (data_base_of zero + data_blocks_of zero) len size area low;
      desc = desc;
      «data» = area;
    }

-- an accepted size is long enough for a superblock, and a multiple of 4
accepted_long : (n : ℕ) → is_accepted n ≡ true → (n % 4 ≡ 0) × (4096 ≤ n)
accepted_long n e = (Prim.grind (arith, common_steps, e), Prim.grind (arith, common_steps, e))

-- a superblock that was read is long enough to be read again
pub read_long : (bytes : List ℕ) → read_of bytes ≡ Ok bytes → (length bytes % 4 ≡ 0) × (4096 ≤ length bytes)
read_long bytes e =
    let means = read_means bytes bytes e in
    accepted_long (length bytes) (ap is_accepted (sym means.2) ∙ means.1)

-- the block size of a superblock that was read
pub read_size : (bytes zero : List ℕ) → read_of bytes ≡ Ok zero → is_accepted (block_size_of zero) ≡ true
read_size bytes zero e =
    let means = read_means bytes zero e in
    ap (λ b. is_accepted (block_size_of b)) means.0 ∙ means.1

-- a whole number of accepted blocks, one or more, is a length that has a sum
pub whole_object : (size n : ℕ) → is_accepted size ≡ true → 1 ≤ n / size → is_multiple n size ≡ true → (n % 4 ≡ 0) × (4096 ≤ n)
whole_object size n accepted some whole = (Prim.grind (arith, common_steps, accepted, some, whole), Prim.grind (arith, common_steps, accepted, some, whole))
