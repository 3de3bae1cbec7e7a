-- What a chunk-info block tells of its chunks, and where they stand among all.
use Rattle.std.specs.Prelude.{◌≡◌, ℕ, ◌+◌, ◌-◌, ◌*◌, ◌/◌, ◌%◌, ◌<◌, ◌≤◌, Bool, true, false, ◌&&◌, ◌||◌, nat_lt, List, [], ◌∷◌, ◌++◌, length, refl, slice_index_or}
use Rattle.std.proofs.Common.{arith, ap, sym, ◌∙◌, subst, inr, take, length-append}
use Rattle.std.specs.List.{sum_by}
use Rattle.std.proofs.lemmas.Nat.{div-mul-add}
use Rattle.std.proofs.lemmas.List.Sums.{sum-map, sum_by_more_le}
use Rattle.space_map.proofs.Shapes.{unit_start, mul-add-mod}
use Rattle.std.proofs.lemmas.List.FromFn.{map-range_with_len_more}
use Rattle.apfs_model.specs.Blocks.{block_of}
use Rattle.apfs_model.specs.Object.{cib_kind}
use Rattle.apfs_model.proofs.BoolTests.{both-true, from-below}
use Rattle.obj_base.specs.BlockSize.{is_accepted}
use Rattle.obj_base.specs.declared.site.Site.{Site}
use Rattle.blk_read.proofs.Sizes.{accepted_size}
use Rattle.space_map.specs.Fields.{cib_chunks_of, chunks_of}
use Rattle.space_map.specs.Geometry.{chunk_len, is_shaped, has_chunk_place}
use Rattle.space_map.specs.Blocks.{cib_block, is_info, is_cib_named}
use Rattle.space_map.specs.Chunks.{chunk_in, cib_block_for, chunk_at, is_told}
use Rattle.space_map.specs.Marks.{lacks_bitmap, free_sum}
use Rattle.space_map.specs.Tests.{share, is_in_pool}
use Rattle.space_map.specs.Stops.{MustBeInPool, is_bitmap_placed}
use Rattle.space_map.specs.Held.{first_chunks, IsTelling}
use Rattle.space_map.proofs.Places.{shape-from, chunk-place}
use Rattle.space_map.specs.declared.chunk.Chunk.{Chunk}

neither : (a b : Bool) → (a || b) ≡ false → (a ≡ false) × (b ≡ false)
neither true b e = let z : true ≡ false = e in absurd (let q : ⊥ = cc in q)
neither false b e = (refl, e)

-- a bitmap that isn't placed is there, and outside the pool
unplaced : (site : Site) (manager : List ℕ) (chunk : Chunk) → is_bitmap_placed site manager chunk ≡ false → (lacks_bitmap chunk ≡ false) × (is_in_pool site manager chunk.bitmap ≡ false)
unfolding is_bitmap_placed
unplaced site manager chunk e = neither (lacks_bitmap chunk) (is_in_pool site manager chunk.bitmap) e

-- a chunk that is told of, whose bitmap isn't placed, has its bitmap outside the pool
pub outside-pool : (image : List ℕ) (site : Site) (manager : List ℕ) (k : ℕ) (chunk : Chunk) → is_told image site manager k ≡ true → chunk ≡ chunk_at site.block_size image manager k → is_bitmap_placed site manager chunk ≡ false
    → MustBeInPool image site manager chunk.bitmap × (is_in_pool site manager chunk.bitmap ≡ false)
outside-pool image site manager k chunk told same wrong =
    let apart = unplaced site manager chunk wrong in
    (inr (record { chunk = k; told = told; some = subst (λ (c : Chunk). lacks_bitmap c ≡ false) same apart.0; same = ap (λ (c : Chunk). c.bitmap) same }), apart.1)

-- an entry lies in its chunk-info block
pub entry_fits : (site : Site) (manager : List ℕ) (i j : ℕ) → is_accepted site.block_size ≡ true → is_shaped site manager ≡ true → j < share (chunks_of manager) (cib_chunks_of manager) i → 40 + 32 * j + 32 ≤ site.block_size
entry_fits site manager i j accepted shaped low =
    let s = shape-from site manager shaped in
    let few : cib_chunks_of manager ≤ (site.block_size - 40) / 32 = s.few_chunks in
    let size : 4096 ≤ site.block_size = (accepted_size site.block_size accepted).0 in
    omega (arith, few, size, low)

-- a chunk of the container begins in it
pub chunk_start : (site : Site) (manager : List ℕ) (k : ℕ) → is_accepted site.block_size ≡ true → is_shaped site manager ≡ true → k < chunks_of manager → k * chunk_len site.block_size < site.blocks
chunk_start site manager k accepted shaped low =
    let s = shape-from site manager shaped in
    let size : 4096 ≤ site.block_size = (accepted_size site.block_size accepted).0 in
    unit_start site.blocks (chunk_len site.block_size) k (omega (arith, size)) (subst (λ n. k < n) s.chunks low)

-- the number of a chunk tells its block and its place in it
number-block : (n i j : ℕ) → j < n → (n * i + j) / n ≡ i
number-block n i j low = let same : n * i + j ≡ i * n + j = omega arith in ap (λ m. m / n) same ∙ div-mul-add i n j low

number-place : (n i j : ℕ) → j < n → (n * i + j) % n ≡ j
number-place n i j low = let same : n * i + j ≡ i * n + j = omega arith in ap (λ m. m % n) same ∙ mul-add-mod i n j low

-- the chunk at a place of a chunk-info block is the one of its number
pub chunk-here : (image : List ℕ) (site : Site) (manager cib : List ℕ) (i j : ℕ) → j < cib_chunks_of manager → cib ≡ block_of site.block_size image (cib_block site.block_size image manager i)
    → chunk_in cib j ≡ chunk_at site.block_size image manager (cib_chunks_of manager * i + j)
unfolding chunk_at
chunk-here image site manager cib i j low same =
    ap (λ bytes. chunk_in bytes j) same
    ∙ (ap (λ b. chunk_in (block_of site.block_size image (cib_block site.block_size image manager b)) j) (sym (number-block (cib_chunks_of manager) i j low))
    ∙ ap (λ p. chunk_in (block_of site.block_size image (cib_block_for site.block_size image manager (cib_chunks_of manager * i + j))) p) (sym (number-place (cib_chunks_of manager) i j low)))

-- it is told of
pub told-here : (image : List ℕ) (site : Site) (manager : List ℕ) (i j : ℕ) → is_shaped site manager ≡ true → j < share (chunks_of manager) (cib_chunks_of manager) i → IsTelling image site manager i
    → is_told image site manager (cib_chunks_of manager * i + j) ≡ true
unfolding is_told
told-here image site manager i j shaped low telling =
    let k = cib_chunks_of manager * i + j in
    let few : j < cib_chunks_of manager = omega (arith, low) in
    let below : k < chunks_of manager = omega (arith, low) in
    let at : k / cib_chunks_of manager ≡ i = number-block (cib_chunks_of manager) i j few in
    both-true (nat_lt k (chunks_of manager) && has_chunk_place site.block_size manager k) _
    (both-true (nat_lt k (chunks_of manager)) _ (from-below k (chunks_of manager) below) (chunk-place site manager (shape-from site manager shaped) k))
    (both-true (is_cib_named image site manager (k / cib_chunks_of manager)) _
    (subst (λ b. is_cib_named image site manager b ≡ true) (sym at) telling.named)
    (subst (λ b. is_info image site cib_kind (cib_block site.block_size image manager b) ≡ true) (sym at) telling.right.sound))

-- one more chunk of the device
pub chunks_more : (image : List ℕ) (site : Site) (manager : List ℕ) (front chunks : List Chunk) (chunk : Chunk) → front ≡ first_chunks image site manager (length front) → chunk ≡ chunk_at site.block_size image manager (length front) → chunks ≡ front ++ chunk ∷ [] → chunks ≡ first_chunks image site manager (length chunks)
chunks_more image site manager front chunks chunk before here added =
    let f = chunk_at site.block_size image manager in
    let one : length chunks ≡ length front + 1 = ap length added ∙ length-append front (chunk ∷ []) in
    added ∙ (ap (λ xs. xs ++ chunk ∷ []) before ∙ (ap (λ c. first_chunks image site manager (length front) ++ c ∷ []) here ∙ (sym (map-range_with_len_more f 0 (length front) (length front) (omega arith)) ∙ ap (first_chunks image site manager) (sym one))))

-- one more chunk is one more
pub one_longer : (front chunks : List Chunk) (chunk : Chunk) (base n : ℕ) → chunks ≡ front ++ chunk ∷ [] → length front ≡ base + n → length chunks ≡ base + (n + 1)
one_longer front chunks chunk base n added long =
    let one : length chunks ≡ length front + 1 = ap length added ∙ length-append front (chunk ∷ []) in
    omega (arith, one, long)

-- the free blocks so far and those of the next chunk are within all
pub free_part : (chunks : List Chunk) (i : ℕ) (none : Chunk) → i < length chunks → free_sum (take i chunks) + (slice_index_or chunks i none).free ≤ free_sum chunks
free_part chunks i none low =
    let f : Chunk → ℕ = λ c. c.free in
    let part : sum_by f (take i chunks) + (slice_index_or chunks i none).free ≤ sum_by f chunks = sum_by_more_le f chunks i none low in
    omega (arith, part, sum-map f (take i chunks), sum-map f chunks)
