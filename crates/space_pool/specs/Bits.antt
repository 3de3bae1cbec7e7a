-- The current bitmap of the internal pool (Space Manager, sm_ip_bm_base and sm_ip_bitmap_offset).
use Rattle.std.specs.Prelude.{ℕ, ◌+◌, ◌-◌, ◌*◌, Bool, not, ◌&&◌, nat_lt, nat_le, List, length, map, flat_map}
use Rattle.std.specs.List.{range_with_len, list_all}
use Rattle.apfs_model.specs.Bytes.{u16_at, bit_at}
use Rattle.apfs_model.specs.Blocks.{block_of, is_inside}
use Rattle.apfs_model.specs.Lists.{has}
use Rattle.obj_base.specs.declared.site.Site.{Site}
use Rattle.space_map.specs.Geometry.{chunk_len}
use Rattle.space_map.specs.Fields.{pool_blocks_of, pool_base_of, pool_bitmap_blocks_of, ring_blocks_of, ring_base_of, indexes_of}

-- index i of the current bitmap: where its block i stands in the ring
unfoldable pub index_at : List ℕ → ℕ → ℕ
index_at manager i = u16_at manager (indexes_of manager + 2 * i)

-- the first so many indexes of the current bitmap
abbrev pub first_indexes : List ℕ → ℕ → List ℕ
first_indexes manager n = map (index_at manager) (range_with_len 0 n)

-- the indexes of the current bitmap, one for each of its blocks
abbrev pub indexes_in : List ℕ → List ℕ
indexes_in manager = first_indexes manager (pool_bitmap_blocks_of manager)

-- the blocks of the current bitmap, joined: those of the ring that the indexes give
unfoldable pub pool_bits_of : ℕ → List ℕ → List ℕ → List ℕ
pool_bits_of block_size image manager = flat_map (λ index. block_of block_size image (ring_base_of manager + index)) (indexes_in manager)

-- a block of the pool is marked: its bit, counted from the pool's first block
unfoldable pub is_pool_marked : ℕ → List ℕ → List ℕ → ℕ → Bool
is_pool_marked block_size image manager block = bit_at (pool_bits_of block_size image manager) (block - pool_base_of manager)

-- the bitmap has a bit for each block of the pool
unfoldable pub has_pool_bits : ℕ → List ℕ → Bool
has_pool_bits block_size manager = nat_le (pool_blocks_of manager) (pool_bitmap_blocks_of manager * chunk_len block_size)

-- the indexes lie in the manager
unfoldable pub has_indexes : List ℕ → Bool
has_indexes manager = nat_le (indexes_of manager + 2 * pool_bitmap_blocks_of manager) (length manager)

-- Count: the bitmap is large enough, the indexes lie in the manager, and the pool and the ring in the container
unfoldable pub is_pool_count : Site → List ℕ → Bool
is_pool_count site manager =
    (has_pool_bits site.block_size manager && has_indexes manager)
    && (is_inside (pool_base_of manager) (pool_blocks_of manager) site.blocks && is_inside (ring_base_of manager) (ring_blocks_of manager) site.blocks)

-- there is an index i, and it lies in the manager
unfoldable pub has_index : List ℕ → ℕ → Bool
has_index manager i = nat_lt i (pool_bitmap_blocks_of manager) && nat_le (indexes_of manager + 2 * i + 2) (length manager)

-- Index: index i lies in the ring and equals no earlier one
unfoldable pub is_pool_index : List ℕ → ℕ → Bool
is_pool_index manager i = nat_lt (index_at manager i) (ring_blocks_of manager) && not (has (first_indexes manager i) (index_at manager i))

-- the pool's current bitmap can be read: its count is right, and each of its indexes
unfoldable pub is_pool_shaped : Site → List ℕ → Bool
is_pool_shaped site manager = is_pool_count site manager && list_all (is_pool_index manager) (range_with_len 0 (pool_bitmap_blocks_of manager))
