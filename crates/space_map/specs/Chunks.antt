-- Chunks (Space Manager, chunk_info_t).
use Rattle.std.specs.Prelude.{ℕ, ◌+◌, ◌*◌, ◌/◌, ◌%◌, ◌^◌, Bool, ◌&&◌, nat_lt, List, map}
use Rattle.std.specs.List.{range_with_len, list_all}
use Rattle.apfs_model.specs.Bytes.{u32_at, u64_at}
use Rattle.apfs_model.specs.Blocks.{block_of}
use Rattle.apfs_model.specs.Object.{cib_kind}
use Rattle.obj_base.specs.declared.site.Site.{Site}
use Rattle.space_map.specs.Fields.{cib_chunks_of, chunks_of}
use Rattle.space_map.specs.Geometry.{has_chunk_place}
use Rattle.space_map.specs.Blocks.{cib_block, is_info, is_cib_named}
use Rattle.space_map.specs.declared.chunk.Chunk.{Chunk}

-- the chunk at a place of a chunk-info block: its address, its blocks in the low 20 bits, its free blocks, and its bitmap's block (ci_addr, ci_block_count, ci_free_count, ci_bitmap_addr)
unfoldable pub chunk_from : List ℕ → ℕ → Chunk
chunk_from cib at = record { first = u64_at cib (at + 8); blocks = u32_at cib (at + 16) % 2 ^ 20; free = u32_at cib (at + 20); bitmap = u64_at cib (at + 24) }

-- chunk j of a chunk-info block (cib_chunk_info)
abbrev pub chunk_in : List ℕ → ℕ → Chunk
chunk_in cib j = chunk_from cib (40 + 32 * j)

-- the block of the chunk-info block in which chunk k has its place
abbrev pub cib_block_for : ℕ → List ℕ → List ℕ → ℕ → ℕ
cib_block_for block_size image manager k = cib_block block_size image manager (k / cib_chunks_of manager)

-- chunk k of the device: the one at its place in its chunk-info block
unfoldable pub chunk_at : ℕ → List ℕ → List ℕ → ℕ → Chunk
chunk_at block_size image manager k = chunk_in (block_of block_size image (cib_block_for block_size image manager k)) (k % cib_chunks_of manager)

-- the chunks of the device, by number
unfoldable pub chunks_in : ℕ → List ℕ → List ℕ → List Chunk
chunks_in block_size image manager = map (chunk_at block_size image manager) (range_with_len 0 (chunks_of manager))

-- a sound chunk-info block tells of chunk k
unfoldable pub is_told : List ℕ → Site → List ℕ → ℕ → Bool
is_told image site manager k =
    (nat_lt k (chunks_of manager) && has_chunk_place site.block_size manager k)
    && (is_cib_named image site manager (k / cib_chunks_of manager) && is_info image site cib_kind (cib_block_for site.block_size image manager k))

-- sound chunk-info blocks tell of all chunks
unfoldable pub are_told : List ℕ → Site → List ℕ → Bool
are_told image site manager = list_all (is_told image site manager) (range_with_len 0 (chunks_of manager))
