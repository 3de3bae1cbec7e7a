-- Which blocks are marked as used, and how many aren't (Space Manager, chunk_info_t, ci_bitmap_addr).
use Rattle.std.specs.Prelude.{ℕ, ◌/◌, ◌%◌, Bool, not, ◌&&◌, ◌||◌, ◌==◌, List, length, filter, map, sum, is_some}
use Rattle.std.specs.List.{range_with_len}
use Rattle.apfs_model.specs.Bytes.{bit_at}
use Rattle.apfs_model.specs.Blocks.{block_of, in_container}
use Rattle.obj_base.specs.declared.site.Site.{Site}
use Rattle.space_map.specs.Geometry.{chunk_len}
use Rattle.space_map.specs.Chunks.{chunk_at}
use Rattle.space_map.specs.declared.chunk.Chunk.{Chunk}

-- a chunk without a bitmap, all of whose blocks are free
abbrev pub lacks_bitmap : Chunk → Bool
lacks_bitmap chunk = chunk.bitmap == 0

-- block i of a chunk is marked: its bit in the bitmap is 1; none is without a bitmap
unfoldable pub is_marked_in : ℕ → List ℕ → Chunk → ℕ → Bool
is_marked_in block_size image chunk i = not (lacks_bitmap chunk) && bit_at (block_of block_size image chunk.bitmap) i

-- a block of the container is marked: by its place in its chunk
unfoldable pub is_marked : ℕ → List ℕ → List ℕ → ℕ → Bool
is_marked block_size image manager block = is_marked_in block_size image (chunk_at block_size image manager (block / chunk_len block_size)) (block % chunk_len block_size)

-- a chunk has no bitmap, or it stands in a block of the container
abbrev pub has_bits : Site → Chunk → Bool
has_bits site chunk = lacks_bitmap chunk || is_some (in_container site.blocks chunk.bitmap)

-- how many blocks of a chunk aren't marked; bits past the chunk's blocks don't count
unfoldable pub free_in : ℕ → List ℕ → Chunk → ℕ
free_in block_size image chunk = length (filter (λ i. not (is_marked_in block_size image chunk i)) (range_with_len 0 chunk.blocks))

-- the sum of the chunks' free counts
abbrev pub free_sum : List Chunk → ℕ
free_sum chunks = sum (map (λ (c : Chunk). c.free) chunks)
