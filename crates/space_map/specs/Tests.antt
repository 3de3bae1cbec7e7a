-- What must hold of chunks and of the blocks that tell of them.
use Rattle.std.specs.Prelude.{ℕ, ◌-◌, ◌*◌, Bool, ◌&&◌, ◌==◌, nat_lt, min, List}
use Rattle.apfs_model.specs.Blocks.{is_in}
use Rattle.obj_base.specs.declared.site.Site.{Site}
use Rattle.space_map.specs.Fields.{cib_chunks_of, cab_cibs_of, chunks_of, cibs_of, pool_base_of, pool_blocks_of, free_of}
use Rattle.space_map.specs.Geometry.{chunk_len}
use Rattle.space_map.specs.Blocks.{info_index_of, info_count_of}
use Rattle.space_map.specs.Chunks.{chunks_in}
use Rattle.space_map.specs.Marks.{free_in, free_sum}
use Rattle.space_map.specs.declared.chunk.Chunk.{Chunk}

-- of so many things, as many as fall to place i where each place takes so many
abbrev pub share : ℕ → ℕ → ℕ → ℕ
share all each i = min each (all - each * i)

-- Cab: a chunk-info address block has its place among all as its index, and counts the chunk-info blocks that fall to it
unfoldable pub is_cab : List ℕ → ℕ → List ℕ → Bool
is_cab manager i cab = (info_index_of cab == i) && (info_count_of cab == share (cibs_of manager) (cab_cibs_of manager) i)

-- Cib: a chunk-info block has its place among all as its index, and counts the chunks that fall to it
unfoldable pub is_cib : List ℕ → ℕ → List ℕ → Bool
is_cib manager i cib = (info_index_of cib == i) && (info_count_of cib == share (chunks_of manager) (cib_chunks_of manager) i)

-- Index: a chunk has the address and the number of blocks that its place says
unfoldable pub is_chunk : Site → ℕ → Chunk → Bool
is_chunk site k chunk = (chunk.first == k * chunk_len site.block_size) && (chunk.blocks == share site.blocks (chunk_len site.block_size) k)

-- Place: a block lies in the pool and in the container
unfoldable pub is_in_pool : Site → List ℕ → ℕ → Bool
is_in_pool site manager block = is_in block (pool_base_of manager) (pool_blocks_of manager) && nat_lt block site.blocks

-- FreeCount: a chunk's free count is the number of its blocks that aren't marked
unfoldable pub is_free_count : ℕ → List ℕ → Chunk → Bool
is_free_count block_size image chunk = chunk.free == free_in block_size image chunk

-- FreeTotal: the device's free count is the sum of the chunks'
unfoldable pub is_free_total : ℕ → List ℕ → List ℕ → Bool
is_free_total block_size image manager = free_of manager == free_sum (chunks_in block_size image manager)
