-- What holds of each space that was loaded, and of what was read of one on the way.
use Rattle.std.specs.Prelude.{◌≡◌, ◌⊎◌, ℕ, ◌<◌, ◌≤◌, true, List, length, map, All, slice_index_or, replicate, if◌then◌else◌}
use Rattle.std.specs.List.{range_with_len}
use Rattle.apfs_model.specs.Blocks.{rounded_up, block_of}
use Rattle.obj_base.specs.declared.site.Site.{Site}
use Rattle.space_map.specs.Fields.{cabs_of, cibs_of}
use Rattle.space_map.specs.Geometry.{chunk_len}
use Rattle.space_map.specs.Blocks.{cib_block, cib_blocks, is_cib_named}
use Rattle.space_map.specs.Chunks.{chunk_at}
use Rattle.space_map.specs.Marks.{has_bits, lacks_bitmap}
use Rattle.space_map.specs.Tests.{is_chunk}
use Rattle.space_map.specs.Stops.{is_bitmap_placed, IsRightCab, IsRightCib, IsUnnamedManager, IsUnsoundManager}
use Rattle.nx_ring.specs.Checkpoint.{Seen}
use Rattle.space_map.specs.declared.chunk.Chunk.{Chunk}
use Rattle.space_map.specs.declared.fault.SpaceFault.{SpaceFault}
use Rattle.space_map.specs.declared.fault.SpaceFault.TheVariants as faults
use Rattle.obj_base.specs.declared.header.HeadFault.{HeadFault}
use Rattle.obj_base.specs.declared.stop.Unsound.{Unsound}

-- the manager has a block or more, there are as many chunks as the container needs, and each chunk's bitmap can be read
pub record IsHeld (site : Site) (manager : List ℕ) (chunks : List Chunk) : Type 0 where
  pub long : 4096 ≤ length manager
  pub count : length chunks ≡ rounded_up site.blocks (chunk_len site.block_size)
  pub inside : All (λ (c : Chunk). has_bits site c ≡ true) chunks

-- the first so many chunks of the device
abbrev pub first_chunks : List ℕ → Site → List ℕ → ℕ → List Chunk
first_chunks image site manager n = map (chunk_at site.block_size image manager) (range_with_len 0 n)

-- the first so many chunk-info blocks of the device
abbrev pub first_cibs : List ℕ → Site → List ℕ → ℕ → List ℕ
first_cibs image site manager n = map (cib_block site.block_size image manager) (range_with_len 0 n)

-- chunks, each of which has what its place in the list says, and a bitmap that lies in the pool
pub record AreRight (site : Site) (manager : List ℕ) (chunks : List Chunk) : Type 0 where
  pub right : (k : ℕ) (none : Chunk) → k < length chunks → is_chunk site k (slice_index_or chunks k none) ≡ true
  pub placed : All (λ (c : Chunk). is_bitmap_placed site manager c ≡ true) chunks

-- chunk-info block i is named and right, so that it tells of its chunks
pub record IsTelling (image : List ℕ) (site : Site) (manager : List ℕ) (i : ℕ) : Type 0 where
  pub named : is_cib_named image site manager i ≡ true
  pub right : IsRightCib image site manager i

-- the chunk-info blocks are those of the device, each named, and the address blocks are right
pub record AreNamed (image : List ℕ) (site : Site) (manager : List ℕ) (cibs : List ℕ) : Type 0 where
  pub cabs : (i : ℕ) → i < cabs_of manager → IsRightCab image site manager i
  pub named : (i : ℕ) → i < cibs_of manager → is_cib_named image site manager i ≡ true
  pub same : cibs ≡ cib_blocks site.block_size image manager

-- an object that isn't sound, said of the space
abbrev pub unsound : Unsound HeadFault → SpaceFault
unsound object = faults.Unsound object.block object.why

-- a fault of the space manager itself is there
abbrev pub IsManagerFault : Seen → SpaceFault → Type 0
IsManagerFault seen fault = IsUnnamedManager seen fault ⊎ IsUnsoundManager seen fault

-- the bits of a chunk: its bitmap's block, and zeros where it has none
unfoldable pub bitmap_of : ℕ → List ℕ → Chunk → List ℕ
bitmap_of block_size image chunk = if lacks_bitmap chunk then replicate block_size 0 else block_of block_size image chunk.bitmap
