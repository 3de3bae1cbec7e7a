-- The shape of a container's space: its chunks, and the blocks that tell of them. All of it goes by the block size.
use Rattle.std.specs.Prelude.{ℕ, ◌+◌, ◌-◌, ◌*◌, ◌/◌, ◌%◌, Bool, ◌&&◌, ◌||◌, ◌==◌, nat_lt, nat_le, List, length, if◌then◌else◌}
use Rattle.apfs_model.specs.Blocks.{rounded_up}
use Rattle.obj_base.specs.declared.site.Site.{Site}
use Rattle.space_map.specs.Fields.{unit_of, chunk_blocks_of, cib_chunks_of, cab_cibs_of, blocks_of, chunks_of, cibs_of, cabs_of, addresses_of}

-- a chunk has as many blocks as a block has bits
abbrev pub chunk_len : ℕ → ℕ
chunk_len block_size = 8 * block_size

-- the most chunks of which a chunk-info block can tell: 32 bytes each, after its first 40 (chunk_info_block_t)
abbrev pub most_chunks : ℕ → ℕ
most_chunks block_size = (block_size - 40) / 32

-- the most chunk-info blocks that a chunk-info address block can name: 8 bytes each, after its first 40 (cib_addr_block_t)
abbrev pub most_cibs : ℕ → ℕ
most_cibs block_size = (block_size - 40) / 8

-- the block size and the blocks of a chunk are the container's
unfoldable pub has_units : ℕ → List ℕ → Bool
has_units block_size manager = (unit_of manager == block_size) && (chunk_blocks_of manager == chunk_len block_size)

-- a chunk-info block has one chunk or more and at most what fits it, and so has a chunk-info address block of chunk-info blocks
unfoldable pub has_rooms : ℕ → List ℕ → Bool
has_rooms block_size manager =
    (nat_le 1 (cib_chunks_of manager) && nat_le (cib_chunks_of manager) (most_chunks block_size))
    && (nat_le 1 (cab_cibs_of manager) && nat_le (cab_cibs_of manager) (most_cibs block_size))

-- the device has the container's blocks, as many chunks and chunk-info blocks as these need, and no chunk-info address blocks or as many as are needed
unfoldable pub has_numbers : Site → List ℕ → Bool
has_numbers site manager =
    ((blocks_of manager == site.blocks) && (chunks_of manager == rounded_up site.blocks (chunk_len site.block_size)))
    && ((cibs_of manager == rounded_up (chunks_of manager) (cib_chunks_of manager))
    && ((cabs_of manager == 0) || (cabs_of manager == rounded_up (cibs_of manager) (cab_cibs_of manager))))

-- how many addresses the manager has: those of the chunk-info address blocks, where there are any, and otherwise those of the chunk-info blocks
abbrev pub address_count : List ℕ → ℕ
address_count manager = if cabs_of manager == 0 then cibs_of manager else cabs_of manager

-- there is an address i, and it lies in the manager
unfoldable pub has_address : List ℕ → ℕ → Bool
has_address manager i = nat_lt i (address_count manager) && nat_le (addresses_of manager + 8 * i + 8) (length manager)

-- all addresses lie in the manager
unfoldable pub has_addresses : List ℕ → Bool
has_addresses manager = nat_le (addresses_of manager + 8 * address_count manager) (length manager)

-- Geometry: the units, the rooms, the numbers and the addresses are right
unfoldable pub is_shaped : Site → List ℕ → Bool
is_shaped site manager = (has_units site.block_size manager && has_rooms site.block_size manager) && (has_numbers site manager && has_addresses manager)

-- chunk-info block i has a place in its chunk-info address block: one of those that the geometry gives, and one that lies in the block
unfoldable pub has_cib_place : ℕ → List ℕ → ℕ → Bool
has_cib_place block_size manager i = nat_lt (i % cab_cibs_of manager) (cab_cibs_of manager) && nat_lt (i % cab_cibs_of manager) (most_cibs block_size)

-- chunk k has a place in its chunk-info block: one of those that the geometry gives, and one that lies in the block
unfoldable pub has_chunk_place : ℕ → List ℕ → ℕ → Bool
has_chunk_place block_size manager k = nat_lt (k % cib_chunks_of manager) (cib_chunks_of manager) && nat_lt (k % cib_chunks_of manager) (most_chunks block_size)
