-- The space manager, and the blocks that tell of chunks (Space Manager, cib_addr_block_t and chunk_info_block_t).
use Rattle.std.specs.Prelude.{ℕ, ◌+◌, ◌*◌, ◌/◌, ◌%◌, Bool, ◌&&◌, ◌==◌, nat_lt, List, map, Option, Some, option_and_then, is_some, is_ok, Result, if◌then◌else◌}
use Rattle.std.specs.List.{range_with_len}
use Rattle.apfs_model.specs.Bytes.{u32_at, u64_at}
use Rattle.apfs_model.specs.Blocks.{block_of, in_container}
use Rattle.apfs_model.specs.Object.{space_kind, cab_kind}
use Rattle.obj_base.specs.Sound.{sound_of, expecting}
use Rattle.obj_base.specs.declared.header.Header.{Header}
use Rattle.obj_base.specs.declared.header.HeadFault.{HeadFault}
use Rattle.obj_base.specs.declared.stop.Bad.{Bad}
use Rattle.obj_base.specs.declared.site.Site.{Site}
use Rattle.nx_block.specs.Super.{space_oid_of}
use Rattle.nx_ring.specs.Checkpoint.{Seen, site_of, object_of, object_block_of}
use Rattle.space_map.specs.Fields.{cab_cibs_of, cibs_of, cabs_of, addresses_of}
use Rattle.space_map.specs.Geometry.{has_address, has_cib_place}

-- the bytes of the space manager that the superblock names: those of all its blocks
abbrev pub manager_of : Seen → Option (List ℕ)
manager_of seen = object_of seen (space_oid_of seen.nx)

-- the first block of the space manager, where it is one of the container
abbrev pub manager_block : Seen → Option ℕ
manager_block seen = option_and_then (in_container (site_of seen).blocks) (object_block_of seen (space_oid_of seen.nx))

-- what the tests of the manager's header say
abbrev pub manager_test : Seen → List ℕ → Result Header (Bad HeadFault)
manager_test seen manager = sound_of manager (expecting space_kind (Some (space_oid_of seen.nx)) seen.line.xid)

-- address i of the manager
unfoldable pub address_at : List ℕ → ℕ → ℕ
address_at manager i = u64_at manager (addresses_of manager + 8 * i)

-- the index of a chunk-info address block or a chunk-info block (cab_index, cib_index)
unfoldable pub info_index_of : List ℕ → ℕ
info_index_of bytes = u32_at bytes 32

-- the count of a chunk-info address block or a chunk-info block (cab_cib_count, cib_chunk_info_count)
unfoldable pub info_count_of : List ℕ → ℕ
info_count_of bytes = u32_at bytes 36

-- address j of a chunk-info address block (cab_cib_addr)
unfoldable pub cab_address_at : List ℕ → ℕ → ℕ
cab_address_at cab j = u64_at cab (40 + 8 * j)

-- the blocks of the chunk-info address blocks, by index
unfoldable pub cab_blocks : List ℕ → List ℕ
cab_blocks manager = map (address_at manager) (range_with_len 0 (cabs_of manager))

-- the block of the chunk-info address block in which chunk-info block i has its place
abbrev pub cab_block_for : List ℕ → ℕ → ℕ
cab_block_for manager i = address_at manager (i / cab_cibs_of manager)

-- the block of chunk-info block i of the device: the manager's own address, or that at its place in its chunk-info address block
unfoldable pub cib_block : ℕ → List ℕ → List ℕ → ℕ → ℕ
cib_block block_size image manager i =
    if cabs_of manager == 0 then address_at manager i
    else cab_address_at (block_of block_size image (cab_block_for manager i)) (i % cab_cibs_of manager)

-- the blocks of the chunk-info blocks, by index
unfoldable pub cib_blocks : ℕ → List ℕ → List ℕ → List ℕ
cib_blocks block_size image manager = map (cib_block block_size image manager) (range_with_len 0 (cibs_of manager))

-- what the tests of the header of a chunk-info address block or a chunk-info block say; a physical object has its block as oid
abbrev pub info_test : List ℕ → Site → ℕ → ℕ → Result Header (Bad HeadFault)
info_test image site kind block = sound_of (block_of site.block_size image block) (expecting kind (Some block) site.max_xid)

-- a sound block of such a kind in a block of the container
unfoldable pub is_info : List ℕ → Site → ℕ → ℕ → Bool
is_info image site kind block = is_some (in_container site.blocks block) && is_ok (info_test image site kind block)

-- chunk-info address block i is named by the manager
unfoldable pub is_cab_named : List ℕ → ℕ → Bool
is_cab_named manager i = nat_lt i (cabs_of manager) && has_address manager i

-- the sound chunk-info address block in which chunk-info block i has its place is there
unfoldable pub has_cab_for : List ℕ → Site → List ℕ → ℕ → Bool
has_cab_for image site manager i =
    has_cib_place site.block_size manager i
    && (is_cab_named manager (i / cab_cibs_of manager) && is_info image site cab_kind (cab_block_for manager i))

-- chunk-info block i is named: by the manager, or by a sound chunk-info address block
unfoldable pub is_cib_named : List ℕ → Site → List ℕ → ℕ → Bool
is_cib_named image site manager i =
    nat_lt i (cibs_of manager) && (if cabs_of manager == 0 then has_address manager i else has_cab_for image site manager i)
