-- What the blocks of a new container say: all that its law rests on.
use Rattle.std.specs.Prelude.{◌≡◌, ℕ, ◌+◌, ◌-◌, ◌*◌, ◌<◌, false, ◌==◌, nat_lt, List, [], ◌∷◌, length, map, Some, Ok, Err}
use Rattle.apfs_model.specs.Bytes.{u64_at, bit_at}
use Rattle.apfs_model.specs.Object.{sum_field, oid_of, xid_of, type_of, subtype_of}
use Rattle.apfs_model.specs.Sum.{sum_of}
use Rattle.bt_node.specs.Shape.{Shape}
use Rattle.bt_node.specs.Node.{level_of, key_count_of, node_count_of}
use Rattle.bt_node.specs.Entries.{Pair, pairs_of}
use Rattle.bt_node.specs.Soundness.{node_of}
use Rattle.bt_cursor.specs.Tree.{root_place}
use Rattle.bt_keys.specs.Shapes.{omap_shape, queue_shape, ext_shape, snap_shape, fs_shape}
use Rattle.nx_block.specs.Super as nx
use Rattle.nx_block.specs.Read.{read_of}
use Rattle.nx_block.specs.Reaper.{reaper_head_of, reaper_flags_of}
use Rattle.nx_block.specs.declared.fault.NxFault.TheVariants.{BadMagic}
use Rattle.nx_ring.specs.Mappings.{map_count_of, mapping_at}
use Rattle.nx_ring.specs.declared.mappings.Mapping.{Mapping}
use Rattle.omap_map.specs.Fields as maps
use Rattle.space_map.specs.Fields as spaces
use Rattle.space_map.specs.Blocks.{info_index_of, info_count_of}
use Rattle.space_map.specs.Chunks.{chunk_in}
use Rattle.space_map.specs.declared.chunk.Chunk.{Chunk}
use Rattle.space_pool.specs.Bits.{index_at}
use Rattle.vol_view.specs.Fields as volumes
use Rattle.img_format.specs.declared.spec.Spec.{Spec}
use Rattle.img_format.specs.Tables.{size}
use Rattle.img_format.specs.Nodes.{Entry}
use Rattle.img_format.specs.Blocks.{map_entry, file_entries}
use Rattle.fresh_law.specs.Site.{site, block_at}

-- a block has a header of an id, a type and a subtype, of transaction 1, and its sum is right
pub record HasHeader (oid type subtype : ℕ) (bytes : List ℕ) : Type 0 where
  pub long : length bytes ≡ size
  pub sum : sum_field bytes ≡ sum_of bytes
  pub oid_is : oid_of bytes ≡ oid
  pub xid_is : xid_of bytes ≡ 1
  pub type_is : type_of bytes ≡ type
  pub subtype_is : subtype_of bytes ≡ subtype

-- the entries of a node as they are read
abbrev pub pair_of : Entry → Pair
pair_of entry = record { key = entry.0; value = Some entry.1 }

-- a block is a sound root of an id, a leaf with these entries, and counts them
pub record IsRootLeaf {K : Type 0} (shape : Shape K) (spec : Spec) (oid : ℕ) (entries : List Entry) (bytes : List ℕ) : Type 0 where
  pub long : length bytes ≡ size
  pub sound : node_of shape (root_place oid) (site spec) bytes ≡ Ok bytes
  pub level : level_of bytes ≡ 0
  pub pairs : pairs_of shape bytes ≡ map pair_of entries
  pub keys : key_count_of bytes ≡ length entries
  pub nodes : node_count_of bytes ≡ 1

-- the superblock
pub record IsSuper (spec : Spec) (bytes : List ℕ) : Type 0 where
  pub head : HasHeader 1 0x80000001 0 bytes
  pub magic : nx.magic_of bytes ≡ nx.nx_magic
  pub block_size : nx.block_size_of bytes ≡ size
  pub blocks : nx.block_count_of bytes ≡ spec.blocks
  pub incompat : nx.incompat_of bytes ≡ 2
  pub desc_blocks : nx.desc_blocks_of bytes ≡ 8
  pub data_blocks : nx.data_blocks_of bytes ≡ 16
  pub desc_base : nx.desc_base_of bytes ≡ 1
  pub data_base : nx.data_base_of bytes ≡ 9
  pub desc_index : nx.desc_index_of bytes ≡ 0
  pub desc_len : nx.desc_len_of bytes ≡ 2
  pub space : nx.space_oid_of bytes ≡ 1024
  pub omap : nx.omap_oid_of bytes ≡ 25
  pub reaper : nx.reaper_oid_of bytes ≡ 1025
  pub first_volume : nx.fs_oid_of bytes 0 ≡ 1026
  pub no_volume : (slot : ℕ) → slot < 99 → nx.fs_oid_of bytes (slot + 1) ≡ 0
  pub blocked : nx.blocked_of bytes ≡ (0, 0)
  pub eviction : nx.eviction_of bytes ≡ 0
  pub jumpstart : nx.jumpstart_of bytes ≡ 0
  pub locker : nx.locker_of bytes ≡ (0, 0)
  pub media_locker : nx.media_locker_of bytes ≡ (0, 0)

-- the checkpoint map: four mappings of one block each
abbrev pub mapping : ℕ → ℕ → ℕ → Mapping
mapping type oid block = record { type_bits = type; size = size; oid = oid; paddr = block }

pub record IsMap (bytes : List ℕ) : Type 0 where
  pub head : HasHeader 1 0x4000000c 0 bytes
  pub count : map_count_of bytes ≡ 4
  pub space : mapping_at bytes 40 ≡ mapping 0x80000005 1024 9
  pub reaper : mapping_at bytes 80 ≡ mapping 0x80000011 1025 10
  pub pool_queue : mapping_at bytes 120 ≡ mapping 0x80000002 1029 11
  pub main_queue : mapping_at bytes 160 ≡ mapping 0x80000002 1030 12

-- the space manager
pub record IsManager (spec : Spec) (bytes : List ℕ) : Type 0 where
  pub head : HasHeader 1024 0x80000005 0 bytes
  pub unit : spaces.unit_of bytes ≡ size
  pub chunk_blocks : spaces.chunk_blocks_of bytes ≡ 32768
  pub cib_chunks : spaces.cib_chunks_of bytes ≡ 126
  pub cab_cibs : spaces.cab_cibs_of bytes ≡ 507
  pub blocks : spaces.blocks_of bytes ≡ spec.blocks
  pub chunks : spaces.chunks_of bytes ≡ 1
  pub cibs : spaces.cibs_of bytes ≡ 1
  pub cabs : spaces.cabs_of bytes ≡ 0
  pub free : spaces.free_of bytes ≡ spec.blocks - 57
  pub addresses : spaces.addresses_of bytes ≡ 2528
  pub second : spaces.second_blocks_of bytes ≡ 0
  pub pool_blocks : spaces.pool_blocks_of bytes ≡ 8
  pub bitmap_blocks : spaces.pool_bitmap_blocks_of bytes ≡ 1
  pub ring_blocks : spaces.ring_blocks_of bytes ≡ 16
  pub ring_base : spaces.ring_base_of bytes ≡ 27
  pub pool_base : spaces.pool_base_of bytes ≡ 43
  pub pool_queue : spaces.pool_queue_of bytes ≡ 1029
  pub main_queue : spaces.main_queue_of bytes ≡ 1030
  pub tier_queue : spaces.tier_queue_of bytes ≡ 0
  pub indexes : spaces.indexes_of bytes ≡ 2520
  pub address : u64_at bytes 2528 ≡ 43
  pub index : index_at bytes 0 ≡ 0

-- the reaper
pub record IsReaper (bytes : List ℕ) : Type 0 where
  pub head : HasHeader 1025 0x80000011 0 bytes
  pub first : reaper_head_of bytes ≡ 0
  pub flags : reaper_flags_of bytes ≡ 0

-- an object map without snapshots, in a block, by the root of its tree
pub record IsObjectMap (block tree : ℕ) (bytes : List ℕ) : Type 0 where
  pub head : HasHeader block 0x4000000b 0 bytes
  pub count : maps.snap_count_of bytes ≡ 0
  pub tree_is : maps.tree_of bytes ≡ tree
  pub snap_tree : maps.snap_tree_of bytes ≡ 0
  pub least : maps.revert_min_of bytes ≡ 0
  pub greatest : maps.revert_max_of bytes ≡ 0

-- the chunk-info block, with its one chunk
abbrev pub chunk : Spec → Chunk
chunk spec = record { first = 0; blocks = spec.blocks; free = spec.blocks - 57; bitmap = 44 }

pub record IsInfo (spec : Spec) (bytes : List ℕ) : Type 0 where
  pub head : HasHeader 43 0x40000007 0 bytes
  pub index : info_index_of bytes ≡ 0
  pub count : info_count_of bytes ≡ 1
  pub chunk_is : chunk_in bytes 0 ≡ chunk spec

-- the volume's superblock
pub record IsVolume (spec : Spec) (bytes : List ℕ) : Type 0 where
  pub head : HasHeader 1026 0xd 0 bytes
  pub magic : volumes.magic_of bytes ≡ volumes.volume_magic
  pub incompat : volumes.incompat_of bytes ≡ 1
  pub root_type : volumes.root_type_of bytes ≡ 2
  pub extents_type : volumes.extents_type_of bytes ≡ 0x40000002
  pub snaps_type : volumes.snaps_type_of bytes ≡ 0x40000002
  pub omap : volumes.omap_oid_of bytes ≡ 52
  pub root : volumes.root_oid_of bytes ≡ 1028
  pub extents : volumes.extents_root_of bytes ≡ 55
  pub snaps : volumes.snaps_root_of bytes ≡ 56
  pub revert : volumes.revert_to_of bytes ≡ 0
  pub snapshots : volumes.snapshots_of bytes ≡ 0
  pub uuid : volumes.uuid_of bytes ≡ spec.volume
  pub flags : volumes.flags_of bytes ≡ 1
  pub name : volumes.name_of bytes ≡ spec.name
  pub role : volumes.role_of bytes ≡ 0
  pub rolling : volumes.rolling_of bytes ≡ 0
  pub meta_ext : volumes.meta_ext_of bytes ≡ 0
  pub integrity : volumes.integrity_of bytes ≡ 0
  pub file_extents : volumes.file_extents_of bytes ≡ 0
  pub reserved : volumes.reserved_of bytes ≡ 0

-- the first bits of a bitmap are set, and no other
abbrev pub HasBits : ℕ → List ℕ → Type 0
HasBits n bytes = (i : ℕ) → i < 8 * size → bit_at bytes i ≡ nat_lt i n

-- what an image's blocks say
pub record IsFresh (spec : Spec) (image : List ℕ) : Type 0 where
  pub long : length image ≡ size * spec.blocks
  pub zero_block : IsSuper spec (block_at image 0)
  pub newest : IsSuper spec (block_at image 2)
  pub others : (i : ℕ) → i < 8 → (i == 1) ≡ false → read_of (block_at image (1 + i)) ≡ Err BadMagic
  pub checkpoint_map : IsMap (block_at image 1)
  pub manager : IsManager spec (block_at image 9)
  pub reaper : IsReaper (block_at image 10)
  pub pool_queue : IsRootLeaf queue_shape spec 1029 [] (block_at image 11)
  pub main_queue : IsRootLeaf queue_shape spec 1030 [] (block_at image 12)
  pub pool_queue_head : HasHeader 1029 0x80000002 9 (block_at image 11)
  pub main_queue_head : HasHeader 1030 0x80000002 9 (block_at image 12)
  pub container_map : IsObjectMap 25 26 (block_at image 25)
  pub container_tree : IsRootLeaf omap_shape spec 26 (map_entry 1026 51 ∷ []) (block_at image 26)
  pub pool_bits : HasBits 2 (block_at image 27)
  pub info : IsInfo spec (block_at image 43)
  pub bits : HasBits 57 (block_at image 44)
  pub volume : IsVolume spec (block_at image 51)
  pub volume_map : IsObjectMap 52 53 (block_at image 52)
  pub volume_tree : IsRootLeaf omap_shape spec 53 (map_entry 1028 54 ∷ []) (block_at image 53)
  pub files : IsRootLeaf fs_shape spec 1028 file_entries (block_at image 54)
  pub extents : IsRootLeaf ext_shape spec 55 [] (block_at image 55)
  pub snapshots : IsRootLeaf snap_shape spec 56 [] (block_at image 56)
