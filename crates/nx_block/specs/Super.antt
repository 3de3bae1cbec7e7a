-- Fields of the container superblock (Container, nx_superblock_t).
use Rattle.std.specs.Prelude.{ℕ, ◌+◌, ◌*◌, List}
use Rattle.apfs_model.specs.Bytes.{u32_at, u64_at, part_at}

-- the bytes NXSB as a number
abbrev pub nx_magic : ℕ
nx_magic = 0x4253584e

-- the magic, as a number (nx_magic)
unfoldable pub magic_of : List ℕ → ℕ
magic_of bytes = u32_at bytes 32

-- the block size in bytes (nx_block_size)
unfoldable pub block_size_of : List ℕ → ℕ
block_size_of bytes = u32_at bytes 36

-- the number of blocks of the container (nx_block_count)
unfoldable pub block_count_of : List ℕ → ℕ
block_count_of bytes = u64_at bytes 40

-- the incompatible features (nx_incompatible_features)
unfoldable pub incompat_of : List ℕ → ℕ
incompat_of bytes = u64_at bytes 64

-- the container's identifier (nx_uuid)
unfoldable pub uuid_of : List ℕ → List ℕ
uuid_of bytes = part_at bytes 72 16

-- the blocks of the descriptor area; the highest bit says that it isn't contiguous (nx_xp_desc_blocks)
unfoldable pub desc_blocks_of : List ℕ → ℕ
desc_blocks_of bytes = u32_at bytes 104

-- the blocks of the data area; the highest bit says that it isn't contiguous (nx_xp_data_blocks)
unfoldable pub data_blocks_of : List ℕ → ℕ
data_blocks_of bytes = u32_at bytes 108

-- the first block of the descriptor area (nx_xp_desc_base)
unfoldable pub desc_base_of : List ℕ → ℕ
desc_base_of bytes = u64_at bytes 112

-- the first block of the data area (nx_xp_data_base)
unfoldable pub data_base_of : List ℕ → ℕ
data_base_of bytes = u64_at bytes 120

-- the index of the checkpoint's first block (nx_xp_desc_index)
unfoldable pub desc_index_of : List ℕ → ℕ
desc_index_of bytes = u32_at bytes 136

-- the blocks of the checkpoint: its maps and its superblock (nx_xp_desc_len)
unfoldable pub desc_len_of : List ℕ → ℕ
desc_len_of bytes = u32_at bytes 140

-- the space manager, an ephemeral oid (nx_spaceman_oid)
unfoldable pub space_oid_of : List ℕ → ℕ
space_oid_of bytes = u64_at bytes 152

-- the container's object map, a physical oid (nx_omap_oid)
unfoldable pub omap_oid_of : List ℕ → ℕ
omap_oid_of bytes = u64_at bytes 160

-- the reaper, an ephemeral oid (nx_reaper_oid)
unfoldable pub reaper_oid_of : List ℕ → ℕ
reaper_oid_of bytes = u64_at bytes 168

-- the number of slots for volumes (NX_MAX_FILE_SYSTEMS)
abbrev pub slots : ℕ
slots = 100

-- the volume in a slot, a virtual oid, 0 where there is none (nx_fs_oid)
unfoldable pub fs_oid_of : List ℕ → ℕ → ℕ
fs_oid_of bytes slot = u64_at bytes (184 + 8 * slot)

-- a range: its first block and its number of blocks (prange_t)
abbrev pub range_at : List ℕ → ℕ → ℕ × ℕ
range_at bytes at = (u64_at bytes at, u64_at bytes (at + 8))

-- the range from which no block is given out, while the container shrinks (nx_blocked_out_prange)
unfoldable pub blocked_of : List ℕ → ℕ × ℕ
blocked_of bytes = range_at bytes 1240

-- the tree of the blocks that are moved, while the container shrinks (nx_evict_mapping_tree_oid)
unfoldable pub eviction_of : List ℕ → ℕ
eviction_of bytes = u64_at bytes 1256

-- the block of the EFI jumpstart, 0 where there is none (nx_efi_jumpstart)
unfoldable pub jumpstart_of : List ℕ → ℕ
jumpstart_of bytes = u64_at bytes 1272

-- the container's key locker (nx_keylocker)
unfoldable pub locker_of : List ℕ → ℕ × ℕ
locker_of bytes = range_at bytes 1296

-- the media key locker (nx_mkb_locker)
unfoldable pub media_locker_of : List ℕ → ℕ × ℕ
media_locker_of bytes = range_at bytes 1392
