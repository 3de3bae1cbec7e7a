-- The fields of a volume's superblock (Volumes, apfs_superblock_t).
use Rattle.std.specs.Prelude.{ℕ, ◌==◌, List}
use Rattle.std.specs.List.{before_first}
use Rattle.apfs_model.specs.Bytes.{u16_at, u32_at, u64_at, part_at}

-- the bytes APSB as a number
abbrev pub volume_magic : ℕ
volume_magic = 0x42535041

-- the magic, as a number (apfs_magic)
unfoldable pub magic_of : List ℕ → ℕ
magic_of bytes = u32_at bytes 32

-- the incompatible features (apfs_incompatible_features)
unfoldable pub incompat_of : List ℕ → ℕ
incompat_of bytes = u64_at bytes 56

-- the type of the root tree (apfs_root_tree_type)
unfoldable pub root_type_of : List ℕ → ℕ
root_type_of bytes = u32_at bytes 116

-- the type of the extent reference tree (apfs_extentref_tree_type)
unfoldable pub extents_type_of : List ℕ → ℕ
extents_type_of bytes = u32_at bytes 120

-- the type of the snapshot metadata tree (apfs_snap_meta_tree_type)
unfoldable pub snaps_type_of : List ℕ → ℕ
snaps_type_of bytes = u32_at bytes 124

-- the volume's object map, a physical oid (apfs_omap_oid)
unfoldable pub omap_oid_of : List ℕ → ℕ
omap_oid_of bytes = u64_at bytes 128

-- the root of the file-system tree, a virtual oid (apfs_root_tree_oid)
unfoldable pub root_oid_of : List ℕ → ℕ
root_oid_of bytes = u64_at bytes 136

-- the root of the extent reference tree, a physical oid, 0 where there is none (apfs_extentref_tree_oid)
unfoldable pub extents_root_of : List ℕ → ℕ
extents_root_of bytes = u64_at bytes 144

-- the root of the snapshot metadata tree, a physical oid, 0 where there is none (apfs_snap_meta_tree_oid)
unfoldable pub snaps_root_of : List ℕ → ℕ
snaps_root_of bytes = u64_at bytes 152

-- the transaction to revert to when the volume is next mounted (apfs_revert_to_xid)
unfoldable pub revert_to_of : List ℕ → ℕ
revert_to_of bytes = u64_at bytes 160

-- the number of snapshots (apfs_num_snapshots)
unfoldable pub snapshots_of : List ℕ → ℕ
snapshots_of bytes = u64_at bytes 216

-- the volume's identifier (apfs_vol_uuid)
unfoldable pub uuid_of : List ℕ → List ℕ
uuid_of bytes = part_at bytes 240 16

-- the volume's flags (apfs_fs_flags)
unfoldable pub flags_of : List ℕ → ℕ
flags_of bytes = u64_at bytes 264

-- the volume's name: 256 bytes up to the first zero (apfs_volname)
unfoldable pub name_of : List ℕ → List ℕ
name_of bytes = before_first (λ b. b == 0) (part_at bytes 704 256)

-- the volume's role (apfs_role)
unfoldable pub role_of : List ℕ → ℕ
role_of bytes = u16_at bytes 964

-- the state of a change of encryption (apfs_er_state_oid)
unfoldable pub rolling_of : List ℕ → ℕ
rolling_of bytes = u64_at bytes 976

-- the extended snapshot metadata, a virtual oid, 0 where there is none (apfs_snap_meta_ext_oid)
unfoldable pub meta_ext_of : List ℕ → ℕ
meta_ext_of bytes = u64_at bytes 1000

-- the integrity metadata of a sealed volume (apfs_integrity_meta_oid)
unfoldable pub integrity_of : List ℕ → ℕ
integrity_of bytes = u64_at bytes 1024

-- a sealed volume's own tree of extents (apfs_fext_tree_oid)
unfoldable pub file_extents_of : List ℕ → ℕ
file_extents_of bytes = u64_at bytes 1032

-- a number that the reference reserves
unfoldable pub reserved_of : List ℕ → ℕ
reserved_of bytes = u64_at bytes 1048
