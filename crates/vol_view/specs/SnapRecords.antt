-- The records of a snapshot metadata tree (Snapshot Metadata, j_snap_metadata_val_t and j_snap_name_val_t).
use Rattle.std.specs.Prelude.{ℕ, ◌+◌, Bool, ◌&&◌, ◌==◌, nat_le, List, [], length, filter, if◌then◌else◌}
use Rattle.apfs_model.specs.Bytes.{u16_at, u32_at, u64_at, part_at}
use Rattle.apfs_model.specs.Blocks.{in_container}
use Rattle.bt_node.specs.Entries.{Pair, bytes_in}
use Rattle.obj_base.specs.declared.site.Site.{Site}
use Rattle.bt_keys.specs.declared.record_key.SnapKey.{SnapKey}
use Rattle.bt_keys.specs.RecordKey.{id_of, record_kind_of, plain_name_of, snapshot_record, snapshot_name_record}
use Rattle.bt_keys.specs.Shapes.{snap_shape}
use Rattle.bt_cursor.specs.Tree.{Tree, tree_in}
use Rattle.bt_cursor.specs.Flat.{flat_of}
use Rattle.bt_cursor.specs.Steps.{steps_of}
use Rattle.bt_cursor.specs.declared.step.Step.{Step}
use Rattle.fs_name.specs.Text.{is_name, name_in}

-- the snapshot metadata trees of an image: an id names the block of its number
abbrev pub metadata_tree : List ℕ → Site → Tree SnapKey
metadata_tree image site = tree_in snap_shape site (in_container site.blocks) image

-- the records of the snapshot metadata tree of a root, none where the root is 0
unfoldable pub metadata_pairs : List ℕ → Site → ℕ → List Pair
metadata_pairs image site root = if root == 0 then [] else flat_of (metadata_tree image site) root

-- the steps of the snapshot metadata tree of a root, none where the root is 0
unfoldable pub metadata_steps : List ℕ → Site → ℕ → List Step
metadata_steps image site root = if root == 0 then [] else steps_of (metadata_tree image site) root

-- a snapshot's record
abbrev pub is_snapshot : Pair → Bool
is_snapshot pair = record_kind_of pair.key == snapshot_record

-- the record of a snapshot's name, whatever its id
abbrev pub is_snapshot_name : Pair → Bool
is_snapshot_name pair = record_kind_of pair.key == snapshot_name_record

-- the records of snapshots among some records, in their order
abbrev pub snapshot_pairs : List Pair → List Pair
snapshot_pairs pairs = filter is_snapshot pairs

-- the records of snapshots' names among some records, in their order
abbrev pub name_pairs : List Pair → List Pair
name_pairs pairs = filter is_snapshot_name pairs

-- a snapshot's transaction: the id of its record
abbrev pub snap_xid : Pair → ℕ
snap_xid pair = id_of pair.key

-- the root of the snapshot's extent reference tree, a physical oid, 0 where there is none (extentref_tree_oid)
unfoldable pub snap_extents_of : List ℕ → ℕ
snap_extents_of value = u64_at value 0

-- the block of the snapshot's superblock (sblock_oid)
unfoldable pub snap_super_of : List ℕ → ℕ
snap_super_of value = u64_at value 8

-- when the snapshot was made (create_time)
unfoldable pub snap_created_of : List ℕ → ℕ
snap_created_of value = u64_at value 16

-- the snapshot's flags (flags)
unfoldable pub snap_flags_of : List ℕ → ℕ
snap_flags_of value = u32_at value 44

-- the length of the snapshot's name, its final zero counted (name_len)
unfoldable pub snap_name_len : List ℕ → ℕ
snap_name_len value = u16_at value 48

-- the snapshot's name, its final zero among its bytes (name)
unfoldable pub snap_name_bytes : List ℕ → List ℕ
snap_name_bytes value = part_at value 50 (snap_name_len value)

-- a snapshot's record has its fixed part; of a shorter one nothing is read
abbrev pub is_snapshot_long : Pair → Bool
is_snapshot_long pair = nat_le 50 (length (bytes_in pair.value))

-- a snapshot's record is long enough for its fixed part and its name, and has a proper name
unfoldable pub is_snapshot_readable : Pair → Bool
is_snapshot_readable pair =
    (is_snapshot_long pair && nat_le (50 + snap_name_len (bytes_in pair.value)) (length (bytes_in pair.value)))
    && is_name (snap_name_bytes (bytes_in pair.value))

-- the record of a snapshot's name is long enough for a transaction, and its key has a proper name
unfoldable pub is_name_readable : Pair → Bool
is_name_readable pair = nat_le 8 (length (bytes_in pair.value)) && is_name (plain_name_of pair.key)

-- the name in a snapshot's record
abbrev pub snapshot_name : Pair → List ℕ
snapshot_name pair = name_in (snap_name_bytes (bytes_in pair.value))

-- the name in the record of a snapshot's name
abbrev pub record_name : Pair → List ℕ
record_name pair = name_in (plain_name_of pair.key)

-- the transaction that the record of a snapshot's name gives (snap_xid)
unfoldable pub named_xid : Pair → ℕ
named_xid pair = u64_at (bytes_in pair.value) 0
