-- The keys of the seven kinds of trees.
use Rattle.std.specs.Prelude.{ℕ, Bool, true, false, ◌==◌, nat_lt, length, None, Some, if◌then◌else◌}
use Rattle.apfs_model.specs.Bytes.{u64_at}
use Rattle.apfs_model.specs.Object.{map_kind, map_snapshots_kind, queue_kind, extents_kind, snapshots_kind, fs_tree_kind}
use Rattle.bt_node.specs.Shape.{Shape}
use Rattle.bt_node.specs.declared.key.Rank.{Rank}
use Rattle.bt_node.specs.declared.key.Layout.TheVariants.{Fixed, Variable, Either}
use Rattle.bt_keys.specs.RecordKey.{id_of, record_kind_of, sub_of, is_fs_key, is_snap_key, is_ext_key, is_strict_kind, extent_record, snapshot_record}
use Rattle.bt_keys.specs.declared.number_key.OmapKey.{OmapKey}
use Rattle.bt_keys.specs.declared.number_key.OmapSnapKey.{OmapSnapKey}
use Rattle.bt_keys.specs.declared.number_key.QueueKey.{QueueKey}
use Rattle.bt_keys.specs.declared.record_key.ExtKey.{ExtKey}
use Rattle.bt_keys.specs.declared.record_key.SnapKey.{SnapKey}
use Rattle.bt_keys.specs.declared.record_key.FsRecordKey.{FsRecordKey}

-- the three numbers of a rank
abbrev pub rank3 : ℕ → ℕ → ℕ → Rank
rank3 id kind sub = record { id = id; kind = kind; sub = sub }

-- the keys of an object map: an oid and a transaction (Object Maps, omap_key_t)
abbrev pub omap_shape : Shape OmapKey
omap_shape = record {
  subtype = map_kind;
  layout = Fixed;
  key_len = 16;
  value_len = 16;
  ghosts = false;
  read = λ key. if nat_lt (length key) 16 then None else Some (record { oid = u64_at key 0; xid = u64_at key 8 });
  rank = λ k. rank3 k.oid k.xid 0;
  strict = λ _. true;
}

-- the keys of an object map's snapshots: a transaction (Object Maps, omap_snapshot_t)
abbrev pub omap_snap_shape : Shape OmapSnapKey
omap_snap_shape = record {
  subtype = map_snapshots_kind;
  layout = Fixed;
  key_len = 8;
  value_len = 16;
  ghosts = false;
  read = λ key. if nat_lt (length key) 8 then None else Some (record { xid = u64_at key 0 });
  rank = λ k. rank3 k.xid 0 0;
  strict = λ _. true;
}

-- the keys of a free queue: the transaction that freed, and the first block (Space Manager, spaceman_free_queue_key_t)
abbrev pub queue_shape : Shape QueueKey
queue_shape = record {
  subtype = queue_kind;
  layout = Fixed;
  key_len = 16;
  value_len = 8;
  ghosts = true;
  read = λ key. if nat_lt (length key) 16 then None else Some (record { xid = u64_at key 0; paddr = u64_at key 8 });
  rank = λ k. rank3 k.xid k.paddr 0;
  strict = λ _. true;
}

-- the keys of an extent reference tree: a range's first block (File-System Objects, j_phys_ext_key_t)
abbrev pub ext_shape : Shape ExtKey
ext_shape = record {
  subtype = extents_kind;
  layout = Either;
  key_len = 8;
  value_len = 20;
  ghosts = false;
  read = λ key. if is_ext_key key then Some (record { first = id_of key }) else None;
  rank = λ k. rank3 k.first extent_record 0;
  strict = λ _. true;
}

-- the keys of a snapshot metadata tree: a snapshot's transaction, or a name (Snapshot Metadata, j_snap_metadata_key_t and j_snap_name_key_t)
abbrev pub snap_shape : Shape SnapKey
snap_shape = record {
  subtype = snapshots_kind;
  layout = Variable;
  key_len = 0;
  value_len = 0;
  ghosts = false;
  read = λ key. if is_snap_key key then Some (record { id = id_of key; kind = record_kind_of key }) else None;
  rank = λ k. rank3 k.id k.kind 0;
  strict = λ k. k.kind == snapshot_record;
}

-- the keys of a file-system tree, whose entries have hashed names or not (File-System Objects, j_key_t, and j_drec_hashed_key_t or j_drec_key_t)
abbrev pub fs_record_shape : {n : ℕ} → Bool → Shape (FsRecordKey n)
fs_record_shape hashed = record {
  subtype = fs_tree_kind;
  layout = Variable;
  key_len = 0;
  value_len = 0;
  ghosts = false;
  read = λ key. if is_fs_key hashed key then Some (record { id = id_of key; kind = record_kind_of key; sub = sub_of hashed key }) else None;
  rank = λ k. rank3 k.id k.kind k.sub;
  strict = λ k. is_strict_kind k.kind;
}

-- the keys of a file-system tree with hashed names; the parameter of the type is 1 for true and 0 for false
abbrev pub FsKey : Type 0
FsKey = FsRecordKey 1

abbrev pub fs_shape : Shape FsKey
fs_shape = fs_record_shape true

-- the keys of a file-system tree whose names aren't hashed
abbrev pub FsPlainKey : Type 0
FsPlainKey = FsRecordKey 0

abbrev pub fs_plain_shape : Shape FsPlainKey
fs_plain_shape = fs_record_shape false
