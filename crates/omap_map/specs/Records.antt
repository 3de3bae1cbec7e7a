-- The records and the snapshots of an object map (Object Maps, omap_key_t, omap_val_t and omap_snapshot_t).
use Rattle.std.specs.Prelude.{ℕ, Bool, List, filter_map, Option, option_map, option_and_then}
use Rattle.apfs_model.specs.Bytes.{has_flag}
use Rattle.bt_node.specs.Entries.{Pair, bytes_in}
use Rattle.bt_keys.specs.declared.number_key.OmapKey.{OmapKey}
use Rattle.bt_keys.specs.declared.number_key.OmapSnapKey.{OmapSnapKey}
use Rattle.bt_keys.specs.declared.values.OmapValue.{OmapValue}
use Rattle.bt_keys.specs.Shapes.{omap_shape, omap_snap_shape}
use Rattle.bt_keys.specs.Values.{omap_value_of, omap_snap_flags_of}
use Rattle.omap_map.specs.declared.records.OmapRecord.{OmapRecord}

-- a record: what its key and its value say
abbrev pub joined : OmapKey → OmapValue → OmapRecord
joined k v = record { oid = k.oid; xid = k.xid; flags = v.flags; size = v.size; paddr = v.paddr }

-- the record of an entry of a map's tree
unfoldable pub record_of : Pair → Option OmapRecord
record_of pair = option_and_then (λ k. option_map (joined k) (omap_value_of (bytes_in pair.value))) (omap_shape.read pair.key)

-- the records of some entries, in their order
abbrev pub records_of : List Pair → List OmapRecord
records_of pairs = filter_map record_of pairs

-- a snapshot that a map knows: its transaction and its flags
unfoldable pub snapshot_of : Pair → Option (ℕ × ℕ)
snapshot_of pair = option_and_then (λ (k : OmapSnapKey). option_map (λ flags. (k.xid, flags)) (omap_snap_flags_of (bytes_in pair.value))) (omap_snap_shape.read pair.key)

-- the snapshots of some entries, in their order
abbrev pub snapshots_of : List Pair → List (ℕ × ℕ)
snapshots_of pairs = filter_map snapshot_of pairs

-- the flags of a mapping (Object Maps, Object Map Value Flags)
abbrev pub deleted_flag : ℕ
deleted_flag = 1

abbrev pub encrypted_flag : ℕ
encrypted_flag = 4

abbrev pub no_header_flag : ℕ
no_header_flag = 8

abbrev pub is_deleted : ℕ → Bool
is_deleted flags = has_flag flags deleted_flag

abbrev pub maps_encrypted : ℕ → Bool
maps_encrypted flags = has_flag flags encrypted_flag

abbrev pub maps_headless : ℕ → Bool
maps_headless flags = has_flag flags no_header_flag
