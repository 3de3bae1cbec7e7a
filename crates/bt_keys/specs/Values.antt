-- The values of the physical trees.
use Rattle.std.specs.Prelude.{ℕ, ◌/◌, ◌%◌, ◌^◌, nat_lt, List, length, Option, None, Some, if◌then◌else◌}
use Rattle.apfs_model.specs.Bytes.{u32_at, u64_at, i32_at}
use Rattle.bt_keys.specs.declared.values.OmapValue.{OmapValue}
use Rattle.bt_keys.specs.declared.values.ExtValue.{ExtValue}

-- a mapping of an object map (Object Maps, omap_val_t)
unfoldable pub omap_value_of : List ℕ → Option OmapValue
omap_value_of value = if nat_lt (length value) 16 then None else Some (record { flags = u32_at value 0; size = u32_at value 4; paddr = u64_at value 8 })

-- the flags of a snapshot of an object map (Object Maps, omap_snapshot_t)
unfoldable pub omap_snap_flags_of : List ℕ → Option ℕ
omap_snap_flags_of value = if nat_lt (length value) 16 then None else Some (u32_at value 0)

-- the length in blocks of an entry of a free queue; an entry without a value has one block (Space Manager, spaceman_free_queue_val_t)
unfoldable pub queue_length_of : Option (List ℕ) → Option ℕ
queue_length_of None = Some 1
queue_length_of (Some value) = if nat_lt (length value) 8 then None else Some (u64_at value 0)

-- the length in blocks and the kind of a range, its owner, and how many streams refer to it (File-System Objects, j_phys_ext_val_t)
unfoldable pub ext_value_of : List ℕ → Option ExtValue
ext_value_of value =
    if nat_lt (length value) 20 then None else
    Some (record { length = u64_at value 0 % 2 ^ 60; kind = u64_at value 0 / 2 ^ 60; owner = u64_at value 8; count = i32_at value 16 })

-- the kind of a range that the volume or the snapshot itself has written (j_obj_kinds)
abbrev pub new_kind : ℕ
new_kind = 1
