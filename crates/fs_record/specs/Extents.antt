-- Extents of streams (Data Streams, j_file_extent_val_t).
use Rattle.std.specs.Prelude.{ℕ, ◌%◌, ◌^◌, nat_lt, List, length, Result, Ok, Err, if◌then◌else◌}
use Rattle.apfs_model.specs.Bytes.{u64_at}
use Rattle.bt_keys.specs.RecordKey.{second_of}
use Rattle.fs_record.specs.declared.fault.RecFault.{RecFault}
use Rattle.fs_record.specs.declared.fault.RecFault.TheVariants.{Length}
use Rattle.fs_record.specs.declared.extents.FileExt.{FileExt}

-- the extent, or the part that is wrong; its length is the low 56 bits (J_FILE_EXTENT_LEN_MASK)
unfoldable pub extent_of : List ℕ → List ℕ → Result FileExt RecFault
extent_of key value =
    if nat_lt (length value) 24 then Err Length else
    Ok (record { logical = second_of key; length = u64_at value 0 % 2 ^ 56; block = u64_at value 8 })
