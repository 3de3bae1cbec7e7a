-- Directory entries (File-System Objects, j_drec_val_t).
use Rattle.std.specs.Prelude.{ℕ, ◌%◌, not, ◌&&◌, nat_lt, List, length, Option, option_map, Result, Ok, Err, if◌then◌else◌}
use Rattle.apfs_model.specs.Bytes.{u16_at, u64_at}
use Rattle.bt_keys.specs.RecordKey.{hash_of, hashed_name_of, plain_name_of}
use Rattle.fs_name.specs.declared.naming.Names.{Names}
use Rattle.fs_name.specs.Normal.{are_hashed}
use Rattle.fs_name.specs.Text.{is_name, name_in}
use Rattle.fs_record.specs.Fields.{field_of, have_fields_room, is_field_long}
use Rattle.fs_record.specs.declared.fields.Field.{Field}
use Rattle.fs_record.specs.declared.fault.RecFault.{RecFault}
use Rattle.fs_record.specs.declared.fault.RecFault.TheVariants.{Length, Fields, Name}

-- an entry: its name and the name's hash, the file, its kind, and the sibling's id where it has one
pub record Entry : Type 0 where
  pub name : List ℕ
  pub hash : ℕ
  pub file_id : ℕ
  pub kind : ℕ
  pub sibling : Option ℕ

-- the bytes before an entry's extended fields
abbrev pub entry_len : ℕ
entry_len = 18

-- the type of the field of a sibling's id (DREC_EXT_TYPE_SIBLING_ID)
abbrev pub sibling_field : ℕ
sibling_field = 1

-- the name in an entry's key, its final zero among its bytes
abbrev pub entry_name_bytes : Names → List ℕ → List ℕ
entry_name_bytes names key = if are_hashed names then hashed_name_of key else plain_name_of key

-- the stored hash of an entry's name; 0 where names aren't hashed
abbrev pub entry_hash : Names → List ℕ → ℕ
entry_hash names key = if are_hashed names then hash_of key else 0

-- the id of an entry's sibling
unfoldable pub sibling_of : List ℕ → Option ℕ
sibling_of value = option_map (λ (f : Field). u64_at value f.at) (field_of value entry_len sibling_field)

-- what an entry's key and value say
abbrev pub entry_in : Names → List ℕ → List ℕ → Entry
entry_in names key value = record {
  name = name_in (entry_name_bytes names key);
  hash = entry_hash names key;
  file_id = u64_at value 0;
  kind = u16_at value 16 % 16;
  sibling = sibling_of value;
}

-- the entry, or the first part that is wrong
unfoldable pub entry_of : Names → List ℕ → List ℕ → Result Entry RecFault
entry_of names key value =
    if nat_lt (length value) entry_len then Err Length else
    if not (have_fields_room value entry_len && is_field_long (field_of value entry_len sibling_field) 8) then Err Fields else
    if not (is_name (entry_name_bytes names key)) then Err Name else
    Ok (entry_in names key value)
