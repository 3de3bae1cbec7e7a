-- Siblings: the names of a file that has several (Siblings, j_sibling_val_t and j_sibling_map_val_t).
use Rattle.std.specs.Prelude.{ℕ, ◌+◌, Bool, not, ◌||◌, nat_lt, List, length, Result, Ok, Err, if◌then◌else◌}
use Rattle.apfs_model.specs.Bytes.{u16_at, u64_at, part_at}
use Rattle.bt_keys.specs.RecordKey.{id_of, second_of}
use Rattle.fs_name.specs.Text.{is_name, name_in}
use Rattle.fs_record.specs.declared.fault.RecFault.{RecFault}
use Rattle.fs_record.specs.declared.fault.RecFault.TheVariants.{Length, Name}

-- a sibling link: a file, a sibling's id, and the directory and the name of its entry
pub record Link : Type 0 where
  pub file : ℕ
  pub sibling : ℕ
  pub parent : ℕ
  pub name : List ℕ

-- the length of a link's name, its final zero counted (name_len)
unfoldable pub link_name_len : List ℕ → ℕ
link_name_len value = u16_at value 8

-- a link's name, its final zero among its bytes (name)
unfoldable pub link_name_bytes : List ℕ → List ℕ
link_name_bytes value = part_at value 10 (link_name_len value)

-- Length: the value is too short for its name
unfoldable pub is_link_short : List ℕ → Bool
is_link_short value = nat_lt (length value) 10 || nat_lt (length value) (10 + link_name_len value)

-- the link, or the first part that is wrong
unfoldable pub link_of : List ℕ → List ℕ → Result Link RecFault
link_of key value =
    if is_link_short value then Err Length else
    if not (is_name (link_name_bytes value)) then Err Name else
    Ok (record { file = id_of key; sibling = second_of key; parent = u64_at value 0; name = name_in (link_name_bytes value) })

-- the file of a sibling, or the part that is wrong
unfoldable pub sibling_file_of : List ℕ → Result ℕ RecFault
sibling_file_of value = if nat_lt (length value) 8 then Err Length else Ok (u64_at value 0)
