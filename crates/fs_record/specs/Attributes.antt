-- Extended attributes (Extended Attributes, j_xattr_val_t).
use Rattle.std.specs.Prelude.{ℕ, ◌+◌, Bool, not, ◌&&◌, ◌||◌, nat_lt, List, length, Result, Ok, Err, if◌then◌else◌}
use Rattle.apfs_model.specs.Bytes.{u16_at, u64_at, part_at, has_flag}
use Rattle.bt_keys.specs.RecordKey.{plain_name_of}
use Rattle.fs_name.specs.Text.{is_name, name_in}
use Rattle.fs_record.specs.declared.fault.RecFault.{RecFault}
use Rattle.fs_record.specs.declared.fault.RecFault.TheVariants.{Length, Flags, Name}

-- what an attribute holds: its bytes, or a stream by its id and its size
pub data Body : Type 0 where
  Embedded : List ℕ → Body
  Streamed : ℕ → ℕ → Body

pub record Attribute : Type 0 where
  pub name : List ℕ
  pub body : Body

-- the attribute's flags (flags, XATTR_DATA_STREAM and XATTR_DATA_EMBEDDED)
unfoldable pub flags_of : List ℕ → ℕ
flags_of value = u16_at value 0

abbrev pub is_streamed : List ℕ → Bool
is_streamed value = has_flag (flags_of value) 1

abbrev pub is_embedded : List ℕ → Bool
is_embedded value = has_flag (flags_of value) 2

-- exactly one of the two flags is set
abbrev pub is_either : List ℕ → Bool
is_either value = if is_streamed value then not (is_embedded value) else is_embedded value

-- the length of an attribute's contents (xdata_len)
unfoldable pub contents_len : List ℕ → ℕ
contents_len value = u16_at value 2

-- an attribute's contents (xdata)
unfoldable pub contents_of : List ℕ → List ℕ
contents_of value = part_at value 4 (contents_len value)

-- the bytes of an attribute's stream: an id, and the stream's size and the rest (j_xattr_dstream_t)
abbrev pub streamed_len : ℕ
streamed_len = 48

-- Length: the value is too short for its contents, or its contents for their stream
unfoldable pub is_attribute_short : List ℕ → Bool
is_attribute_short value =
    nat_lt (length value) 4
    || (nat_lt (length value) (4 + contents_len value) || (is_streamed value && nat_lt (contents_len value) streamed_len))

-- what an attribute's value holds
unfoldable pub body_in : List ℕ → Body
body_in value = if is_streamed value then Streamed (u64_at (contents_of value) 0) (u64_at (contents_of value) 8) else Embedded (contents_of value)

-- the attribute, or the first part that is wrong
unfoldable pub attribute_of : List ℕ → List ℕ → Result Attribute RecFault
attribute_of key value =
    if is_attribute_short value then Err Length else
    if not (is_either value) then Err Flags else
    if not (is_name (plain_name_of key)) then Err Name else
    Ok (record { name = name_in (plain_name_of key); body = body_in value })
