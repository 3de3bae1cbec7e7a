-- Inodes (File-System Objects, j_inode_val_t).
use Rattle.std.specs.Prelude.{ℕ, ◌+◌, ◌/◌, ℤ, Bool, not, ◌&&◌, nat_lt, List, length, Option, option_map, Result, Ok, Err, if◌then◌else◌}
use Rattle.apfs_model.specs.Bytes.{u16_at, u32_at, u64_at, i32_at}
use Rattle.fs_record.specs.Fields.{field_of, have_fields_room, is_field_long}
use Rattle.fs_record.specs.declared.fields.Field.{Field}
use Rattle.fs_record.specs.declared.fault.RecFault.{RecFault}
use Rattle.fs_record.specs.declared.fault.RecFault.TheVariants.{Length, Fields}
use Rattle.fs_record.specs.declared.inode_view.StreamSize.{StreamSize}

-- an inode: its parent, its stream's id, its children or links, its flags, its mode, and its stream where it has one
pub record Inode : Type 0 where
  pub parent : ℕ
  pub private_id : ℕ
  pub links : ℤ
  pub bsd_flags : ℕ
  pub mode : ℕ
  pub stream : Option StreamSize

-- the bytes before an inode's extended fields
abbrev pub inode_len : ℕ
inode_len = 92

-- the type of the field of an inode's stream (INO_EXT_TYPE_DSTREAM), and its bytes (j_dstream_t)
abbrev pub stream_field : ℕ
stream_field = 8

abbrev pub stream_len : ℕ
stream_len = 40

-- the size of a stream at a place (size and alloced_size)
unfoldable pub stream_at : List ℕ → ℕ → StreamSize
stream_at value at = record { size = u64_at value at; allocated = u64_at value (at + 8) }

-- the stream of an inode
unfoldable pub stream_of : List ℕ → Option StreamSize
stream_of value = option_map (λ (f : Field). stream_at value f.at) (field_of value inode_len stream_field)

-- the fields of an inode's value (parent_id, private_id, nchildren or nlink, bsd_flags, mode)
unfoldable pub parent_of : List ℕ → ℕ
parent_of value = u64_at value 0

unfoldable pub private_id_of : List ℕ → ℕ
private_id_of value = u64_at value 8

unfoldable pub links_of : List ℕ → ℤ
links_of value = i32_at value 56

unfoldable pub bsd_flags_of : List ℕ → ℕ
bsd_flags_of value = u32_at value 68

unfoldable pub mode_of : List ℕ → ℕ
mode_of value = u16_at value 80

-- what an inode's value says
abbrev pub inode_in : List ℕ → Inode
inode_in value = record {
  parent = parent_of value;
  private_id = private_id_of value;
  links = links_of value;
  bsd_flags = bsd_flags_of value;
  mode = mode_of value;
  stream = stream_of value;
}

-- the inode, or the first part that is wrong
unfoldable pub inode_of : List ℕ → Result Inode RecFault
inode_of value =
    if nat_lt (length value) inode_len then Err Length else
    if not (have_fields_room value inode_len && is_field_long (field_of value inode_len stream_field) stream_len) then Err Fields else
    Ok (inode_in value)

-- the kind in a mode (File Modes, S_IFMT)
abbrev pub kind_in : ℕ → ℕ
kind_in mode = mode / 4096

-- the kind of an inode
abbrev pub inode_kind : Inode → ℕ
inode_kind inode = kind_in inode.mode
