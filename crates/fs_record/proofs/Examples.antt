-- Extended fields, and records that readers refuse.
use Rattle.std.specs.Prelude.{◌≡◌, ℕ, List, [], ◌∷◌, ◌++◌, replicate, Some, Err, refl}
use Rattle.apfs_model.specs.Bytes.{u16_at, u64_at}
use Rattle.fs_record.specs.Fields.{field_count_of, size_at, fields_of, has_table, have_fields_room, field_of, is_field_long}
use Rattle.fs_record.specs.Inodes.{stream_at, stream_of, inode_of}
use Rattle.fs_record.specs.Attributes.{contents_len, flags_of, is_attribute_short, attribute_of}
use Rattle.fs_record.specs.declared.fault.RecFault.TheVariants.{Length, Fields, Flags}

-- two fields: one of type 4 and 3 bytes, then a stream of size 7
abbrev fields : List ℕ
fields = 2 ∷ 0 ∷ 48 ∷ 0 ∷ 4 ∷ 0 ∷ 3 ∷ 0 ∷ 8 ∷ 0 ∷ 40 ∷ 0 ∷ []

abbrev inode : List ℕ
inode = replicate 92 0 ++ (fields ++ (replicate 8 9 ++ (7 ∷ replicate 39 0)))

-- the second field begins 8 bytes after the first, whose size is rounded up
pub stream_found : stream_of inode ≡ Some (record { size = 7; allocated = 0 })
unfolding stream_of stream_at field_of fields_of field_count_of size_at u16_at u64_at
stream_found = refl

pub inode_short : inode_of (replicate 91 0) ≡ Err Length
unfolding inode_of
inode_short = refl

-- a table that leaves the value
pub inode_cut : inode_of (replicate 92 0 ++ fields) ≡ Err Fields
unfolding inode_of have_fields_room has_table field_of fields_of field_count_of size_at is_field_long u16_at
inode_cut = refl

-- an attribute with neither flag, and one with both
abbrev key : List ℕ
key = replicate 8 0 ++ (2 ∷ 0 ∷ 97 ∷ 0 ∷ [])

pub attribute_flagless : attribute_of key (0 ∷ 0 ∷ 1 ∷ 0 ∷ 5 ∷ []) ≡ Err Flags
unfolding attribute_of is_attribute_short contents_len flags_of u16_at
attribute_flagless = refl
