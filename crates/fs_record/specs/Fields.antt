-- Extended fields (Extended Fields, xf_blob_t and x_field_t).
use Rattle.std.specs.Prelude.{ℕ, ◌+◌, ◌*◌, ◌/◌, Bool, true, ◌&&◌, ◌==◌, nat_le, List, [], ◌∷◌, length, map, slice_index, Option, None, Some, if◌then◌else◌}
use Rattle.std.specs.List.{range_with_len, list_all, find}
use Rattle.apfs_model.specs.Bytes.{u16_at}
use Rattle.fs_record.specs.declared.fields.Field.{Field}

-- what the table says of a field: its type and its size
pub record Size : Type 0 where
  pub kind : ℕ
  pub len : ℕ

-- how many fields a value has, where its fields start at a place (xf_num_exts)
unfoldable pub field_count_of : List ℕ → ℕ → ℕ
field_count_of value at = u16_at value at

-- item i of the table of fields (x_field_t)
unfoldable pub size_at : List ℕ → ℕ → ℕ → Size
size_at value at i = record { kind = slice_index value (at + 4 + 4 * i); len = u16_at value (at + 6 + 4 * i) }

-- the table of fields
abbrev pub sizes_of : List ℕ → ℕ → List Size
sizes_of value at = map (size_at value at) (range_with_len 0 (field_count_of value at))

-- a size rounded up to a multiple of 8
abbrev pub padded : ℕ → ℕ
padded n = 8 * ((n + 7) / 8)

-- a field of this size, whose contents start at a place
abbrev pub placed : ℕ → Size → Field
placed start s = record { kind = s.kind; at = start; len = s.len }

-- the fields, each after the one before it, whose size is rounded up
abbrev pub laid_out : ℕ → List Size → List Field
laid_out start [] = []
laid_out start (s ∷ ss) = placed start s ∷ laid_out (start + padded s.len) ss

-- a value has no fields where it ends before them
abbrev pub lacks_fields : List ℕ → ℕ → Bool
lacks_fields value at = length value == at

-- the fields of a value, which start at a place
unfoldable pub fields_of : List ℕ → ℕ → List Field
fields_of value at = if lacks_fields value at then [] else laid_out (at + 4 + 4 * field_count_of value at) (sizes_of value at)

-- the table of fields lies in the value
unfoldable pub has_table : List ℕ → ℕ → Bool
has_table value at = nat_le (at + 4) (length value) && nat_le (at + 4 + 4 * field_count_of value at) (length value)

-- Fields: the table and each field lie in the value
unfoldable pub have_fields_room : List ℕ → ℕ → Bool
have_fields_room value at = if lacks_fields value at then true else has_table value at && list_all (λ (f : Field). nat_le (f.at + f.len) (length value)) (fields_of value at)

-- the first field of a type
unfoldable pub field_of : List ℕ → ℕ → ℕ → Option Field
field_of value at type = find (λ (f : Field). f.kind == type) (fields_of value at)

-- Fields: the first field of a type, where there is one, has so many bytes or more
unfoldable pub is_field_long : Option Field → ℕ → Bool
is_field_long None n = true
is_field_long (Some f) n = nat_le n f.len
