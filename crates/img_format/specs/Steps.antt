-- What the functions of this crate hand to one another. Nothing here is a promise.
use Rattle.std.specs.Prelude.{ℕ, ◌+◌, [], ◌∷◌, ◌++◌, List, map, flat_map, replicate, bit_or}
use Rattle.std.specs.List.{range_with_len}
use Rattle.img_format.specs.declared.field.Value.{Value}
use Rattle.img_format.specs.declared.field.Value.TheVariants.{U16, U32, U64, Bytes}
use Rattle.img_format.specs.declared.object.Head.{Head}
use Rattle.img_format.specs.Tables.{size, Field, num}
use Rattle.img_format.specs.Nodes.{values_end}

-- the bytes of a value
abbrev pub value_bytes : Value → List ℕ
value_bytes (U16 number) = num 2 number
value_bytes (U32 number) = num 4 number
value_bytes (U64 number) = num 8 number
value_bytes (Bytes bytes) = bytes.now

-- fields that are laid out, as fields of a table
abbrev pub field_of : ℕ × Value → Field
field_of field = (field.0, value_bytes field.1)

abbrev pub fields_of : List (ℕ × Value) → List Field
fields_of fields = map field_of fields

-- the bytes of a header after its sum
abbrev pub header_bytes : Head → List ℕ
header_bytes head = num 8 head.oid ++ num 8 1 ++ num 4 (bit_or head.storage head.kind) ++ num 4 head.subtype

-- the fields of a root without entries
abbrev pub empty_fields : ℕ → List Field
empty_fields flags =
    (32, num 2 flags) ∷ (34, num 2 0) ∷ (36, num 4 0) ∷ (40, num 2 0) ∷ (42, num 2 0)
    ∷ (values_end + 4, num 4 size) ∷ (values_end + 24, num 8 0) ∷ (values_end + 32, num 8 1)
    ∷ []

-- so many blocks of zeros
unfoldable pub zero_blocks : ℕ → List ℕ
zero_blocks count = flat_map (λ _. replicate size 0) (range_with_len 0 count)
