-- Blocks as tables of fields.
use Rattle.std.specs.Prelude.{ℕ, ◌+◌, ◌-◌, Bool, ◌&&◌, nat_le, List, [], ◌∷◌, ◌++◌, length, replicate}
use Rattle.byteorder.specs.Endian.{little_bytes}
use Rattle.apfs_model.specs.Sum.{sum_of}

-- the bytes of a block
abbrev pub size : ℕ
size = 4096

-- a field: where it begins, and its bytes
abbrev pub Field : Type 0
Field = ℕ × List ℕ

-- a number in so many bytes, the lowest first
unfoldable pub num : ℕ → ℕ → List ℕ
num width number = little_bytes width number

-- the bytes from a place to an end: fields by ascending place, zeros before each, and zeros after the last
unfoldable pub laid : ℕ → ℕ → List Field → List ℕ
laid end at [] = replicate (end - at) 0
laid end at (field ∷ fields) = replicate (field.0 - at) 0 ++ (field.1 ++ laid end (field.0 + length field.1) fields)

-- the fields ascend, none reaches into the next, and the last ends by the end
abbrev pub is_laid : ℕ → ℕ → List Field → Bool
is_laid end at [] = nat_le at end
is_laid end at (field ∷ fields) = nat_le at field.0 && is_laid end (field.0 + length field.1) fields

-- bytes with their sum before them
unfoldable pub sealed : List ℕ → List ℕ
sealed rest = num 8 (sum_of (replicate 8 0 ++ rest)) ++ rest

-- the fields of a header after its sum: the id, the transaction, which is 1, the type and the subtype
abbrev pub header : ℕ → ℕ → ℕ → List Field
header oid type subtype = (8, num 8 oid) ∷ (16, num 8 1) ∷ (24, num 4 type) ∷ (28, num 4 subtype) ∷ []

-- an object of one block, by its header and its further fields
unfoldable pub object : ℕ → ℕ → ℕ → List Field → List ℕ
object oid type subtype fields = sealed (laid size 8 (header oid type subtype ++ fields))

-- a block without a header
abbrev pub plain : List Field → List ℕ
plain fields = laid size 0 fields
