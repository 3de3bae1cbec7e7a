-- The attributes of what a path leads to (Extended Attributes).
use Rattle.std.specs.Prelude.{ℕ, Bool, List, length, map, bytes_eq, Option, None, Some, Result, Ok, Err}
use Rattle.std.specs.List.{find}
use Rattle.apfs_model.specs.Lists.{and_then}
use Rattle.fs_record.specs.Attributes.{Body, Attribute}
use Rattle.fs_record.specs.Attributes.Body.{Embedded, Streamed}
use Rattle.fs_record.specs.Facts.{all_for}
use Rattle.view_rules.specs.Facts.{Facts}
use Rattle.path_search.specs.Places.{Place}
use Rattle.path_search.specs.Found.{found}
use Rattle.path_search.specs.Order.{by_name}
use Rattle.path_read.specs.Contents.{body_in}
use Rattle.path_search.specs.declared.answer.Answer.{Answer}
use Rattle.path_search.specs.declared.answer.Answer.TheVariants.{NoAttribute}

-- how many bytes an attribute holds
abbrev pub body_len : Body → ℕ
body_len (Embedded bytes) = length bytes
body_len (Streamed id size) = size

-- the attributes of an id, by name
unfoldable pub attributes_in : Facts → ℕ → List Attribute
attributes_in facts id = by_name (λ (a : Attribute). a.name) (all_for id facts.attributes)

-- an attribute as it is told: its name, and how many bytes it holds
abbrev pub attribute_told : Attribute → List ℕ × ℕ
attribute_told a = (a.name, body_len a.body)

-- the attributes of what a path leads to, or the answer
abbrev pub attributes : Facts → List ℕ → Result (List (List ℕ × ℕ)) Answer
attributes facts path = and_then (found facts path) (λ (place : Place). Ok (map attribute_told (attributes_in facts place.id)))

-- an attribute has a name, byte by byte
abbrev pub is_called : List ℕ → Attribute → Bool
is_called name a = bytes_eq a.name name

-- the attribute of an id that has a name
unfoldable pub attribute_named : Facts → ℕ → List ℕ → Option Attribute
attribute_named facts id name = find (is_called name) (all_for id facts.attributes)

-- what an attribute holds; NoAttribute where there is none
abbrev pub held_by : ℕ → List ℕ → Facts → Option Attribute → Result (List ℕ) Answer
held_by block_size image facts None = Err NoAttribute
held_by block_size image facts (Some a) = Ok (body_in block_size image facts a.body)

-- what the attribute of a name holds, of what a path leads to, or the answer
abbrev pub attribute : ℕ → List ℕ → Facts → List ℕ → List ℕ → Result (List ℕ) Answer
attribute block_size image facts path name = and_then (found facts path) (λ (place : Place). held_by block_size image facts (attribute_named facts place.id name))
