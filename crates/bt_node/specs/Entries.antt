-- The entries of a node.
use Rattle.std.specs.Prelude.{ℕ, ◌+◌, ◌-◌, ◌*◌, Bool, ◌==◌, List, [], map, Option, None, Some, if◌then◌else◌}
use Rattle.std.specs.List.{range_with_len}
use Rattle.apfs_model.specs.Bytes.{u16_at, u64_at, part_at}
use Rattle.bt_node.specs.declared.entries.Place.{Place}
use Rattle.bt_node.specs.Shape.{Shape}
use Rattle.bt_node.specs.Node.{level_of, count_of, is_fixed, end_of, table_begin, keys_begin}

-- the length of a fixed value: above the leaves it is a child's oid
abbrev pub fixed_value_len : {K : Type 0} → Shape K → List ℕ → ℕ
fixed_value_len shape node = if level_of node == 0 then shape.value_len else 8

-- a table entry of a node with fixed sizes gives offsets alone (kvoff_t)
unfoldable pub fixed_place : {K : Type 0} → Shape K → List ℕ → ℕ → Place
fixed_place shape node at = record { key_offset = u16_at node at; key_len = shape.key_len; value_offset = u16_at node (at + 2); value_len = fixed_value_len shape node }

-- another table entry gives offsets and lengths (kvloc_t)
unfoldable pub variable_place : List ℕ → ℕ → Place
variable_place node at = record { key_offset = u16_at node at; key_len = u16_at node (at + 2); value_offset = u16_at node (at + 4); value_len = u16_at node (at + 6) }

-- the bytes of a table entry
abbrev pub place_len : List ℕ → ℕ
place_len node = if is_fixed node then 4 else 8

-- table entry i: where entry i of the node lies
unfoldable pub place_of : {K : Type 0} → Shape K → List ℕ → ℕ → Place
place_of shape node i = if is_fixed node then fixed_place shape node (table_begin node + 4 * i) else variable_place node (table_begin node + 8 * i)

-- an entry without a value (BTOFF_INVALID)
abbrev pub is_ghost : Place → Bool
is_ghost place = place.value_offset == 0xffff

-- a key's bytes: its offset is counted from where the keys begin
unfoldable pub key_in : List ℕ → Place → List ℕ
key_in node place = part_at node (keys_begin node + place.key_offset) place.key_len

-- a value's bytes: its offset is counted backwards from where the values end
unfoldable pub value_in : List ℕ → Place → Option (List ℕ)
value_in node place = if is_ghost place then None else Some (part_at node (end_of node - place.value_offset) place.value_len)

-- an entry: a key's bytes, and a value's bytes where it has one
pub record Pair : Type 0 where
  pub key : List ℕ
  pub value : Option (List ℕ)

-- entry i of a node
abbrev pub pair_of : {K : Type 0} → Shape K → List ℕ → ℕ → Pair
pair_of shape node i = record { key = key_in node (place_of shape node i); value = value_in node (place_of shape node i) }

-- the entries of a node, in the order of its table of contents
abbrev pub pairs_of : {K : Type 0} → Shape K → List ℕ → List Pair
pairs_of shape node = map (pair_of shape node) (range_with_len 0 (count_of node))

-- a value's bytes, none where there is no value
abbrev pub bytes_in : Option (List ℕ) → List ℕ
bytes_in None = []
bytes_in (Some bytes) = bytes

-- the child that entry i of a node above the leaves names: the oid at the start of its value
abbrev pub child_of : {K : Type 0} → Shape K → List ℕ → ℕ → ℕ
child_of shape node i = u64_at (bytes_in (pair_of shape node i).value) 0

-- the children of a node above the leaves, in the order of its table of contents
abbrev pub children_of : {K : Type 0} → Shape K → List ℕ → List ℕ
children_of shape node = map (child_of shape node) (range_with_len 0 (count_of node))
