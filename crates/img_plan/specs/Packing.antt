-- How items are packed into leaves.
use Rattle.std.specs.Prelude.{◌≡◌, ℕ, ◌+◌, ◌-◌, ◌≤◌, ◌<◌, ◌^◌, ◌==◌, [], ◌∷◌, ◌++◌, List, length, map, min, slice_index, slice_index_or, sum_by, All, Vec, vec_len, if◌then◌else◌}
use Rattle.std.specs.List.{flat_map}
use Rattle.std.specs.declared.alloc.Global.{Global}
use Rattle.img_plan.specs.Nodes.{bytes_in_node}
use Rattle.img_plan.specs.declared.plan.Leaf.{Leaf}
use Rattle.img_plan.specs.declared.packing.Packing.{Packing}

-- a key and its value
abbrev pub Pair : Type 0
Pair = Vec ℕ Global × Vec ℕ Global

-- the bytes that some items take in a node
abbrev pub bytes_of : List Pair → ℕ
bytes_of items = sum_by (λ item. bytes_in_node (vec_len item.0) (vec_len item.1)) items

-- the items of some leaves, joined in their order
abbrev pub items_of : List Leaf → List Pair
items_of leaves = flat_map (λ (leaf : Leaf). leaf.items.items) leaves

-- the id of the leaf of a place: all are 0 where the first one is, otherwise they rise up to the greatest number
abbrev pub id_at : ℕ → ℕ → ℕ
id_at first place = if first == 0 then 0 else min (first + place) (2 ^ 64 - 1)

-- each leaf has the id of its place
abbrev pub HasIds : ℕ → List Leaf → Type 0
HasIds first leaves = (k : ℕ) (none : Leaf) → k < length leaves → (slice_index_or leaves k none).oid ≡ id_at first k

-- a leaf whose items take more than 4,000 bytes has no other item beside the one that does
abbrev pub IsRoomy : List Pair → Type 0
IsRoomy items = 4000 < bytes_of items → length items ≤ 1

-- what two neighbours of a list add up to is above 4,000
abbrev pub IsTight : List ℕ → Type 0
IsTight sizes = (k : ℕ) → k + 1 < length sizes → 4000 < slice_index sizes k + slice_index sizes (k + 1)

-- the bytes that each leaf's items take
abbrev pub sizes_of : List Leaf → List ℕ
sizes_of leaves = map (λ (leaf : Leaf). bytes_of leaf.items.items) leaves

-- items packed into leaves, no two neighbours of which one leaf could hold
pub record IsPacked (first : ℕ) (items : List Pair) (leaves : List Leaf) : Type 0 where
  pub joined : items_of leaves ≡ items
  pub ids : HasIds first leaves
  pub roomy : All (λ (leaf : Leaf). IsRoomy leaf.items.items) leaves
  pub tight : IsTight (sizes_of leaves)

-- items of which the first ones stand in leaves, and the last ones are to be the next leaf's
pub record IsPacking (items : List Pair) (packing : Packing) : Type 0 where
  pub joined : items_of packing.leaves.items ++ packing.last.items ≡ items
  pub ids : HasIds packing.first packing.leaves.items
  pub roomy : All (λ (leaf : Leaf). IsRoomy leaf.items.items) packing.leaves.items
  pub last_roomy : IsRoomy packing.last.items
  pub tight : IsTight (sizes_of packing.leaves.items ++ bytes_of packing.last.items ∷ [])
  pub bytes : packing.bytes ≡ min (bytes_of packing.last.items) (2 ^ 64 - 1)
  pub some_last : packing.last.items ≡ [] → packing.leaves.items ≡ []

-- what was gathered is one leaf more, and nothing is gathered then
pub record Closes (old new : Packing) : Type 0 where
  pub first : new.first ≡ old.first
  pub leaves : new.leaves.items ≡ old.leaves.items ++ (record { oid = id_at old.first (length old.leaves.items); items = old.last }) ∷ []
  pub last : new.last.items ≡ []
  pub bytes : new.bytes ≡ 0
