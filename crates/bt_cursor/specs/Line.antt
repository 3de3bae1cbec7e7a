-- The Line of a tree: all its entries, each before what stands below it.
use Rattle.std.specs.Prelude.{ℕ, zero, suc, Bool, ◌==◌, List, [], ◌∷◌, map, flat_map}
use Rattle.std.specs.List.{range_with_len}
use Rattle.apfs_model.specs.Lists.{through}
use Rattle.bt_node.specs.Node.{level_of, count_of}
use Rattle.bt_node.specs.Entries.{Pair, pair_of}
use Rattle.bt_node.specs.Shape.{Shape}
use Rattle.bt_cursor.specs.Tree.{Tree, root_place, child_in, child_place, node_at}

-- an item of the Line: an entry, with the id of its node, its number there, and the level of the node
pub record Item : Type 0 where
  pub node : ℕ
  pub at : ℕ
  pub level : ℕ
  pub pair : Pair

abbrev pub item_at : ℕ → ℕ → ℕ → Pair → Item
item_at node at level pair = record { node = node; at = at; level = level; pair = pair }

-- entry i of a node, with its number
abbrev pub entry_of : {K : Type 0} → Shape K → List ℕ → ℕ → ℕ × Pair
entry_of shape node i = (i, pair_of shape node i)

-- the entries of a node, each with its number
abbrev pub entries_of : {K : Type 0} → Shape K → List ℕ → List (ℕ × Pair)
entries_of shape node = map (entry_of shape node) (range_with_len 0 (count_of node))

-- an entry of a node of a level, and the items of its child; none of those where the child isn't there
abbrev pub line_part : {K : Type 0} → Tree K → ℕ → ℕ → ℕ × Pair → List Item
line_part tree zero oid entry = item_at oid entry.0 zero entry.1 ∷ []
line_part tree (suc level) oid entry = item_at oid entry.0 (suc level) entry.1 ∷ through (node_at tree (child_place level entry.1)) (λ node. flat_map (line_part tree level (child_in entry.1)) (entries_of tree.shape node))

-- the Line of a tree by its root; empty where there is no root
abbrev pub line_of : {K : Type 0} → Tree K → ℕ → List Item
line_of tree root = through (node_at tree (root_place root)) (λ node. flat_map (line_part tree (level_of node) root) (entries_of tree.shape node))

-- an item of a leaf
abbrev pub is_leaf_item : Item → Bool
is_leaf_item item = item.level == 0
