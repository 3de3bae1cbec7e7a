-- The numbers of keys and of nodes of a tree (B-Trees, btree_info_t).
use Rattle.std.specs.Prelude.{ℕ, Bool, true, ◌&&◌, ◌==◌, List, length, Option, None, Some}
use Rattle.bt_node.specs.Node.{key_count_of, node_count_of}
use Rattle.bt_cursor.specs.Tree.{Tree, root_place, node_at}
use Rattle.bt_cursor.specs.Flat.{flat_of}
use Rattle.bt_cursor.specs.Met.{nodes_of}

-- a root's numbers of keys and of nodes are these; without a root nothing is counted
abbrev pub has_counts : Option (List ℕ) → ℕ → ℕ → Bool
has_counts None keys nodes = true
has_counts (Some node) keys nodes = (key_count_of node == keys) && (node_count_of node == nodes)

-- Counts: the root's numbers are those of the entries in the flat list and of the nodes met
abbrev pub is_counted : {K : Type 0} → Tree K → ℕ → Bool
is_counted tree root = has_counts (node_at tree (root_place root)) (length (flat_of tree root)) (length (nodes_of tree root))
