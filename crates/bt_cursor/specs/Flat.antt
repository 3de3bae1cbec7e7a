-- The flat list of a tree: the entries of its leaves, in order.
use Rattle.std.specs.Prelude.{ℕ, zero, suc, List, [], ◌∷◌, flat_map}
use Rattle.apfs_model.specs.Lists.{through}
use Rattle.bt_node.specs.Node.{level_of}
use Rattle.bt_node.specs.Entries.{Pair, pairs_of}
use Rattle.bt_cursor.specs.Tree.{Tree, root_place, child_place, node_at}

-- the entries that an entry of a level stands for: itself at level 0, otherwise those that its child's entries stand for,
-- in their order; none where the child isn't there
abbrev pub flat_part : {K : Type 0} → Tree K → ℕ → Pair → List Pair
flat_part tree zero pair = pair ∷ []
flat_part tree (suc level) pair = through (node_at tree (child_place level pair)) (λ node. flat_map (flat_part tree level) (pairs_of tree.shape node))

-- the flat list of a tree by its root; empty where there is no root
abbrev pub flat_of : {K : Type 0} → Tree K → ℕ → List Pair
flat_of tree root = through (node_at tree (root_place root)) (λ node. flat_map (flat_part tree (level_of node)) (pairs_of tree.shape node))
