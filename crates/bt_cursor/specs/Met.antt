-- The nodes that a walk meets.
use Rattle.std.specs.Prelude.{◌≡◌, ℕ, zero, suc, ◌<◌, Bool, is_ok, List, [], ◌∷◌, flat_map, Ok}
use Rattle.std.specs.List.{filter, list_all}
use Rattle.bt_node.specs.Node.{level_of, count_of}
use Rattle.bt_node.specs.Entries.{Pair, pair_of}
use Rattle.bt_node.specs.declared.node.NodeAt.{NodeAt}
use Rattle.bt_cursor.specs.Tree.{Tree, root_place, child_place}
use Rattle.bt_cursor.specs.Line.{Item, line_of}

-- the places of the nodes that a walk over a tree meets: its root, and the child of each entry above the leaves of a
-- node that it meets
pub data IsMet {K : Type 0} (tree : Tree K) (root : ℕ) : NodeAt → Type 0 where
  first : IsMet tree root (root_place root)
  after : (at : NodeAt) (node : List ℕ) (level i : ℕ) → IsMet tree root at → tree.look at ≡ Ok node → level_of node ≡ suc level → i < count_of node → IsMet tree root (child_place level (pair_of tree.shape node i))

-- the place to which an item leads: its child's, above the leaves
abbrev pub places_under : ℕ → Pair → List NodeAt
places_under zero pair = []
places_under (suc level) pair = child_place level pair ∷ []

abbrev pub places_in : List Item → List NodeAt
places_in items = flat_map (λ (item : Item). places_under item.level item.pair) items

-- these places as a list, in the order of the walk, each as often as it is met
abbrev pub places_of : {K : Type 0} → Tree K → ℕ → List NodeAt
places_of tree root = root_place root ∷ places_in (line_of tree root)

-- a place has a node
abbrev pub has_node : {K : Type 0} → Tree K → NodeAt → Bool
has_node tree at = is_ok (tree.look at)

-- the nodes met: the places that have one, each as often as it is met
abbrev pub nodes_of : {K : Type 0} → Tree K → ℕ → List NodeAt
nodes_of tree root = filter (has_node tree) (places_of tree root)

-- a tree is walkable where each place that is met has a node
abbrev pub is_walkable : {K : Type 0} → Tree K → ℕ → Bool
is_walkable tree root = list_all (has_node tree) (places_of tree root)
