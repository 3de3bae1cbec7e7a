-- The state of a walk over a tree by the nodes above its leaves: its outline, and how much of it is passed. A caller needs none of it.
use Rattle.std.specs.Prelude.{◌≡◌, ℕ, ◌+◌, ◌≤◌, Bool, true, false, nat_lt, is_some, List, [], ◌∷◌, ◌++◌, map, length, Option, None, Some, option_map, option_and_then}
use Rattle.std.specs.List.{flat_map, range_with_len, filter, list_all}
use Rattle.apfs_model.specs.Lists.{last, passes, through}
use Rattle.obj_base.specs.declared.site.Site.{Site}
use Rattle.bt_node.specs.Shape.{Shape}
use Rattle.bt_node.specs.Node.{count_of, key_count_of, node_count_of}
use Rattle.bt_node.specs.Entries.{pair_of, child_of}
use Rattle.bt_node.specs.declared.key.Rank.{Rank}
use Rattle.bt_node.specs.declared.node.NodeAt.{NodeAt}
use Rattle.bt_cursor.specs.Tree.{Tree, tree_in, root_place, node_at}
use Rattle.bt_cursor.specs.Line.{Item, entries_of, line_part, line_of, is_leaf_item}
use Rattle.bt_cursor.specs.Met.{places_under, places_in, places_of, has_node}
use Rattle.bt_cursor.specs.Order.{rank_of, first_misplaced}
use Rattle.bt_cursor.specs.WholeTree.{leaf_pairs}
use Rattle.bt_cursor.specs.Seen.{reads_for}
use Rattle.view_change.specs.declared.leaf.Leaf.{Leaf}
use Rattle.view_change.specs.declared.outline.Separator.{Separator}
use Rattle.view_change.specs.declared.outline.Outline.{Outline}
use Rattle.view_change.specs.declared.seen.Seen.{Seen}
use Rattle.view_change.specs.Leaves.{leaf_at, leaves_at, records_in}

-- the place of a node of a level below a root
abbrev pub node_place : ℕ → ℕ → NodeAt
node_place level oid = record { oid = oid; root = false; level = Some level }

-- the separator of entry i of a node above the leaves
abbrev pub separator_of : {K : Type 0} → Shape K → List ℕ → ℕ → Separator
separator_of shape node i = record { rank = rank_of shape (pair_of shape node i); child = Some (child_of shape node i) }

-- the separators of a node above the leaves
abbrev pub separators_of : {K : Type 0} → Shape K → List ℕ → List Separator
separators_of shape node = map (separator_of shape node) (range_with_len 0 (count_of node))

-- a separator whose child's items stand in the outline
abbrev pub opened : Separator → Separator
opened next = record { rank = next.rank; child = None }

-- the separators of a child of a level; none where there is no child, or it isn't there
abbrev pub separators_in : {K : Type 0} → Tree K → ℕ → Option ℕ → List Separator
separators_in tree level child = through (option_and_then (λ oid. node_at tree (node_place level oid)) child) (separators_of tree.shape)

-- what stands for a separator one level down, where its child has this level
abbrev pub below_of : {K : Type 0} → Tree K → ℕ → Separator → List Separator
below_of tree level next = opened next ∷ separators_in tree level next.child

-- the child of a level is there, where there is one
abbrev pub is_child_there : {K : Type 0} → Tree K → ℕ → Option ℕ → Bool
is_child_there tree level None = true
is_child_there tree level (Some oid) = has_node tree (node_place level oid)

-- how many children of separators are still to be read
abbrev pub reads_in : List Separator → ℕ
reads_in [] = 0
reads_in (next ∷ others) = reads_for (is_some next.child) + reads_in others

-- the leaves to which separators lead, those without a block left out
abbrev pub leaves_in : Site → (ℕ → Option ℕ) → List Separator → List Leaf
leaves_in site named separators = flat_map (λ (next : Separator). through next.child (λ oid. leaf_at site named (node_place 0 oid))) separators

-- the items of a child of a level; none where there is no child, or it isn't there
abbrev pub items_in : {K : Type 0} → Tree K → ℕ → Option ℕ → List Item
items_in tree level None = []
items_in tree level (Some oid) = through (node_at tree (node_place level oid)) (λ node. flat_map (line_part tree level oid) (entries_of tree.shape node))

-- the place of a child of a level is this one; where there is no child, this is a place of a level above, and there is a node
abbrev pub LeadsTo : {K : Type 0} → Tree K → ℕ → Option ℕ → NodeAt → Type 0
LeadsTo tree level None at = (has_node tree at ≡ true) × (passes at.level (nat_lt level) ≡ true)
LeadsTo tree level (Some oid) at = at ≡ node_place level oid

-- an item of a node above the leaves with this rank
pub record Separates {K : Type 0} (shape : Shape K) (rank : Rank) (item : Item) : Type 0 where
  pub same : rank_of shape item.pair ≡ rank
  pub at : NodeAt
  pub upper : places_under item.level item.pair ≡ at ∷ []
  pub inner : is_leaf_item item ≡ false

-- a separator is that of an item, which leads to its child
pub record IsSeparator {K : Type 0} (tree : Tree K) (level : ℕ) (next : Separator) (item : Item) : Type 0 where
  pub separates : Separates tree.shape next.rank item
  pub leads : LeadsTo tree level next.child separates.at

-- separators are those of some items, where below each child of this level its items follow
abbrev pub AreSeparators : {K : Type 0} → Tree K → ℕ → List Separator → List Item → Type 0
AreSeparators tree level [] items = items ≡ []
AreSeparators tree level (next ∷ left) items = (item : Item) × ((rest : List Item) × (IsSeparator tree level next item × (items ≡ item ∷ (items_in tree level next.child ++ rest)) × AreSeparators tree level left rest))

-- an outline down to a level is that of a tree, and there were no more reads than nodes in it
pub record IsOutlined {K : Type 0} (tree : Tree K) (root start reads : ℕ) (outline : Outline) : Type 0 where
  pub node : List ℕ
  pub there : node_at tree (root_place root) ≡ Some node
  pub keys : outline.info.key_count ≡ key_count_of node
  pub nodes : outline.info.node_count ≡ node_count_of node
  pub line : AreSeparators tree outline.level outline.separators.items (line_of tree root)
  pub few : reads + reads_in outline.separators.items ≤ start + (1 + length outline.separators.items)

-- what is seen of some items, all in order, where the root tells these numbers of keys and of nodes
pub record HasSeen {K : Type 0} (shape : Shape K) (keys nodes : ℕ) (passed : List Item) (seen : Seen) : Type 0 where
  pub ordered : first_misplaced shape [] passed ≡ None
  pub before : seen.before ≡ option_map (λ (item : Item). rank_of shape item.pair) (last passed)
  pub leaf : seen.leaf ≡ option_map (λ (item : Item). rank_of shape item.pair) (last (filter is_leaf_item passed))
  pub keys_left : seen.keys + length (leaf_pairs passed) ≡ keys
  pub nodes_left : seen.nodes + (length (places_in passed) + 1) ≡ nodes

-- all of a tree's Line is passed but what these separators stand for: the leaves among the items were taken, each place to which they lead
-- has a node, and there were no more reads than nodes
pub record IsPassed {K : Type 0} (shape : Shape K) (site : Site) (named : ℕ → Option ℕ) (image : List ℕ) (root keys nodes : ℕ) (holds : List Leaf → Type 0) (start reads : ℕ) (left : List Separator) (seen : Seen) : Type 0 where
  pub passed : List Item
  pub items : List Item
  pub line : line_of (tree_in shape site named image) root ≡ passed ++ items
  pub separators : AreSeparators (tree_in shape site named image) 0 left items
  pub right : HasSeen shape keys nodes passed seen
  pub there : list_all (has_node (tree_in shape site named image)) (places_in passed) ≡ true
  pub leaves : List Leaf
  pub held : holds leaves
  pub all : leaves_at site named (places_of (tree_in shape site named image) root) ≡ leaves ++ leaves_in site named left
  pub records : leaf_pairs passed ≡ records_in shape site image leaves
  pub few : reads + reads_in left ≤ start + (1 + (length (places_in passed) + length left))
