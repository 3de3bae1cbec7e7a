-- The leaves of a tree and their records.
use Rattle.std.specs.Prelude.{ℕ, Bool, false, not, ◌==◌, List, [], ◌∷◌, filter, flat_map, Option, Some}
use Rattle.apfs_model.specs.Blocks.{block_of}
use Rattle.apfs_model.specs.Lists.{passes, through, value_of}
use Rattle.obj_base.specs.declared.site.Site.{Site}
use Rattle.bt_node.specs.Shape.{Shape}
use Rattle.bt_node.specs.Entries.{Pair, pairs_of}
use Rattle.bt_node.specs.Soundness.{node_of}
use Rattle.bt_node.specs.SoundNode.{IsNode}
use Rattle.bt_node.specs.declared.node.NodeAt.{NodeAt}
use Rattle.bt_cursor.specs.Tree.{block_named}
use Rattle.view_change.specs.declared.leaf.Leaf.{Leaf}

-- the place of a leaf below a root: a node of level 0
abbrev pub leaf_place : Leaf → NodeAt
leaf_place leaf = record { oid = leaf.oid; root = false; level = Some 0 }

-- the records of a leaf: the entries of the node in its block, none where no such node is there
abbrev pub records_of : {K : Type 0} → Shape K → Site → List ℕ → Leaf → List Pair
records_of shape site image leaf = through (value_of (node_of shape (leaf_place leaf) site (block_of site.block_size image leaf.block))) (pairs_of shape)

-- the records of leaves, in their order
abbrev pub records_in : {K : Type 0} → Shape K → Site → List ℕ → List Leaf → List Pair
records_in shape site image leaves = flat_map (records_of shape site image) leaves

-- a leaf is there: its block has a sound node of level 0 with its id
abbrev pub IsLeafThere : {K : Type 0} → Shape K → Site → List ℕ → Leaf → Type 0
IsLeafThere shape site image leaf = IsNode shape (leaf_place leaf) site (block_of site.block_size image leaf.block)

-- the place of a leaf, which isn't a root's
abbrev pub is_leaf_place : NodeAt → Bool
is_leaf_place at = passes at.level (λ level. level == 0)

-- the leaf at a place, where its id names a block
abbrev pub leaf_at : Site → (ℕ → Option ℕ) → NodeAt → List Leaf
leaf_at site named at = through (block_named site named at.oid) (λ block. record { oid = at.oid; block = block } ∷ [])

-- the leaves at some places, in their order
abbrev pub leaves_at : Site → (ℕ → Option ℕ) → List NodeAt → List Leaf
leaves_at site named places = flat_map (leaf_at site named) (filter is_leaf_place places)

-- the places above the leaves
abbrev pub uppers_in : List NodeAt → List NodeAt
uppers_in places = filter (λ (at : NodeAt). not (is_leaf_place at)) places
