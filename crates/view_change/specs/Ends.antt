-- What is told of the items of a leaf, as they stand in the Line of its tree.
use Rattle.std.specs.Prelude.{◌≡◌, ℕ, true, List, ◌∷◌, map, length, Some, option_map}
use Rattle.apfs_model.specs.Blocks.{block_of}
use Rattle.apfs_model.specs.Lists.{last, through, value_of}
use Rattle.obj_base.specs.declared.site.Site.{Site}
use Rattle.bt_node.specs.Shape.{Shape}
use Rattle.bt_node.specs.Entries.{Pair}
use Rattle.bt_node.specs.Soundness.{node_of}
use Rattle.bt_cursor.specs.Line.{Item, item_at, entries_of}
use Rattle.bt_cursor.specs.Order.{rank_of, is_strict_leaf, is_ordered}
use Rattle.view_change.specs.declared.leaf.Leaf.{Leaf}
use Rattle.view_change.specs.declared.leaf_taker.Ends.{Ends}
use Rattle.view_change.specs.Leaves.{leaf_place, IsLeafThere}

-- the item of an entry of a leaf, by the entry's number
abbrev pub leaf_item : ℕ → ℕ × Pair → Item
leaf_item oid entry = item_at oid entry.0 0 entry.1

-- the items of a leaf: the entries of the node in its block, none where no such node is there
abbrev pub leaf_items : {K : Type 0} → Shape K → Site → List ℕ → Leaf → List Item
leaf_items shape site image leaf = through (value_of (node_of shape (leaf_place leaf) site (block_of site.block_size image leaf.block))) (λ node. map (leaf_item leaf.oid) (entries_of shape node))

-- a leaf is there, its items are in order, and these are the rank of its first key and whether that key is strict, the rank of its last
-- key, and the number of its records
pub record HasEnds {K : Type 0} (shape : Shape K) (site : Site) (image : List ℕ) (leaf : Leaf) (ends : Ends) : Type 0 where
  pub there : IsLeafThere shape site image leaf
  pub ordered : is_ordered shape (leaf_items shape site image leaf) ≡ true
  pub item : Item
  pub items : List Item
  pub split : leaf_items shape site image leaf ≡ item ∷ items
  pub first : rank_of shape item.pair ≡ ends.first
  pub strict : is_strict_leaf shape item ≡ ends.strict
  pub last_rank : option_map (λ (other : Item). rank_of shape other.pair) (last (leaf_items shape site image leaf)) ≡ Some ends.last
  pub counted : length (leaf_items shape site image leaf) ≡ ends.count
