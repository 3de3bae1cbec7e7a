-- What is told of a leaf by its node.
use Rattle.std.specs.Prelude.{◌≡◌, ℕ, true, Bool, ◌&&◌, ◌||◌, List, ◌∷◌, map, length, Some, option_map}
use Rattle.apfs_model.specs.Blocks.{block_of}
use Rattle.apfs_model.specs.Lists.{last}
use Rattle.obj_base.specs.declared.site.Site.{Site}
use Rattle.bt_node.specs.Rank.{is_below, is_same_rank}
use Rattle.bt_node.specs.Shape.{Shape}
use Rattle.bt_node.specs.SoundNode.{IsNode}
use Rattle.bt_node.specs.declared.key.Rank.{Rank}
use Rattle.bt_cursor.specs.Line.{Item, entries_of}
use Rattle.bt_cursor.specs.Order.{rank_of, is_strict_leaf, is_ordered}
use Rattle.view_change.specs.declared.leaf.Leaf.{Leaf}
use Rattle.view_change.specs.declared.leaf_taker.Ends.{Ends}
use Rattle.view_change.specs.Leaves.{leaf_place}
use Rattle.view_change.specs.Ends.{leaf_item}

-- the node of a leaf
pub record IsNodeOf {K : Type 0} (shape : Shape K) (site : Site) (image : List ℕ) (leaf : Leaf) (node : List ℕ) : Type 0 where
  pub sound : IsNode shape (leaf_place leaf) site node
  pub found : node ≡ block_of site.block_size image leaf.block

-- a key may not come after one of a rank
abbrev pub is_misplaced_after : {K : Type 0} → Shape K → K → Rank → Bool
is_misplaced_after shape key rank = is_below (shape.rank key) rank || (shape.strict key && is_same_rank (shape.rank key) rank)

-- some items of a leaf are in order, and these are their ends
pub record AreEndsOf {K : Type 0} (shape : Shape K) (items : List Item) (ends : Ends) : Type 0 where
  pub ordered : is_ordered shape items ≡ true
  pub item : Item
  pub others : List Item
  pub split : items ≡ item ∷ others
  pub first : rank_of shape item.pair ≡ ends.first
  pub strict : is_strict_leaf shape item ≡ ends.strict
  pub last_rank : option_map (λ (other : Item). rank_of shape other.pair) (last items) ≡ Some ends.last
  pub counted : length items ≡ ends.count

-- the same of the items of a node, whatever its id
abbrev pub AreEnds : {K : Type 0} → Shape K → List ℕ → Ends → Type 0
AreEnds shape node ends = (oid : ℕ) → AreEndsOf shape (map (leaf_item oid) (entries_of shape node)) ends
