-- What a walk may name, and where it is there.
use Rattle.std.specs.Prelude.{◌≡◌, ℕ, false, Some, Err}
use Rattle.apfs_model.specs.Counts.{given}
use Rattle.obj_base.specs.declared.stop.Feature.{Feature}
use Rattle.obj_base.specs.declared.stop.Stop.{Stop}
use Rattle.obj_base.specs.declared.stop.Stop.TheVariants.{Found, Unsupported}
use Rattle.bt_node.specs.declared.node.NodeAt.{NodeAt}
use Rattle.bt_cursor.specs.declared.fault.WalkFault.{WalkFault}
use Rattle.bt_cursor.specs.declared.fault.WalkFault.TheVariants.{Unsound, Unnamed, Order, Counts}
use Rattle.bt_cursor.specs.Tree.{Tree}
use Rattle.bt_cursor.specs.Line.{line_of}
use Rattle.bt_cursor.specs.Met.{IsMet}
use Rattle.bt_cursor.specs.Order.{out_of_order}
use Rattle.bt_cursor.specs.Counts.{is_counted}

-- a place that is met has no node, for this reason
pub record HasGap {K : Type 0} (tree : Tree K) (root : ℕ) (why : Stop WalkFault) : Type 0 where
  pub at : NodeAt
  pub met : IsMet tree root at
  pub gap : tree.look at ≡ Err why

-- the fault of a node is there: Unsound where the block that a place names fails a test, Unnamed where its id names none
abbrev pub IsNodeFault : {K : Type 0} → Tree K → ℕ → WalkFault → Type 0
IsNodeFault tree root (Unsound block why) = HasGap tree root (Found (Unsound block why))
IsNodeFault tree root (Unnamed oid) = HasGap tree root (Found (Unnamed oid))
IsNodeFault tree root (Order item) = ⊥
IsNodeFault tree root Counts = ⊥

-- a node has the feature, in this block
abbrev pub HasFeature : {K : Type 0} → Tree K → ℕ → Feature → ℕ → Type 0
HasFeature tree root feature block = HasGap tree root (Unsupported feature block)

-- Order: the first item out of order has this number, as it is given
pub record IsOutOfOrder {K : Type 0} (tree : Tree K) (root item : ℕ) : Type 0 where
  pub number : ℕ
  pub first : out_of_order tree.shape (line_of tree root) ≡ Some number
  pub same : item ≡ given number

-- the fault of a tree is there
abbrev pub IsWalkFault : {K : Type 0} → Tree K → ℕ → WalkFault → Type 0
IsWalkFault tree root (Unsound block why) = HasGap tree root (Found (Unsound block why))
IsWalkFault tree root (Unnamed oid) = HasGap tree root (Found (Unnamed oid))
IsWalkFault tree root (Order item) = IsOutOfOrder tree root item
IsWalkFault tree root Counts = is_counted tree root ≡ false
