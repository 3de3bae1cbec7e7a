-- What is known of a whole tree, and of what a walk meets and stops for.
use Rattle.std.specs.Prelude.{◌≡◌, ℕ, true, Some, ◌==◌, List, map, Option, None, if◌then◌else◌}
use Rattle.bt_cursor.specs.Tree.{Tree, child_in}
use Rattle.bt_cursor.specs.Line.{line_of, Item, is_leaf_item}
use Rattle.bt_cursor.specs.Order.{is_ordered}
use Rattle.bt_cursor.specs.Counts.{is_counted}
use Rattle.bt_cursor.specs.Met.{is_walkable}
use Rattle.obj_base.specs.declared.stop.Stop.{Stop}
use Rattle.obj_base.specs.declared.stop.Stop.TheVariants.{Found, Unsupported, ReadFault, NoMemory}
use Rattle.bt_cursor.specs.declared.fault.WalkFault.{WalkFault}
use Rattle.bt_cursor.specs.declared.fault.WalkFault.TheVariants.{Unsound, Unnamed, Order, Counts}
use Rattle.std.specs.List.{filter}
use Rattle.bt_node.specs.Entries.{Pair}

-- the facts that make a tree whole
pub record IsWhole {K : Type 0} (tree : Tree K) (root : ℕ) : Type 0 where
  pub walkable : is_walkable tree root ≡ true
  pub ordered : is_ordered tree.shape (line_of tree root) ≡ true
  pub counted : is_counted tree root ≡ true

-- a walk stops for a node, or for the source or the memory, and for no order or count
abbrev pub IsOfNodes : Stop WalkFault → Type 0
IsOfNodes (Found (Unsound block why)) = Unit {0}
IsOfNodes (Found (Unnamed oid)) = Unit {0}
IsOfNodes (Found (Order item)) = ⊥
IsOfNodes (Found Counts) = ⊥
IsOfNodes (Unsupported feature block) = Unit {0}
IsOfNodes ReadFault = Unit {0}
IsOfNodes NoMemory = Unit {0}

-- the id of the child to which an item leads, above the leaves
abbrev pub child_id : Item → Option ℕ
child_id item = if item.level == 0 then None else Some (child_in item.pair)

-- the entries of leaves among some items
abbrev pub leaf_pairs : List Item → List Pair
leaf_pairs items = map (λ (item : Item). item.pair) (filter is_leaf_item items)
