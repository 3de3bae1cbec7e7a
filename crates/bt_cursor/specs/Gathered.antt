-- What is gathered of the items of a tree's Line.
use Rattle.std.specs.Prelude.{◌≡◌, ℕ, ◌+◌, ◌≤◌, Bool, true, false, List, [], ◌∷◌, ◌++◌, length, Option, None, Some, option_map, map, filter_map}
use Rattle.std.specs.List.{filter, list_any}
use Rattle.apfs_model.specs.Counts.{given}
use Rattle.apfs_model.specs.Lists.{last}
use Rattle.obj_base.specs.declared.stop.Stop.{Stop}
use Rattle.obj_base.specs.declared.stop.Stop.TheVariants.{Found, Unsupported, ReadFault, NoMemory}
use Rattle.bt_node.specs.Shape.{Shape}
use Rattle.bt_node.specs.declared.node.NodeAt.{NodeAt}
use Rattle.bt_node.specs.declared.key.TreeKey as keys
use Rattle.bt_cursor.specs.declared.namer.Namer as namers
use Rattle.bt_cursor.specs.declared.liner.Liner.{Liner}
use Rattle.bt_cursor.specs.declared.seen.Seen.{Seen}
use Rattle.bt_cursor.specs.declared.gathering.GatherFault.{GatherFault}
use Rattle.bt_cursor.specs.declared.gathering.GatherFault.TheVariants.{Tree as TreeFault, Refused}
use Rattle.bt_cursor.specs.Tree.{Tree}
use Rattle.bt_cursor.specs.Line.{Item, line_of, is_leaf_item}
use Rattle.bt_cursor.specs.WholeTree.{child_id, IsWhole}
use Rattle.bt_cursor.specs.Met.{places_in, nodes_of}
use Rattle.bt_cursor.specs.Order.{rank_of, first_misplaced, is_ordered}
use Rattle.bt_cursor.specs.Faults.{IsWalkFault}
use Rattle.bt_cursor.specs.Seen.{reads_for}
use Rattle.bt_cursor.specs.Liners.{root_of, tree_of, item_of, is_deep, seen_of, HasPassed}

-- the item of a node and of a number in it, of a level, with the bytes of this key and this value
abbrev pub shown : ℕ → ℕ → ℕ → List ℕ → Option (List ℕ) → Item
shown node at level key value = record { node = node; at = at; level = level; pair = record { key = key; value = value } }

-- the ids of the nodes to which some items lead, in their order
abbrev pub children_of : List Item → List ℕ
children_of items = filter_map child_id items

-- the ids of the nodes of a tree that a walk meets, in its order, each as often as it is met
abbrev pub node_ids : {K : Type 0} → Tree K → ℕ → List ℕ
node_ids tree root = map (λ (at : NodeAt). at.oid) (nodes_of tree root)

-- Refused: the first item of a Line that is refused has this number, as it is given
pub record IsRefused (refuses : Item → Bool) (line : List Item) (number : ℕ) : Type 0 where
  pub before : List Item
  pub item : Item
  pub after : List Item
  pub split : line ≡ before ++ item ∷ after
  pub refused : refuses item ≡ true
  pub first : list_any refuses before ≡ false
  pub same : number ≡ given (length before)

-- why a tree can't be gathered is there
abbrev pub IsGatherFault : {K : Type 0} → Tree K → ℕ → (Item → Bool) → GatherFault → Type 0
IsGatherFault tree root refuses (TreeFault why) = IsWalkFault tree root why
IsGatherFault tree root refuses (Refused item) = IsRefused refuses (line_of tree root) item

-- a refusal is of an item that is refused, whether or not the image is told
abbrev pub RefusesOne : (Item → Bool) → Stop GatherFault → Type 0
RefusesOne refuses (Found (TreeFault why)) = Unit {0}
RefusesOne refuses (Found (Refused number)) = (item : Item) × (refuses item ≡ true)
RefusesOne refuses (Unsupported feature block) = Unit {0}
RefusesOne refuses ReadFault = Unit {0}
RefusesOne refuses NoMemory = Unit {0}

-- the items of a whole tree were gathered, and none of them is refused
pub record IsGathered {K : Type 0} (tree : Tree K) (root : ℕ) (holds : List Item → Type 0) (refuses : Item → Bool) : Type 0 where
  pub whole : IsWhole tree root
  pub held : holds (line_of tree root)
  pub none_refused : list_any refuses (line_of tree root) ≡ false

-- some items in order were gathered
pub record IsInOrder {K : Type 0} (shape : Shape K) (holds : List Item → Type 0) : Type 0 where
  pub items : List Item
  pub held : holds items
  pub ordered : is_ordered shape items ≡ true

-- what is seen of some items that are all in order, whether or not the image is told
pub record SeesOrder {K : Type 0} (shape : Shape K) (passed : List Item) (seen : Seen) : Type 0 where
  pub ordered : first_misplaced shape [] passed ≡ None
  pub before : seen.before ≡ option_map (λ (item : Item). rank_of shape item.pair) (last passed)
  pub leaf : seen.leaf ≡ option_map (λ (item : Item). rank_of shape item.pair) (last (filter is_leaf_item passed))

-- a liner has passed these items of an image, and there were no more reads than nodes that it entered
pub record HasWalked {K N : Type 0} {k : keys.Ghosts K} {n : namers.Ghosts N} (image : List ℕ) (passed : List Item) (start reads : ℕ) (liner : Liner K N k n) : Type 0 where
  pub has : HasPassed image passed liner
  pub few : reads + reads_for (is_deep liner) ≤ start + (1 + length (places_in passed))

-- these items are all of the Line of a whole tree, and there were no more reads than nodes in it
pub record IsWalked {K : Type 0} (tree : Tree K) (root : ℕ) (passed : List Item) (start reads : ℕ) : Type 0 where
  pub line : line_of tree root ≡ passed
  pub whole : IsWhole tree root
  pub few : reads ≤ start + length (nodes_of tree root)

-- so many items were gathered: those that a liner passed, none of them refused, in order, and of the image where it is told
pub record HasTaken {K N : Type 0} {k : keys.Ghosts K} {n : namers.Ghosts N} (told : Option (List ℕ)) (holds : List Item → Type 0) (refuses : Item → Bool) (number start reads : ℕ) (liner : Liner K N k n) : Type 0 where
  pub passed : List Item
  pub held : holds passed
  pub none_refused : list_any refuses passed ≡ false
  pub counted : number ≡ given (length passed)
  pub order : SeesOrder k.shape passed (seen_of liner)
  pub walked : (image : List ℕ) → told ≡ Some image → HasWalked image passed start reads liner

-- all items of a tree were gathered, none of them refused, in order, and of the image where it is told
pub record HasTakenAll {K : Type 0} (told : Option (List ℕ)) (tree : List ℕ → Tree K) (shape : Shape K) (root : ℕ) (holds : List Item → Type 0) (refuses : Item → Bool) (start reads : ℕ) : Type 0 where
  pub passed : List Item
  pub held : holds passed
  pub none_refused : list_any refuses passed ≡ false
  pub ordered : is_ordered shape passed ≡ true
  pub walked : (image : List ℕ) → told ≡ Some image → IsWalked (tree image) root passed start reads

-- a move gathers one more item, or there is none
abbrev pub Takes : {K N : Type 0} {k : keys.Ghosts K} {n : namers.Ghosts N} → Option (List ℕ) → (List Item → Type 0) → (Item → Bool) → ℕ → ℕ → ℕ → Liner K N k n → Liner K N k n → Bool → Type 0
Takes told holds refuses number start reads old new true = HasTaken told holds refuses (given (number + 1)) start reads new
Takes {k = k} told holds refuses number start reads old new false = HasTakenAll told (tree_of old) k.shape (root_of old) holds refuses start reads
