-- How a walk over a Line goes on.
use Rattle.std.specs.Prelude.{◌≡◌, ℕ, Bool, true, false, IsTrue, List, [], ◌∷◌, ◌++◌, length, All, Some, Ok, Err}
use Rattle.apfs_model.specs.Counts.{given}
use Rattle.apfs_model.specs.Lists.{last}
use Rattle.bt_node.specs.Shape.{Shape}
use Rattle.bt_node.specs.Node.{key_count_of, node_count_of}
use Rattle.bt_node.specs.declared.node.NodeAt.{NodeAt}
use Rattle.obj_base.specs.declared.stop.Stop.{Stop}
use Rattle.obj_base.specs.declared.stop.Stop.TheVariants.{Found, Unsupported, ReadFault, NoMemory}
use Rattle.bt_cursor.specs.declared.fault.WalkFault.{WalkFault}
use Rattle.bt_cursor.specs.declared.fault.WalkFault.TheVariants.{Unsound, Unnamed, Order, Counts}
use Rattle.bt_cursor.specs.declared.seen.Seen.{Seen}
use Rattle.bt_cursor.specs.Tree.{Tree, root_place}
use Rattle.bt_cursor.specs.Line.{Item, line_of}
use Rattle.bt_cursor.specs.Met.{places_in, has_node}
use Rattle.bt_cursor.specs.Order.{out_of_order}
use Rattle.bt_cursor.specs.Counts.{is_counted}
use Rattle.bt_cursor.specs.Faults.{HasGap}
use Rattle.bt_cursor.specs.Seen.{is_out, seen_item, fits, HasSeen}

-- a child that was still to come has a node
abbrev pub Entered : {K : Type 0} → Tree K → Bool → NodeAt → Type 0
Entered tree deep child = IsTrue deep → has_node tree child ≡ true

-- a child that was still to come has no node, for this reason
pub record IsGapOf {K : Type 0} (tree : Tree K) (deep : Bool) (child : NodeAt) (why : Stop WalkFault) : Type 0 where
  pub comes : deep ≡ true
  pub gap : tree.look child ≡ Err why

-- a stop that tells of a node: a fact of it as a gap; nothing where it tells of order or counts
abbrev pub TellsGap : (Stop WalkFault → Type 0) → Stop WalkFault → Type 0
TellsGap is_gap (Found (Unsound block why)) = is_gap (Found (Unsound block why))
TellsGap is_gap (Found (Unnamed oid)) = is_gap (Found (Unnamed oid))
TellsGap is_gap (Found (Order item)) = Unit {0}
TellsGap is_gap (Found Counts) = Unit {0}
TellsGap is_gap (Unsupported feature block) = is_gap (Unsupported feature block)
TellsGap is_gap ReadFault = Unit {0}
TellsGap is_gap NoMemory = Unit {0}

-- the next item was passed in order, or none was left and the counts are right
abbrev pub Advances : {K : Type 0} → Shape K → Seen → Seen → List Item → List Item → Item → Bool → Type 0
Advances shape old new left left_new item true = (left ≡ item ∷ left_new) × ((is_out shape old item ≡ false) × (new ≡ seen_item shape old item))
Advances shape old new left left_new item false = (left ≡ []) × (fits old ≡ true)

-- the next item is out of order
abbrev pub IsBadNext : {K : Type 0} → Shape K → Seen → List Item → Type 0
IsBadNext shape seen [] = ⊥
IsBadNext shape seen (item ∷ items) = is_out shape seen item ≡ true

-- nothing is left, each child has a node, and the counts are wrong
pub record IsMiscounted {K : Type 0} (tree : Tree K) (deep : Bool) (child : NodeAt) (seen : Seen) (left : List Item) : Type 0 where
  pub none : left ≡ []
  pub entered : Entered tree deep child
  pub wrong : fits seen ≡ false

-- why the next item wasn't passed
abbrev pub StopsFor : {K : Type 0} → Tree K → ℕ → Bool → NodeAt → Seen → List Item → WalkFault → Type 0
StopsFor tree root deep child seen left (Unsound block why) = HasGap tree root (Found (Unsound block why))
StopsFor tree root deep child seen left (Unnamed oid) = HasGap tree root (Found (Unnamed oid))
StopsFor tree root deep child seen left (Order item) = (item ≡ seen.number) × IsBadNext tree.shape seen left
StopsFor tree root deep child seen left Counts = IsMiscounted tree deep child seen left

-- after some items that were passed, the child of the last of them isn't there, for this reason
pub record IsNextGap {K : Type 0} (tree : Tree K) (root : ℕ) (passed : List Item) (why : Stop WalkFault) : Type 0 where
  pub at : NodeAt
  pub next : last (root_place root ∷ places_in passed) ≡ Some at
  pub gap : tree.look at ≡ Err why

-- after some items that were passed a fault comes first. Order: the next item is out of order, and its number is how
-- many were passed, as it is given. Counts: all were passed, and the root's numbers are wrong
abbrev pub IsNextFault : {K : Type 0} → Tree K → ℕ → List Item → WalkFault → Type 0
IsNextFault tree root passed (Unsound block why) = IsNextGap tree root passed (Found (Unsound block why))
IsNextFault tree root passed (Unnamed oid) = IsNextGap tree root passed (Found (Unnamed oid))
IsNextFault tree root passed (Order item) = (item ≡ given (length passed)) × (out_of_order tree.shape (line_of tree root) ≡ Some (length passed))
IsNextFault tree root passed Counts = (line_of tree root ≡ passed) × (is_counted tree root ≡ false)

-- the place of a child that is still to come
abbrev pub still : Bool → NodeAt → List NodeAt
still true child = child ∷ []
still false child = []

-- these items of a tree's Line were passed and these are left; all were in order, and all places met so far have a node
pub record HasGone {K : Type 0} (tree : Tree K) (root : ℕ) (passed left : List Item) (seen : Seen) (deep : Bool) (child : NodeAt) : Type 0 where
  pub node : List ℕ
  pub found : tree.look (root_place root) ≡ Ok node
  pub line : line_of tree root ≡ passed ++ left
  pub seen_right : HasSeen tree.shape (key_count_of node) (node_count_of node) passed seen
  pub entered : List NodeAt
  pub places : root_place root ∷ places_in passed ≡ entered ++ still deep child
  pub nodes : All (λ (at : NodeAt). has_node tree at ≡ true) entered
