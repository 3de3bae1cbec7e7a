-- What a liner is at.
use Rattle.std.specs.Prelude.{◌≡◌, ℕ, ◌<◌, nat_lt, Bool, true, false, List, [], ◌∷◌, ◌++◌, None, IsSome}
use Rattle.bt_node.specs.declared.key.TreeKey as keys
use Rattle.obj_base.specs.declared.site.Site.{Site}
use Rattle.bt_cursor.specs.declared.namer.Namer as namers
use Rattle.bt_cursor.specs.declared.liner.Liner.{Liner}
use Rattle.bt_cursor.specs.declared.seen.Seen.{Seen}
use Rattle.bt_cursor.specs.Tree.{Tree, tree_in}
use Rattle.bt_cursor.specs.Line.{Item, line_of}
use Rattle.bt_cursor.specs.WholeTree.{IsWhole}
use Rattle.bt_cursor.specs.Stack.{IsIn}
use Rattle.bt_cursor.specs.Ahead.{ahead_if, passed_pair, passed_item, passed_child}
use Rattle.bt_cursor.specs.Advance.{HasGone}
use Rattle.bt_cursor.specs.Fuel.{fuel_if}
use Rattle.bt_cursor.specs.Seen.{is_out, seen_item}

-- the site by which it reads, and the id of its root
abbrev pub site_of : {K N : Type 0} {k : keys.Ghosts K} {n : namers.Ghosts N} → Liner K N k n → Site
site_of liner = liner.site

abbrev pub root_of : {K N : Type 0} {k : keys.Ghosts K} {n : namers.Ghosts N} → Liner K N k n → ℕ
root_of liner = liner.root

-- its tree, by the image that the source tells
abbrev pub tree_of : {K N : Type 0} {k : keys.Ghosts K} {n : namers.Ghosts N} → Liner K N k n → List ℕ → Tree K
tree_of {k = k} {n = n} liner = tree_in k.shape liner.site (n.named liner.namer)

-- what is left of the Line from its place on
abbrev pub left_of : {K N : Type 0} {k : keys.Ghosts K} {n : namers.Ghosts N} → Liner K N k n → List ℕ → List Item
left_of liner image = ahead_if (tree_of liner image) liner.deep liner.way

-- the item onto which it moved
abbrev pub item_of : {K N : Type 0} {k : keys.Ghosts K} {n : namers.Ghosts N} → Liner K N k n → Item
item_of {k = k} liner = passed_item k.shape liner.way

-- the item onto which it moved stands above level 0, and its child is still to come
abbrev pub is_deep : {K N : Type 0} {k : keys.Ghosts K} {n : namers.Ghosts N} → Liner K N k n → Bool
is_deep liner = liner.deep

-- how far it can still go
abbrev pub fuel_of : {K N : Type 0} {k : keys.Ghosts K} {n : namers.Ghosts N} → Liner K N k n → ℕ
fuel_of liner = fuel_if liner.deep liner.way

-- the last call of `next` moved onto an item, whose key it keeps
pub record HasItem {K N : Type 0} {k : keys.Ghosts K} {n : namers.Ghosts N} (liner : Liner K N k n) : Type 0 where
  pub some : 0 < liner.way.last.next
  pub kept : IsSome liner.key
  pub read : k.shape.read (passed_pair k.shape liner.way).key ≡ liner.key

abbrev pub HasItemIf : {K N : Type 0} {k : keys.Ghosts K} {n : namers.Ghosts N} → Liner K N k n → Bool → Type 0
HasItemIf liner true = HasItem liner × (liner.deep ≡ nat_lt 0 (item_of liner).level)
HasItemIf liner false = Unit {0}

-- what it has seen, whether or not the image is told
abbrev pub seen_of : {K N : Type 0} {k : keys.Ghosts K} {n : namers.Ghosts N} → Liner K N k n → Seen
seen_of liner = liner.seen

-- it has passed no item
pub record HasSeenNone {K N : Type 0} {k : keys.Ghosts K} {n : namers.Ghosts N} (liner : Liner K N k n) : Type 0 where
  pub before : (seen_of liner).before ≡ None
  pub leaf : (seen_of liner).leaf ≡ None

-- a move sees one more item, in order after those that it saw, whether or not the image is told
abbrev pub Sees : {K N : Type 0} {k : keys.Ghosts K} {n : namers.Ghosts N} → Liner K N k n → Liner K N k n → Bool → Type 0
Sees {k = k} old new true = (is_out k.shape (seen_of old) (item_of new) ≡ false) × (seen_of new ≡ seen_item k.shape (seen_of old) (item_of new))
Sees old new false = Unit {0}

-- it was made from a source with this image and has passed these items of its tree's Line, of which all were in order
pub record HasPassed {K N : Type 0} {k : keys.Ghosts K} {n : namers.Ghosts N} (image : List ℕ) (passed : List Item) (liner : Liner K N k n) : Type 0 where
  pub within : IsIn (tree_of liner image) liner.root liner.way.above.items liner.way.last
  pub gone : HasGone (tree_of liner image) liner.root passed (left_of liner image) liner.seen liner.deep (passed_child k.shape liner.way)

-- a move passes one more item; at the end all of the Line was passed, and the tree is whole
abbrev pub Passes : {K N : Type 0} {k : keys.Ghosts K} {n : namers.Ghosts N} → List ℕ → List Item → Liner K N k n → Liner K N k n → Bool → Type 0
Passes image passed old new true = HasPassed image (passed ++ item_of new ∷ []) new
Passes image passed old new false = (line_of (tree_of old image) (root_of old) ≡ passed) × IsWhole (tree_of old image) (root_of old)
