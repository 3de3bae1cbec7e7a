-- What a cursor is at.
use Rattle.std.specs.Prelude.{◌≡◌, ℕ, Bool, true, false, List, [], ◌∷◌, length, Ok, Some, option_map}
use Rattle.bt_node.specs.Node.{level_of}
use Rattle.bt_node.specs.Entries.{Pair}
use Rattle.bt_node.specs.declared.key.TreeKey as keys
use Rattle.obj_base.specs.declared.site.Site.{Site}
use Rattle.bt_cursor.specs.declared.namer.Namer as namers
use Rattle.bt_cursor.specs.declared.cursor.Cursor.{Cursor}
use Rattle.bt_cursor.specs.Tree.{Tree, root_place, node_at, tree_in}
use Rattle.bt_cursor.specs.Line.{Item}
use Rattle.bt_cursor.specs.Met.{places_in}
use Rattle.bt_cursor.specs.Gaps.{Gapped, all_met, all_flat}
use Rattle.bt_cursor.specs.Stack.{IsIn}
use Rattle.bt_cursor.specs.Ahead.{gapped_ahead, passed_pair, depth_way, Stands}
use Rattle.bt_cursor.specs.Fuel.{fuel_way}

-- the site by which it reads, and the id of its root
abbrev pub site_of : {K N : Type 0} {k : keys.Ghosts K} {n : namers.Ghosts N} → Cursor K N k n → Site
site_of cursor = cursor.site

abbrev pub root_of : {K N : Type 0} {k : keys.Ghosts K} {n : namers.Ghosts N} → Cursor K N k n → ℕ
root_of cursor = cursor.root

-- its tree, by the image that the source tells
abbrev pub tree_of : {K N : Type 0} {k : keys.Ghosts K} {n : namers.Ghosts N} → Cursor K N k n → List ℕ → Tree K
tree_of {k = k} {n = n} cursor = tree_in k.shape cursor.site (n.named cursor.namer)

-- what is left from its place on: of the Line with its gaps
abbrev pub ahead_of : {K N : Type 0} {k : keys.Ghosts K} {n : namers.Ghosts N} → Cursor K N k n → List ℕ → List (Gapped Item)
ahead_of cursor image = gapped_ahead (tree_of cursor image) cursor.way

-- of the Line
abbrev pub line_left_of : {K N : Type 0} {k : keys.Ghosts K} {n : namers.Ghosts N} → Cursor K N k n → List ℕ → List Item
line_left_of cursor image = all_met (ahead_of cursor image)

-- of the flat list with its gaps
abbrev pub gapped_left_of : {K N : Type 0} {k : keys.Ghosts K} {n : namers.Ghosts N} → Cursor K N k n → List ℕ → List (Gapped Pair)
gapped_left_of cursor image = all_flat (ahead_of cursor image)

-- of the flat list
abbrev pub left_of : {K N : Type 0} {k : keys.Ghosts K} {n : namers.Ghosts N} → Cursor K N k n → List ℕ → List Pair
left_of cursor image = all_met (gapped_left_of cursor image)

-- how many nodes are still to be read
abbrev pub unread_of : {K N : Type 0} {k : keys.Ghosts K} {n : namers.Ghosts N} → Cursor K N k n → List ℕ → ℕ
unread_of cursor image = length (places_in (line_left_of cursor image))

-- the entry onto which it moved
abbrev pub passed_of : {K N : Type 0} {k : keys.Ghosts K} {n : namers.Ghosts N} → Cursor K N k n → Pair
passed_of {k = k} cursor = passed_pair k.shape cursor.way

-- how far it can still go
abbrev pub fuel_of : {K N : Type 0} {k : keys.Ghosts K} {n : namers.Ghosts N} → Cursor K N k n → ℕ
fuel_of cursor = fuel_way cursor.way

-- how many levels its tree has below the root
abbrev pub depth_of : {K N : Type 0} {k : keys.Ghosts K} {n : namers.Ghosts N} → Cursor K N k n → ℕ
depth_of cursor = depth_way cursor.way

-- that is the level of the root's node
abbrev pub HasDepth : {K N : Type 0} {k : keys.Ghosts K} {n : namers.Ghosts N} → List ℕ → Cursor K N k n → Type 0
HasDepth image cursor = option_map level_of (node_at (tree_of cursor image) (root_place (root_of cursor))) ≡ Some (depth_of cursor)

-- it was made from a source with this image: its buffers hold the nodes of its tree from the root down to its place, each
-- the child of the entry that was passed last in the one above
abbrev pub IsOn : {K N : Type 0} {k : keys.Ghosts K} {n : namers.Ghosts N} → List ℕ → Cursor K N k n → Type 0
IsOn image cursor = IsIn (tree_of cursor image) cursor.root cursor.way.above.items cursor.way.last

-- the last call was one of `next` that moved onto an entry
abbrev pub HasEntry : {K N : Type 0} {k : keys.Ghosts K} {n : namers.Ghosts N} → Cursor K N k n → Type 0
HasEntry cursor = Stands cursor.way

-- a move takes the next entry off what is left, and no gap stands before it; or nothing was left, neither entry nor gap
abbrev pub Moves : {K N : Type 0} {k : keys.Ghosts K} {n : namers.Ghosts N} → List ℕ → Cursor K N k n → Cursor K N k n → Bool → Type 0
Moves image old new true = gapped_left_of old image ≡ Ok (passed_of new) ∷ gapped_left_of new image
Moves image old new false = gapped_left_of old image ≡ []
