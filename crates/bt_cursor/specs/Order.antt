-- The order of a Line.
use Rattle.std.specs.Prelude.{ℕ, Bool, ◌&&◌, ◌||◌, is_none, List, [], ◌∷◌, ◌++◌, length, Option, Some, None, if◌then◌else◌}
use Rattle.std.specs.List.{filter}
use Rattle.apfs_model.specs.Lists.{last, passes}
use Rattle.bt_node.specs.Shape.{Shape}
use Rattle.bt_node.specs.Rank.{is_below, is_same_rank}
use Rattle.bt_node.specs.Entries.{Pair}
use Rattle.bt_node.specs.declared.key.Rank.{Rank}
use Rattle.bt_cursor.specs.Line.{Item, is_leaf_item}

-- the rank of a key; a key that can't be read, which no node of a tree has, stands first
abbrev pub rank_or_least : {K : Type 0} → Shape K → Option K → Rank
rank_or_least shape None = record { id = 0; kind = 0; sub = 0 }
rank_or_least shape (Some key) = shape.rank key

abbrev pub rank_of : {K : Type 0} → Shape K → Pair → Rank
rank_of shape pair = rank_or_least shape (shape.read pair.key)

-- an item of a leaf with a strict key
abbrev pub is_strict_leaf : {K : Type 0} → Shape K → Item → Bool
is_strict_leaf shape item = is_leaf_item item && passes (shape.read item.pair.key) shape.strict

-- an item ranks below another
abbrev pub ranks_below : {K : Type 0} → Shape K → Item → Item → Bool
ranks_below shape item other = is_below (rank_of shape item.pair) (rank_of shape other.pair)

-- an item has the rank of another
abbrev pub ranks_same : {K : Type 0} → Shape K → Item → Item → Bool
ranks_same shape item other = is_same_rank (rank_of shape item.pair) (rank_of shape other.pair)

-- Order: after the items before it, an item ranks below the last of them, or it is a strict key of a leaf and has the
-- rank of the last key of a leaf among them
abbrev pub is_misplaced : {K : Type 0} → Shape K → List Item → Item → Bool
is_misplaced shape before item = passes (last before) (ranks_below shape item) || (is_strict_leaf shape item && passes (last (filter is_leaf_item before)) (ranks_same shape item))

-- the number of the first item out of order among those that come after some others
abbrev pub first_misplaced : {K : Type 0} → Shape K → List Item → List Item → Option ℕ
first_misplaced shape before [] = None
first_misplaced shape before (item ∷ items) = if is_misplaced shape before item then Some (length before) else first_misplaced shape (before ++ item ∷ []) items

-- the number of the first item of a Line that is out of order, the first of all having the number 0
abbrev pub out_of_order : {K : Type 0} → Shape K → List Item → Option ℕ
out_of_order shape line = first_misplaced shape [] line

-- an ordered Line
abbrev pub is_ordered : {K : Type 0} → Shape K → List Item → Bool
is_ordered shape line = is_none (out_of_order shape line)
