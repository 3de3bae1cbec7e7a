-- What a walk over a Line has seen.
use Rattle.std.specs.Prelude.{◌≡◌, ℕ, ◌+◌, ◌-◌, Bool, true, false, not, ◌&&◌, ◌||◌, ◌==◌, if◌then◌else◌, List, [], length, Option, Some, None, option_map}
use Rattle.std.specs.List.{filter}
use Rattle.apfs_model.specs.Counts.{given}
use Rattle.apfs_model.specs.Lists.{last, passes}
use Rattle.bt_node.specs.Shape.{Shape}
use Rattle.bt_node.specs.Rank.{is_below, is_same_rank}
use Rattle.bt_node.specs.declared.key.Rank.{Rank}
use Rattle.bt_cursor.specs.declared.seen.Seen.{Seen}
use Rattle.bt_cursor.specs.declared.seen.Tally.{Tally}
use Rattle.bt_cursor.specs.Line.{Item, is_leaf_item}
use Rattle.bt_cursor.specs.WholeTree.{leaf_pairs}
use Rattle.bt_cursor.specs.Met.{places_in}
use Rattle.bt_cursor.specs.Order.{rank_of, is_strict_leaf, first_misplaced}

-- a child that is still to come is read
abbrev pub reads_for : Bool → ℕ
reads_for true = 1
reads_for false = 0

-- a rank is below the last item's
abbrev pub falls_below : Rank → Option Rank → Bool
falls_below rank before = passes before (is_below rank)

-- a rank is that of the last key of level 0
abbrev pub is_again : Rank → Option Rank → Bool
is_again rank leaf = passes leaf (is_same_rank rank)

-- one fewer is to come
abbrev pub spend : Tally → Tally
spend tally = record { left = tally.left - 1; over = if tally.left == 0 then true else tally.over }

-- this many are to come
abbrev pub comes_to : Tally → ℕ → Bool
comes_to tally n = not tally.over && (tally.left == n)

-- what is seen before the first item: of the nodes, the root
abbrev pub seen_start : ℕ → ℕ → Seen
seen_start keys nodes = record { before = None; leaf = None; number = 0; keys = record { left = keys; over = false }; nodes = spend (record { left = nodes; over = false }) }

-- what is seen after an item of a level and a rank
abbrev pub seen_more : Seen → ℕ → Rank → Seen
seen_more seen level rank = record {
  before = Some rank;
  leaf = if level == 0 then Some rank else seen.leaf;
  number = given (seen.number + 1);
  keys = if level == 0 then spend seen.keys else seen.keys;
  nodes = if level == 0 then seen.nodes else spend seen.nodes;
}

-- a key of a level is out of order
abbrev pub is_key_out : {K : Type 0} → Shape K → Seen → ℕ → K → Bool
is_key_out shape seen level key = falls_below (shape.rank key) seen.before || (((level == 0) && shape.strict key) && is_again (shape.rank key) seen.leaf)

abbrev pub seen_key : {K : Type 0} → Shape K → Seen → ℕ → K → Option Seen
seen_key shape seen level key = if is_key_out shape seen level key then None else Some (seen_more seen level (shape.rank key))

-- an item is out of order
abbrev pub is_out : {K : Type 0} → Shape K → Seen → Item → Bool
is_out shape seen item = falls_below (rank_of shape item.pair) seen.before || (is_strict_leaf shape item && is_again (rank_of shape item.pair) seen.leaf)

abbrev pub seen_item : {K : Type 0} → Shape K → Seen → Item → Seen
seen_item shape seen item = seen_more seen item.level (rank_of shape item.pair)

-- what is seen after an item, where it is in order
abbrev pub seen_next : {K : Type 0} → Shape K → Seen → Item → Option Seen
seen_next shape seen item = if is_out shape seen item then None else Some (seen_item shape seen item)

-- nothing is to come
abbrev pub fits : Seen → Bool
fits seen = (comes_to seen.keys 0) && (comes_to seen.nodes 0)

-- what is seen of some items, all in order, where the root tells these numbers of keys and of nodes
pub record HasSeen {K : Type 0} (shape : Shape K) (keys nodes : ℕ) (passed : List Item) (seen : Seen) : Type 0 where
  pub ordered : first_misplaced shape [] passed ≡ None
  pub before : seen.before ≡ option_map (λ (item : Item). rank_of shape item.pair) (last passed)
  pub leaf : seen.leaf ≡ option_map (λ (item : Item). rank_of shape item.pair) (last (filter is_leaf_item passed))
  pub number : seen.number ≡ given (length passed)
  pub keys_left : (n : ℕ) → comes_to seen.keys n ≡ (keys == length (leaf_pairs passed) + n)
  pub nodes_left : (n : ℕ) → comes_to seen.nodes n ≡ (nodes == length (places_in passed) + 1 + n)
