-- A leaf that is read: its ends and its records.
use Rattle.std.proofs.Common.{◌≡◌, ℕ, ◌+◌, false, List, [], ◌∷◌, ◌++◌, map, Some, None, refl, ap, sym, ◌∙◌, subst, arith}
use Rattle.std.specs.Prelude.{◌&&◌, ◌||◌, ◌==◌, option_map, Ok}
use Rattle.std.specs.List.{range_with_len, filter}
use Rattle.std.proofs.lemmas.List.{map-append}
use Rattle.std.proofs.lemmas.List.FromFn.{map-range_with_len_more}
use Rattle.apfs_model.specs.Blocks.{block_of}
use Rattle.apfs_model.specs.Lists.{last, through, value_of, passes}
use Rattle.obj_base.specs.declared.site.Site.{Site}
use Rattle.bt_node.specs.Rank.{is_below, is_same_rank}
use Rattle.bt_node.specs.Shape.{Shape}
use Rattle.bt_node.specs.Entries.{Pair, pair_of, pairs_of}
use Rattle.bt_node.specs.Soundness.{node_of}
use Rattle.bt_node.specs.SoundNode.{IsNode}
use Rattle.bt_node.specs.declared.key.Rank.{Rank}
use Rattle.bt_cursor.specs.Line.{Item, is_leaf_item, entry_of, entries_of}
use Rattle.bt_cursor.specs.Order.{rank_of, rank_or_least, is_strict_leaf, ranks_below, ranks_same, is_misplaced, first_misplaced}
use Rattle.bt_cursor.proofs.Orders.{first-push, last-push, passes-map}
use Rattle.view_change.specs.declared.leaf.Leaf.{Leaf}
use Rattle.view_change.specs.declared.leaf_taker.Ends.{Ends}
use Rattle.view_change.specs.Leaves.{leaf_place, records_of}
use Rattle.view_change.specs.Ends.{leaf_item, leaf_items, HasEnds}
use Rattle.view_change.specs.Reading.{IsNodeOf, is_misplaced_after, AreEndsOf, AreEnds}

-- the first items of a leaf
abbrev pub items_to : {K : Type 0} → Shape K → List ℕ → ℕ → ℕ → List Item
items_to shape node oid n = map (leaf_item oid) (map (entry_of shape node) (range_with_len 0 n))

-- some items are in order, and the last one has this rank
pub record AreInOrder {K : Type 0} (shape : Shape K) (items : List Item) (rank : Rank) : Type 0 where
  pub ordered : first_misplaced shape [] items ≡ None
  pub last_rank : option_map (λ (other : Item). rank_of shape other.pair) (last items) ≡ Some rank

all-leaves : (oid : ℕ) (entries : List (ℕ × Pair)) → filter is_leaf_item (map (leaf_item oid) entries) ≡ map (leaf_item oid) entries
all-leaves oid [] = refl
all-leaves oid (e ∷ es) = ap (λ is. leaf_item oid e ∷ is) (all-leaves oid es)

items-more : {K : Type 0} (shape : Shape K) (node : List ℕ) (oid n : ℕ) → items_to shape node oid (n + 1) ≡ items_to shape node oid n ++ leaf_item oid (entry_of shape node n) ∷ []
items-more shape node oid n =
    ap (map (leaf_item oid)) (map-range_with_len_more (entry_of shape node) 0 n n (omega arith)) ∙ map-append (leaf_item oid) (map (entry_of shape node) (range_with_len 0 n)) (entry_of shape node n ∷ [])

-- the next item is out of order by the rank of the last one
misplaced-by : {K : Type 0} (shape : Shape K) (items : List Item) (item : Item) (key : K) (rank : Rank) → item.level ≡ 0 → filter is_leaf_item items ≡ items → shape.read item.pair.key ≡ Some key
    → option_map (λ (other : Item). rank_of shape other.pair) (last items) ≡ Some rank → is_misplaced shape items item ≡ is_misplaced_after shape key rank
misplaced-by shape items item key rank leaf leaves read at =
    let f : Item → Rank = λ (other : Item). rank_of shape other.pair in
    let mine : f item ≡ shape.rank key = ap (rank_or_least shape) read in
    let below : passes (last items) (ranks_below shape item) ≡ is_below (shape.rank key) rank =
    sym (passes-map (last items) f (is_below (f item))) ∙ (ap (λ o. passes o (is_below (f item))) at ∙ ap (λ (r : Rank). is_below r rank) mine) in
    let same : passes (last (filter is_leaf_item items)) (ranks_same shape item) ≡ is_same_rank (shape.rank key) rank =
    ap (λ is. passes (last is) (ranks_same shape item)) leaves ∙ (sym (passes-map (last items) f (is_same_rank (f item))) ∙ (ap (λ o. passes o (is_same_rank (f item))) at ∙ ap (λ (r : Rank). is_same_rank r rank) mine)) in
    let strict : is_strict_leaf shape item ≡ shape.strict key = ap (λ (n : ℕ). (n == 0) && passes (shape.read item.pair.key) shape.strict) leaf ∙ ap (λ o. passes o shape.strict) read in
    λ i. below i || (strict i && same i)

-- one more item in order
pub order-more : {K : Type 0} (shape : Shape K) (node : List ℕ) (oid n m : ℕ) (key : K) (rank next : Rank) → m ≡ n + 1 → shape.read (pair_of shape node n).key ≡ Some key → is_misplaced_after shape key rank ≡ false → next ≡ shape.rank key
    → AreInOrder shape (items_to shape node oid n) rank → AreInOrder shape (items_to shape node oid m) next
order-more shape node oid n m key rank next one read right ranked had =
    let items = items_to shape node oid n in
    let item = leaf_item oid (entry_of shape node n) in
    let more : items_to shape node oid m ≡ items ++ item ∷ [] = ap (items_to shape node oid) one ∙ items-more shape node oid n in
    subst (λ is. AreInOrder shape is next) (sym more) (record {
      ordered = first-push shape items item had.ordered (misplaced-by shape items item key rank refl (all-leaves oid (map (entry_of shape node) (range_with_len 0 n))) read had.last_rank ∙ right);
      last_rank = ap (option_map (λ (other : Item). rank_of shape other.pair)) (last-push items item) ∙ ap Some (ap (rank_or_least shape) read ∙ sym ranked);
    })

-- the records of a leaf are the entries of its node
pub records-read : {K : Type 0} (shape : Shape K) (site : Site) (image : List ℕ) (leaf : Leaf) (node : List ℕ) → IsNodeOf shape site image leaf node → records_of shape site image leaf ≡ pairs_of shape node
records-read shape site image leaf node is =
    ap (λ r. through (value_of r) (pairs_of shape)) (subst (λ b. node_of shape (leaf_place leaf) site b ≡ Ok node) is.found is.sound)

-- the ends of a leaf are those of its node
pub ends-read : {K : Type 0} (shape : Shape K) (site : Site) (image : List ℕ) (leaf : Leaf) (node : List ℕ) (ends : Ends) → IsNodeOf shape site image leaf node → AreEnds shape node ends → HasEnds shape site image leaf ends
ends-read shape site image leaf node ends is has =
    let at : node_of shape (leaf_place leaf) site (block_of site.block_size image leaf.block) ≡ Ok node = subst (λ b. node_of shape (leaf_place leaf) site b ≡ Ok node) is.found is.sound in
    let items : leaf_items shape site image leaf ≡ map (leaf_item leaf.oid) (entries_of shape node) = ap (λ r. through (value_of r) (λ n. map (leaf_item leaf.oid) (entries_of shape n))) at in
    let all : AreEndsOf shape (leaf_items shape site image leaf) ends = subst (λ is. AreEndsOf shape is ends) (sym items) (has leaf.oid) in
    record {
      there = subst (λ b. IsNode shape (leaf_place leaf) site b) is.found is.sound;
      ordered = all.ordered;
      item = all.item;
      items = all.others;
      split = all.split;
      first = all.first;
      strict = all.strict;
      last_rank = all.last_rank;
      counted = all.counted;
    }
