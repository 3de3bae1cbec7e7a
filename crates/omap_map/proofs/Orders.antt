-- The records of a Line in order ascend.
use Rattle.std.specs.Prelude.{◌≡◌, ℕ, is_none, ◌&&◌, ◌||◌, ◌==◌, Bool, true, false, cond, List, [], ◌∷◌, ◌++◌, length, slice_index_or, Option, None, Some, refl, map, option_map, option_and_then}
use Rattle.std.specs.List.{cons_option, filter}
use Rattle.std.proofs.Common.{arith, ap, sym, subst, ◌∙◌, append-nil, append_assoc}
use Rattle.std.proofs.lemmas.Bool.Decides.{nat_tests}
use Rattle.std.proofs.lemmas.List.Elements.{All-push, filter-append, filter_map-append}
use Rattle.std.proofs.lemmas.List.Quantifiers.{all_pairs_push}
use Rattle.apfs_model.specs.Lists.{last, passes}
use Rattle.bt_node.specs.declared.key.Rank.{Rank}
use Rattle.bt_node.specs.Rank.{is_below, is_same_rank}
use Rattle.bt_node.specs.Entries.{Pair, bytes_in}
use Rattle.bt_keys.specs.Shapes.{rank3, omap_shape}
use Rattle.bt_keys.specs.Values.{omap_value_of}
use Rattle.bt_keys.specs.declared.number_key.OmapKey.{OmapKey}
use Rattle.bt_keys.specs.declared.values.OmapValue.{OmapValue}
use Rattle.bt_cursor.specs.Line.{Item, is_leaf_item}
use Rattle.bt_cursor.specs.WholeTree.{leaf_pairs}
use Rattle.bt_cursor.proofs.Lines.{leaf_pairs-append}
use Rattle.bt_cursor.proofs.Orders.{last-push, first-if, passes-map, leaf-if}
use Rattle.bt_cursor.specs.Order.{rank_of, rank_or_least, is_strict_leaf, ranks_same, is_misplaced, first_misplaced, out_of_order, is_ordered}
use Rattle.bt_cursor.specs.Seen.{falls_below, is_again}
use Rattle.omap_map.specs.Records.{record_of, records_of, joined}
use Rattle.omap_map.specs.Loading.{is_before, IsAscending}
use Rattle.omap_map.specs.Gathered.{records_in, IsUpTo, IsLeafUpTo, IsOrdered}
use Rattle.omap_map.specs.declared.records.OmapRecord.{OmapRecord}

below-chain : (a b c : Rank) → is_below b a ≡ false → is_below c b ≡ false → is_below c a ≡ false
below-chain a b c e f = grind (arith, nat_tests)

below-self : (a : Rank) → is_below a a ≡ false
below-self a = grind (arith, nat_tests)

rises : (s r : OmapRecord) (leaf : Rank) → is_below leaf (rank3 s.oid s.xid 0) ≡ false → is_below (rank3 r.oid r.xid 0) leaf ≡ false → is_same_rank (rank3 r.oid r.xid 0) leaf ≡ false → is_before s r ≡ true
rises s r leaf e f g = grind (arith, nat_tests)

leaf-more : (leaf before : Option Rank) (rank : Rank) → IsLeafUpTo leaf before → falls_below rank before ≡ false → IsLeafUpTo leaf (Some rank)
leaf-more None before rank h e = tt
leaf-more (Some l) None rank h e = absurd h
leaf-more (Some l) (Some b) rank h e = below-chain l b rank h e

upto-more : (leaf : Option Rank) (rank : Rank) (s : OmapRecord) → IsUpTo leaf s → IsLeafUpTo leaf (Some rank) → IsUpTo (Some rank) s
upto-more None rank s h e = absurd h
upto-more (Some l) rank s h e = below-chain (rank3 s.oid s.xid 0) l rank h e

before-more : (leaf : Option Rank) (s r : OmapRecord) → IsUpTo leaf s → IsLeafUpTo leaf (Some (rank3 r.oid r.xid 0)) → is_again (rank3 r.oid r.xid 0) leaf ≡ false → is_before s r ≡ true
before-more None s r h e again = absurd h
before-more (Some l) s r h e again = rises s r l h e again

-- the rank of a record's key
read-rank : (o : Option OmapKey) (p : Option OmapValue) (r : OmapRecord) → option_and_then (λ k. option_map (joined k) p) o ≡ Some r → rank_or_least omap_shape o ≡ rank3 r.oid r.xid 0
read-rank None p r e = absurd (cc)
read-rank (Some k) None r e = absurd (cc)
read-rank (Some k) (Some v) r e = let same : joined k v ≡ r = cc in ap (λ (t : OmapRecord). rank3 t.oid t.xid 0) same

record-rank : (pair : Pair) (r : OmapRecord) → record_of pair ≡ Some r → rank_of omap_shape pair ≡ rank3 r.oid r.xid 0
unfolding record_of
record-rank pair r e = read-rank (omap_shape.read pair.key) (omap_value_of (bytes_in pair.value)) r e

read-strict : (o : Option OmapKey) (p : Option OmapValue) (r : OmapRecord) → option_and_then (λ k. option_map (joined k) p) o ≡ Some r → passes o omap_shape.strict ≡ true
read-strict None p r e = absurd (cc)
read-strict (Some k) p r e = refl

record-strict : (pair : Pair) (r : OmapRecord) → record_of pair ≡ Some r → passes (omap_shape.read pair.key) omap_shape.strict ≡ true
unfolding record_of
record-strict pair r e = read-strict (omap_shape.read pair.key) (omap_value_of (bytes_in pair.value)) r e

or-first : (a b : Bool) → (a || b) ≡ false → a ≡ false
or-first true b e = e
or-first false b e = refl

or-second : (a b : Bool) → (a || b) ≡ false → b ≡ false
or-second true b e = absurd (cc)
or-second false b e = e

and-second : (a b : Bool) → a ≡ true → (a && b) ≡ false → b ≡ false
and-second true b e f = f
and-second false b e f = absurd (cc)

and-both : (a b : Bool) → a ≡ true → b ≡ true → (a && b) ≡ true
and-both true b e f = f
and-both false b e f = e

-- after an entry of a leaf, its record is the last
ordered-record : (before leaf : Option Rank) (records : List OmapRecord) (rank : Rank) (o : Option OmapRecord) → IsOrdered before leaf records → falls_below rank before ≡ false
    → ((r : OmapRecord) → o ≡ Some r → (rank ≡ rank3 r.oid r.xid 0) × (is_again rank leaf ≡ false)) → IsOrdered (Some rank) (Some rank) (records ++ cons_option o [])
ordered-record before leaf records rank None ordered falls each =
    let first = leaf-more leaf before rank ordered.leaf_first falls in
    subst (IsOrdered (Some rank) (Some rank)) (sym (append-nil records)) (record {
      ascending = ordered.ascending;
      upto = λ k d low. upto-more leaf rank (slice_index_or records k d) (ordered.upto k d low) first;
      leaf_first = below-self rank;
    })
ordered-record before leaf records rank (Some r) ordered falls each =
    let own : rank ≡ rank3 r.oid r.xid 0 = (each r refl).0 in
    let first : IsLeafUpTo leaf (Some (rank3 r.oid r.xid 0)) = subst (λ t. IsLeafUpTo leaf (Some t)) own (leaf-more leaf before rank ordered.leaf_first falls) in
    let again : is_again (rank3 r.oid r.xid 0) leaf ≡ false = subst (λ t. is_again t leaf ≡ false) own (each r refl).1 in
    subst (λ t. IsOrdered (Some t) (Some t) (records ++ r ∷ [])) (sym own) (record {
      ascending = all_pairs_push (λ s t. is_before s t ≡ true) records r ordered.ascending (λ k d low. before-more leaf (slice_index_or records k d) r (ordered.upto k d low) first again);
      upto = All-push (IsUpTo (Some (rank3 r.oid r.xid 0))) records r (λ k d low. upto-more leaf (rank3 r.oid r.xid 0) (slice_index_or records k d) (ordered.upto k d low) first) (below-self (rank3 r.oid r.xid 0));
      leaf_first = below-self (rank3 r.oid r.xid 0);
    })

ordered-by : (before leaf : Option Rank) (records : List OmapRecord) (item : Item) (b : Bool) → is_leaf_item item ≡ b → IsOrdered before leaf records → falls_below (rank_of omap_shape item.pair) before ≡ false
    → (is_strict_leaf omap_shape item && is_again (rank_of omap_shape item.pair) leaf) ≡ false
    → IsOrdered (Some (rank_of omap_shape item.pair)) (cond b (Some (rank_of omap_shape item.pair)) leaf) (records ++ records_of (map (λ (i : Item). i.pair) (cond b (item ∷ []) [])))
ordered-by before leaf records item true e ordered falls apart =
    ordered-record before leaf records (rank_of omap_shape item.pair) (record_of item.pair) ordered falls
    (λ r f. (record-rank item.pair r f, and-second (is_strict_leaf omap_shape item) (is_again (rank_of omap_shape item.pair) leaf) (and-both (is_leaf_item item) (passes (omap_shape.read item.pair.key) omap_shape.strict) e (record-strict item.pair r f)) apart))
ordered-by before leaf records item false e ordered falls apart =
    subst (IsOrdered (Some (rank_of omap_shape item.pair)) leaf) (sym (append-nil records)) (record {
      ascending = ordered.ascending;
      upto = ordered.upto;
      leaf_first = leaf-more leaf before (rank_of omap_shape item.pair) ordered.leaf_first falls;
    })

-- after one more item in order
pub ordered-more : (before leaf : Option Rank) (records : List OmapRecord) (item : Item) → IsOrdered before leaf records
    → (falls_below (rank_of omap_shape item.pair) before || (is_strict_leaf omap_shape item && is_again (rank_of omap_shape item.pair) leaf)) ≡ false
    → IsOrdered (Some (rank_of omap_shape item.pair)) (cond (item.level == 0) (Some (rank_of omap_shape item.pair)) leaf) (records ++ records_in item)
ordered-more before leaf records item ordered out =
    let falls = falls_below (rank_of omap_shape item.pair) before in
    let apart = is_strict_leaf omap_shape item && is_again (rank_of omap_shape item.pair) leaf in
    ordered-by before leaf records item (is_leaf_item item) refl ordered (or-first falls apart out) (or-second falls apart out)

abbrev ranked : List Item → Option Rank
ranked items = option_map (λ (item : Item). rank_of omap_shape item.pair) (last items)

-- after items in order their records ascend, and none ranks above the last of them
abbrev IsOrderedAfter : List Item → Type 0
IsOrderedAfter items = IsOrdered (ranked items) (ranked (filter is_leaf_item items)) (records_of (leaf_pairs items))

misplaced-out : (before : List Item) (item : Item) → is_misplaced omap_shape before item ≡ (falls_below (rank_of omap_shape item.pair) (ranked before) || (is_strict_leaf omap_shape item && is_again (rank_of omap_shape item.pair) (ranked (filter is_leaf_item before))))
misplaced-out before item =
    let f : Item → Rank = λ (other : Item). rank_of omap_shape other.pair in
    let rank = rank_of omap_shape item.pair in
    ap (λ (b : Bool). b || (is_strict_leaf omap_shape item && passes (last (filter is_leaf_item before)) (ranks_same omap_shape item))) (sym (passes-map (last before) f (is_below rank)))
    ∙ ap (λ (b : Bool). passes (ranked before) (is_below rank) || (is_strict_leaf omap_shape item && b)) (sym (passes-map (last (filter is_leaf_item before)) f (is_same_rank rank)))

ordered-after : (before : List Item) (item : Item) → IsOrderedAfter before → is_misplaced omap_shape before item ≡ false → IsOrderedAfter (before ++ item ∷ [])
ordered-after before item ordered right =
    let f : Item → Rank = λ (other : Item). rank_of omap_shape other.pair in
    let leaves = filter is_leaf_item before in
    let more = ordered-more (ranked before) (ranked leaves) (records_of (leaf_pairs before)) item ordered (sym (misplaced-out before item) ∙ right) in
    let first : ranked (before ++ item ∷ []) ≡ Some (f item) = ap (option_map f) (last-push before item) in
    let second : ranked (filter is_leaf_item (before ++ item ∷ [])) ≡ cond (item.level == 0) (Some (f item)) (ranked leaves) =
    ap ranked (filter-append is_leaf_item before (item ∷ [])) ∙ sym (leaf-if (is_leaf_item item) f leaves item (ranked leaves) refl) in
    let third : records_of (leaf_pairs (before ++ item ∷ [])) ≡ records_of (leaf_pairs before) ++ records_in item = ap records_of (leaf_pairs-append before (item ∷ [])) ∙ filter_map-append record_of (leaf_pairs before) (leaf_pairs (item ∷ [])) in
    subst (λ (o : Option Rank). IsOrdered o (ranked (filter is_leaf_item (before ++ item ∷ []))) (records_of (leaf_pairs (before ++ item ∷ [])))) (sym first)
    (subst (λ (o : Option Rank). IsOrdered (Some (f item)) o (records_of (leaf_pairs (before ++ item ∷ [])))) (sym second)
    (subst (IsOrdered (Some (f item)) (cond (item.level == 0) (Some (f item)) (ranked leaves))) (sym third) more))

ascending-after : (before items : List Item) → IsOrderedAfter before → first_misplaced omap_shape before items ≡ None → IsAscending (records_of (leaf_pairs (before ++ items)))
ascending-after before [] ordered none = subst (λ (is : List Item). IsAscending (records_of (leaf_pairs is))) (sym (append-nil before)) ordered.ascending
ascending-after before (item ∷ items) ordered none =
    let both = first-if (is_misplaced omap_shape before item) (length before) (first_misplaced omap_shape (before ++ item ∷ []) items) none in
    subst (λ (is : List Item). IsAscending (records_of (leaf_pairs is))) (append_assoc before (item ∷ []) items)
    (ascending-after (before ++ item ∷ []) items (ordered-after before item ordered both.0) both.1)

ordered-none : IsOrderedAfter []
ordered-none = record {
  ascending = λ i j d less low. absurd (omega arith);
  upto = λ k d low. absurd (omega arith);
  leaf_first = tt;
}

none-first : (o : Option ℕ) → is_none o ≡ true → o ≡ None
none-first None e = refl
none-first (Some n) e = absurd (cc)

-- the records of items in order ascend
pub ascending-ordered : (items : List Item) → is_ordered omap_shape items ≡ true → IsAscending (records_of (leaf_pairs items))
ascending-ordered items e = ascending-after [] items ordered-none (none-first (out_of_order omap_shape items) e)
