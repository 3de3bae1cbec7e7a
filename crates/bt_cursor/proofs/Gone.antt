-- How far a walk over a Line has gone.
use Rattle.std.proofs.Common.{◌≡◌, ◌==◌, ℕ, zero, suc, ◌+◌, ◌-◌, nat_lt, Bool, true, false, cond, List, [], ◌∷◌, ◌++◌, length, Some, Ok, All, refl, ap, sym, ◌∙◌, subst, arith, rules, append_assoc, append-nil, ◌&&◌}
use Rattle.std.specs.List.{filter, list_all}
use Rattle.std.proofs.lemmas.Bool.{false≢true}
use Rattle.std.proofs.lemmas.Bool.Decides.{nat_tests}
use Rattle.std.proofs.lemmas.Grind.{flat_map-append}
use Rattle.std.proofs.lemmas.List.Elements.{All-head, All-tail, All-cons, All-nil, All-push}
use Rattle.apfs_model.specs.Lists.{last, value_of}
use Rattle.obj_base.specs.declared.stop.Stop.{Stop}
use Rattle.bt_cursor.specs.declared.fault.WalkFault.{WalkFault}
use Rattle.bt_node.specs.Node.{key_count_of, node_count_of}
use Rattle.bt_node.specs.Entries.{Pair}
use Rattle.bt_node.specs.declared.node.NodeAt.{NodeAt}
use Rattle.bt_cursor.specs.Tree.{Tree, root_place, child_place}
use Rattle.bt_cursor.specs.Flat.{flat_of}
use Rattle.bt_cursor.specs.Line.{Item, line_of}
use Rattle.bt_cursor.specs.WholeTree.{leaf_pairs, IsWhole}
use Rattle.bt_cursor.specs.Met.{places_under, places_in, places_of, has_node, nodes_of}
use Rattle.bt_cursor.specs.Order.{first_misplaced, out_of_order}
use Rattle.bt_cursor.specs.Counts.{has_counts, is_counted}
use Rattle.bt_cursor.specs.Faults.{IsOutOfOrder}
use Rattle.bt_cursor.specs.Seen.{comes_to, seen_start, seen_item, is_out, fits, HasSeen}
use Rattle.bt_cursor.specs.Advance.{Entered, IsBadNext, IsGapOf, IsNextGap, still, HasGone}
use Rattle.bt_cursor.specs.declared.seen.Seen.{Seen}
use Rattle.bt_cursor.proofs.Flats.{line-pairs}
use Rattle.bt_cursor.proofs.Orders.{last-push, first-hit, out-misplaced, HasSeen-more, HasSeen-start}
use Rattle.std.specs.Prelude.{is_none, is_ok}

all-passes : {X : Type 0} (p : X → Bool) (xs : List X) → All (λ x. p x ≡ true) xs → list_all p xs ≡ true
all-passes p [] all = refl
all-passes p (x ∷ xs) all = ap (λ (b : Bool). b && list_all p xs) (All-head (λ y. p y ≡ true) x xs all) ∙ all-passes p xs (All-tail (λ y. p y ≡ true) x xs all)

filter-passes : {X : Type 0} (p : X → Bool) (xs : List X) → All (λ x. p x ≡ true) xs → filter p xs ≡ xs
filter-passes p [] all = refl
filter-passes p (x ∷ xs) all = ap (λ (b : Bool). cond b (x ∷ filter p xs) (filter p xs)) (All-head (λ y. p y ≡ true) x xs all) ∙ ap (λ ys. x ∷ ys) (filter-passes p xs (All-tail (λ y. p y ≡ true) x xs all))

-- before the first item
pub gone-start : {K : Type 0} (tree : Tree K) (root : ℕ) (node : List ℕ) (left : List Item) (seen : Seen) (child : NodeAt) → tree.look (root_place root) ≡ Ok node → line_of tree root ≡ left → seen ≡ seen_start (key_count_of node) (node_count_of node) → HasGone tree root [] left seen false child
gone-start tree root node left seen child found line start = record {
  node = node;
  found = found;
  line = line;
  seen_right = subst (HasSeen tree.shape (key_count_of node) (node_count_of node) []) (sym start) (HasSeen-start tree.shape (key_count_of node) (node_count_of node));
  entered = root_place root ∷ [];
  places = refl;
  nodes = All-cons (λ (at : NodeAt). has_node tree at ≡ true) (root_place root) [] (ap (λ o. is_ok o) found) (All-nil (λ (at : NodeAt). has_node tree at ≡ true));
}

-- the places up to a child that was still to come, and now has a node
reached : {K : Type 0} (tree : Tree K) (entered : List NodeAt) (deep : Bool) (child : NodeAt) → All (λ (at : NodeAt). has_node tree at ≡ true) entered → Entered tree deep child → All (λ (at : NodeAt). has_node tree at ≡ true) (entered ++ still deep child)
reached tree entered true child all now = All-push (λ (at : NodeAt). has_node tree at ≡ true) entered child all (now (search rules))
reached tree entered false child all now = subst (All (λ (at : NodeAt). has_node tree at ≡ true)) (sym (append-nil entered)) all

under-still : (level : ℕ) (pair : Pair) (deep : Bool) → deep ≡ nat_lt 0 level → places_under level pair ++ [] ≡ still deep (child_place (level - 1) pair)
under-still zero pair true e = absurd (cc)
under-still zero pair false e = refl
under-still (suc level) pair true e = let same : level ≡ suc level - 1 = omega arith in ap (λ l. child_place l pair ∷ []) same
under-still (suc level) pair false e = let upper : nat_lt 0 (suc level) ≡ true = grind (arith, nat_tests) in absurd (false≢true (e ∙ upper))

-- one more item
pub gone-more : {K : Type 0} (tree : Tree K) (root : ℕ) (passed left left_new : List Item) (item : Item) (seen new : Seen) (deep deep_new : Bool) (child : NodeAt) → HasGone tree root passed left seen deep child →
    left ≡ item ∷ left_new → is_out tree.shape seen item ≡ false → new ≡ seen_item tree.shape seen item → Entered tree deep child → deep_new ≡ nat_lt 0 item.level → HasGone tree root (passed ++ item ∷ []) left_new new deep_new (child_place (item.level - 1) item.pair)
gone-more tree root passed left left_new item seen new deep deep_new child gone next right seen_new now deeper =
    let keys = key_count_of gone.node in
    let nodes = node_count_of gone.node in
    let f : Item → List NodeAt = λ (i : Item). places_under i.level i.pair in
    record {
      node = gone.node;
      found = gone.found;
      line = gone.line ∙ (ap (λ xs. passed ++ xs) next ∙ sym (append_assoc passed (item ∷ []) left_new));
      seen_right = subst (HasSeen tree.shape keys nodes (passed ++ item ∷ [])) (sym seen_new) (HasSeen-more tree.shape keys nodes passed seen item gone.seen_right right);
      entered = gone.entered ++ still deep child;
      places = ap (λ xs. root_place root ∷ xs) (flat_map-append f passed (item ∷ [])) ∙ (ap (λ xs. xs ++ (places_under item.level item.pair ++ [])) gone.places ∙ ap (λ xs. (gone.entered ++ still deep child) ++ xs) (under-still item.level item.pair deep_new deeper));
      nodes = reached tree gone.entered deep child gone.nodes now;
    }

-- the next item is the first that is out of order
pub gone-first : {K : Type 0} (tree : Tree K) (root : ℕ) (passed left : List Item) (seen : Seen) (deep : Bool) (child : NodeAt) → HasGone tree root passed left seen deep child → IsBadNext tree.shape seen left → out_of_order tree.shape (line_of tree root) ≡ Some (length passed)
gone-first tree root passed [] seen deep child gone bad = absurd bad
gone-first tree root passed (next ∷ items) seen deep child gone bad =
    let keys = key_count_of gone.node in
    let nodes = node_count_of gone.node in
    ap (first_misplaced tree.shape []) gone.line ∙ first-hit tree.shape passed next items gone.seen_right.ordered (out-misplaced tree.shape keys nodes passed seen next gone.seen_right ∙ bad)

pub gone-order : {K : Type 0} (tree : Tree K) (root : ℕ) (passed left : List Item) (seen : Seen) (deep : Bool) (child : NodeAt) (item : ℕ) → HasGone tree root passed left seen deep child → item ≡ seen.number → IsBadNext tree.shape seen left → IsOutOfOrder tree root item
gone-order tree root passed left seen deep child item gone same bad = record { number = length passed; first = gone-first tree root passed left seen deep child gone bad; same = same ∙ gone.seen_right.number }

-- the child of the last item isn't there
pub gone-gap : {K : Type 0} (tree : Tree K) (root : ℕ) (passed left : List Item) (seen : Seen) (deep : Bool) (child : NodeAt) (why : Stop WalkFault) → HasGone tree root passed left seen deep child → IsGapOf tree deep child why → IsNextGap tree root passed why
gone-gap tree root passed left seen deep child why gone gap = record {
  at = child;
  next = ap last gone.places ∙ (ap (λ (d : Bool). last (gone.entered ++ still d child)) gap.comes ∙ last-push gone.entered child);
  gap = gap.gap;
}

-- all of the Line was passed
record IsDone {K : Type 0} (tree : Tree K) (root : ℕ) (passed : List Item) : Type 0 where
  line : line_of tree root ≡ passed
  nodes : All (λ (at : NodeAt). has_node tree at ≡ true) (places_of tree root)

done : {K : Type 0} (tree : Tree K) (root : ℕ) (passed left : List Item) (seen : Seen) (deep : Bool) (child : NodeAt) → HasGone tree root passed left seen deep child → left ≡ [] → Entered tree deep child → IsDone tree root passed
done tree root passed left seen deep child gone none now =
    let P : NodeAt → Type 0 = λ (at : NodeAt). has_node tree at ≡ true in
    let line : line_of tree root ≡ passed = gone.line ∙ (ap (λ xs. passed ++ xs) none ∙ append-nil passed) in
    let places : places_of tree root ≡ gone.entered ++ still deep child = ap (λ xs. root_place root ∷ places_in xs) line ∙ gone.places in
    record { line = line; nodes = subst (All P) (sym places) (reached tree gone.entered deep child gone.nodes now) }

-- the counts are right exactly where what was seen says so
counts-fit : {K : Type 0} (tree : Tree K) (root : ℕ) (passed left : List Item) (seen : Seen) (deep : Bool) (child : NodeAt) → HasGone tree root passed left seen deep child → IsDone tree root passed → is_counted tree root ≡ fits seen
counts-fit tree root passed left seen deep child gone all =
    let keys = key_count_of gone.node in
    let nodes = node_count_of gone.node in
    let flat : length (flat_of tree root) ≡ length (leaf_pairs passed) + 0 = omega (arith, ap length (sym (line-pairs tree root) ∙ ap leaf_pairs all.line)) in
    let met : length (nodes_of tree root) ≡ length (places_in passed) + 1 + 0 = omega (arith, ap length (filter-passes (has_node tree) (places_of tree root) all.nodes), ap (λ xs. length (places_in xs)) all.line) in
    ap (λ o. has_counts (value_of o) (length (flat_of tree root)) (length (nodes_of tree root))) gone.found
    ∙ (ap (λ n. (keys == n) && (nodes == length (nodes_of tree root))) flat
    ∙ (ap (λ n. (keys == length (leaf_pairs passed) + 0) && (nodes == n)) met
    ∙ (ap (λ (b : Bool). b && (nodes == length (places_in passed) + 1 + 0)) (sym (gone.seen_right.keys_left 0))
    ∙ ap (λ (b : Bool). comes_to seen.keys 0 && b) (sym (gone.seen_right.nodes_left 0)))))

-- at the end the tree is whole where the counts are right
pub gone-end : {K : Type 0} (tree : Tree K) (root : ℕ) (passed left : List Item) (seen : Seen) (deep : Bool) (child : NodeAt) → HasGone tree root passed left seen deep child → left ≡ [] → fits seen ≡ true → Entered tree deep child → (line_of tree root ≡ passed) × IsWhole tree root
gone-end tree root passed left seen deep child gone none fit now =
    let all = done tree root passed left seen deep child gone none now in (
      all.line,
      record {
        walkable = all-passes (has_node tree) (places_of tree root) all.nodes;
        ordered = ap (λ xs. is_none (first_misplaced tree.shape [] xs)) all.line ∙ ap (λ o. is_none o) gone.seen_right.ordered;
        counted = counts-fit tree root passed left seen deep child gone all ∙ fit;
      },
    )

pub gone-counts : {K : Type 0} (tree : Tree K) (root : ℕ) (passed left : List Item) (seen : Seen) (deep : Bool) (child : NodeAt) → HasGone tree root passed left seen deep child → left ≡ [] → fits seen ≡ false → Entered tree deep child → is_counted tree root ≡ false
gone-counts tree root passed left seen deep child gone none wrong now = counts-fit tree root passed left seen deep child gone (done tree root passed left seen deep child gone none now) ∙ wrong

-- all of the Line was passed where its end was
pub gone-line : {K : Type 0} (tree : Tree K) (root : ℕ) (passed left : List Item) (seen : Seen) (deep : Bool) (child : NodeAt) → HasGone tree root passed left seen deep child → left ≡ [] → Entered tree deep child → line_of tree root ≡ passed
gone-line tree root passed left seen deep child gone none now = (done tree root passed left seen deep child gone none now).line
