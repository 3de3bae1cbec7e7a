-- A pass over the outline of a tree, which takes its leaves.
use Rattle.std.proofs.Common.{◌≡◌, ℕ, zero, suc, ◌+◌, ◌≤◌, Bool, true, false, ◌&&◌, ◌||◌, ◌==◌, cond, List, [], ◌∷◌, ◌++◌, map, length, Option, None, Some, Result, Ok, Err, refl, ap, sym, ◌∙◌, subst, arith, append-nil, append_assoc, length-append, ◌<◌, drop, get_or, drop-cons}
use Rattle.std.specs.Prelude.{option_map, is_none, is_ok, is_some, IfOk, IfSome, IfNone}
use Rattle.std.specs.List.{flat_map, filter, list_all, range_with_len}
use Rattle.std.proofs.lemmas.Bool.Decides.{nat_tests}
use Rattle.std.proofs.lemmas.Grind.{flat_map-append}
use Rattle.std.proofs.lemmas.List.{length-map}
use Rattle.std.proofs.lemmas.List.Elements.{filter-append}
use Rattle.std.proofs.lemmas.List.Folds.{list_all-append}
use Rattle.apfs_model.specs.Blocks.{block_of}
use Rattle.apfs_model.specs.Lists.{last_or, last, passes, through, value_of}
use Rattle.obj_base.specs.declared.site.Site.{Site}
use Rattle.obj_base.specs.declared.stop.Bad.{Bad}
use Rattle.obj_base.specs.declared.stop.Bad.TheVariants as bads
use Rattle.bt_node.specs.Shape.{Shape}
use Rattle.bt_node.specs.Rank.{is_below, is_same_rank}
use Rattle.bt_node.specs.Node.{count_of, key_count_of, node_count_of}
use Rattle.bt_node.specs.Entries.{Pair, pair_of, pairs_of}
use Rattle.bt_node.specs.Soundness.{node_of}
use Rattle.bt_node.specs.declared.key.Rank.{Rank}
use Rattle.bt_node.specs.declared.node.NodeAt.{NodeAt}
use Rattle.bt_node.specs.declared.fault.NodeFault.{NodeFault}
use Rattle.bt_cursor.specs.Tree.{Tree, tree_in, root_place, judged, node_named, block_named}
use Rattle.bt_cursor.specs.Flat.{flat_of}
use Rattle.bt_cursor.specs.Line.{Item, entry_of, entries_of, line_part, line_of, is_leaf_item}
use Rattle.bt_cursor.specs.Met.{places_under, places_in, has_node, nodes_of, is_walkable}
use Rattle.bt_cursor.specs.Order.{rank_of, ranks_below, ranks_same, is_strict_leaf, is_misplaced, first_misplaced}
use Rattle.bt_cursor.specs.Counts.{has_counts}
use Rattle.bt_cursor.specs.WholeTree.{leaf_pairs}
use Rattle.bt_cursor.specs.Seen.{falls_below, is_again, reads_for}
use Rattle.bt_cursor.proofs.Orders.{last-push, first-if, first-append, first-push, passes-map, leaves-more, places-more}
use Rattle.bt_cursor.proofs.Lines.{leaf_pairs-append}
use Rattle.bt_cursor.proofs.Flats.{line-pairs}
use Rattle.bt_cursor.proofs.Walkables.{nodes-passed}
use Rattle.view_change.specs.declared.leaf.Leaf.{Leaf}
use Rattle.view_change.specs.declared.leaf_taker.Ends.{Ends}
use Rattle.view_change.specs.declared.outline.Outline.{Outline}
use Rattle.view_change.specs.declared.outline.Separator.{Separator}
use Rattle.view_change.specs.declared.seen.Seen.{Seen}
use Rattle.view_change.specs.Leaves.{leaf_place, leaf_at, records_of, records_in, IsLeafThere}
use Rattle.view_change.specs.Ends.{leaf_item, leaf_items, HasEnds}
use Rattle.view_change.specs.Outline.{node_place, reads_in, leaves_in, items_in, LeadsTo, Separates, AreSeparators, IsOutlined, HasSeen, IsPassed}
use Rattle.view_change.specs.Walked.{IsTaken}
use Rattle.view_change.proofs.Outlines.{and-both}
use Rattle.view_change.proofs.TreeLeaves.{tree-leaves}

pub and-no : (a b : Bool) → b ≡ false → (a && b) ≡ false
and-no true b e = e
and-no false b e = refl

-- what was seen tells whether an item is out of order
misplaced : {K : Type 0} (shape : Shape K) (keys nodes : ℕ) (passed : List Item) (seen : Seen) (item : Item) (first : Rank) (strict : Bool) → HasSeen shape keys nodes passed seen → rank_of shape item.pair ≡ first → is_strict_leaf shape item ≡ strict → falls_below first seen.before ≡ false
    → (strict && is_again first seen.leaf) ≡ false → is_misplaced shape passed item ≡ false
misplaced shape keys nodes passed seen item first strict has same kind low once =
    let f : Item → Rank = λ (other : Item). rank_of shape other.pair in
    let rank = rank_of shape item.pair in
    let below : passes (last passed) (ranks_below shape item) ≡ falls_below first seen.before =
    sym (ap (λ o. passes o (is_below rank)) has.before ∙ passes-map (last passed) f (is_below rank)) ∙ ap (λ r. falls_below r seen.before) same in
    let again : passes (last (filter is_leaf_item passed)) (ranks_same shape item) ≡ is_again first seen.leaf =
    sym (ap (λ o. passes o (is_same_rank rank)) has.leaf ∙ passes-map (last (filter is_leaf_item passed)) f (is_same_rank rank)) ∙ ap (λ r. is_again r seen.leaf) same in
    let strict_again : (is_strict_leaf shape item && passes (last (filter is_leaf_item passed)) (ranks_same shape item)) ≡ false =
    ap (λ (b : Bool). b && passes (last (filter is_leaf_item passed)) (ranks_same shape item)) kind ∙ (ap (λ (b : Bool). strict && b) again ∙ once) in
    ap (λ (b : Bool). b || (is_strict_leaf shape item && passes (last (filter is_leaf_item passed)) (ranks_same shape item))) (below ∙ low) ∙ strict_again

-- a separator too
pub seen-separator : {K : Type 0} (shape : Shape K) (keys nodes : ℕ) (passed : List Item) (item : Item) (seen new : Seen) (first : Rank) → HasSeen shape keys nodes passed seen → Separates shape first item → falls_below first seen.before ≡ false
    → new.before ≡ Some first → new.leaf ≡ seen.leaf → new.keys ≡ seen.keys → new.nodes + 1 ≡ seen.nodes → HasSeen shape keys nodes (passed ++ item ∷ []) new
seen-separator shape keys nodes passed item seen new first has separates low before leaf same counted =
    let f : Item → Rank = λ (other : Item). rank_of shape other.pair in
    let strict : is_strict_leaf shape item ≡ false = ap (λ (b : Bool). b && passes (shape.read item.pair.key) shape.strict) separates.inner in
    let leaves : filter is_leaf_item (passed ++ item ∷ []) ≡ filter is_leaf_item passed =
    filter-append is_leaf_item passed (item ∷ []) ∙ (ap (λ (b : Bool). filter is_leaf_item passed ++ cond b (item ∷ []) []) separates.inner ∙ append-nil (filter is_leaf_item passed)) in
    record {
      ordered = first-push shape passed item has.ordered (misplaced shape keys nodes passed seen item first false has separates.same strict low refl);
      before = before ∙ sym (ap (option_map f) (last-push passed item) ∙ ap Some separates.same);
      leaf = leaf ∙ (has.leaf ∙ ap (λ xs. option_map f (last xs)) (sym leaves));
      keys_left = omega (arith, has.keys_left, same, leaves-more passed item, ap {B = ℕ} (λ (b : Bool). cond b 1 0) separates.inner);
      nodes_left = omega (arith, has.nodes_left, counted, places-more passed item, ap {B = ℕ} (λ (b : Bool). cond b 0 1) separates.inner);
    }

-- items of leaves
leaf-filter : (oid : ℕ) (es : List (ℕ × Pair)) → filter is_leaf_item (map (leaf_item oid) es) ≡ map (leaf_item oid) es
leaf-filter oid [] = refl
leaf-filter oid (e ∷ es) = ap (λ xs. leaf_item oid e ∷ xs) (leaf-filter oid es)

leaf-places : (oid : ℕ) (es : List (ℕ × Pair)) → places_in (map (leaf_item oid) es) ≡ []
leaf-places oid [] = refl
leaf-places oid (e ∷ es) = leaf-places oid es

leaf-first : (oid : ℕ) (es : List (ℕ × Pair)) (item : Item) (items : List Item) → map (leaf_item oid) es ≡ item ∷ items → is_leaf_item item ≡ true
leaf-first oid [] item items e = absurd (cc)
leaf-first oid (entry ∷ es) item items e = let same : leaf_item oid entry ≡ item = cc in ap is_leaf_item (sym same)

leaf-entries : {K : Type 0} (shape : Shape K) (oid : ℕ) (node is : List ℕ) → leaf_pairs (map (leaf_item oid) (map (entry_of shape node) is)) ≡ map (pair_of shape node) is
leaf-entries shape oid node [] = refl
leaf-entries shape oid node (i ∷ is) = ap (λ ps. pair_of shape node i ∷ ps) (leaf-entries shape oid node is)

-- what is told of the items of a leaf
record AreOfLeaf {K : Type 0} (shape : Shape K) (found : Option (List ℕ)) (items : List Item) : Type 0 where
  filtered : filter is_leaf_item items ≡ items
  places : places_in items ≡ []
  first : (item : Item) (others : List Item) → items ≡ item ∷ others → is_leaf_item item ≡ true
  pairs : leaf_pairs items ≡ through found (pairs_of shape)

of-found : {K : Type 0} (shape : Shape K) (oid : ℕ) (found : Option (List ℕ)) → AreOfLeaf shape found (through found (λ node. map (leaf_item oid) (entries_of shape node)))
of-found shape oid None = record { filtered = refl; places = refl; first = λ item others e. absurd (cc); pairs = refl }
of-found shape oid (Some node) = record {
  filtered = leaf-filter oid (entries_of shape node);
  places = leaf-places oid (entries_of shape node);
  first = leaf-first oid (entries_of shape node);
  pairs = leaf-entries shape oid node (range_with_len 0 (count_of node));
}

of-leaf : {K : Type 0} (shape : Shape K) (site : Site) (image : List ℕ) (leaf : Leaf) → AreOfLeaf shape (value_of (node_of shape (leaf_place leaf) site (block_of site.block_size image leaf.block))) (leaf_items shape site image leaf)
of-leaf shape site image leaf = of-found shape leaf.oid (value_of (node_of shape (leaf_place leaf) site (block_of site.block_size image leaf.block)))

last_or-append : {X : Type 0} (d : X) (xs : List X) (y : X) (ys : List X) → last_or d (xs ++ (y ∷ ys)) ≡ last_or y ys
last_or-append d [] y ys = refl
last_or-append d (x ∷ xs) y ys = last_or-append x xs y ys

last-append : {X : Type 0} (xs : List X) (y : X) (ys : List X) → last (xs ++ (y ∷ ys)) ≡ last (y ∷ ys)
last-append [] y ys = refl
last-append (x ∷ xs) y ys = ap Some (last_or-append x xs y ys)

leaf-if : (b : Bool) (xs ys : List Item) (item : Item) → last xs ≡ last ys → last (xs ++ cond b (item ∷ []) []) ≡ last (ys ++ cond b (item ∷ []) [])
leaf-if true xs ys item e = last-push xs item ∙ sym (last-push ys item)
leaf-if false xs ys item e = ap last (append-nil xs) ∙ (e ∙ ap last (sym (append-nil ys)))

-- whether items are in order after others depends on the last of these alone
order-after : {K : Type 0} (shape : Shape K) (before others items : List Item) → last before ≡ last others → last (filter is_leaf_item before) ≡ last (filter is_leaf_item others) → first_misplaced shape before items ≡ None → first_misplaced shape others items ≡ None
order-after shape before others [] same leaf e = refl
order-after shape before others (x ∷ xs) same leaf e =
    let both = first-if (is_misplaced shape before x) (length before) (first_misplaced shape (before ++ x ∷ []) xs) e in
    let right : is_misplaced shape others x ≡ false =
    ap (λ o. passes o (ranks_below shape x) || (is_strict_leaf shape x && passes (last (filter is_leaf_item others)) (ranks_same shape x))) (sym same)
    ∙ (ap (λ o. passes (last before) (ranks_below shape x) || (is_strict_leaf shape x && passes o (ranks_same shape x))) (sym leaf) ∙ both.0) in
    let leaves : last (filter is_leaf_item (before ++ x ∷ [])) ≡ last (filter is_leaf_item (others ++ x ∷ [])) =
    ap last (filter-append is_leaf_item before (x ∷ []))
    ∙ (leaf-if (is_leaf_item x) (filter is_leaf_item before) (filter is_leaf_item others) x leaf ∙ ap last (sym (filter-append is_leaf_item others (x ∷ [])))) in
    ap (λ (b : Bool). cond b (Some (length others)) (first_misplaced shape (others ++ x ∷ []) xs)) right
    ∙ order-after shape (before ++ x ∷ []) (others ++ x ∷ []) xs (last-push before x ∙ sym (last-push others x)) leaves both.1

-- items of a leaf in order are so after others, if the first is
order-follows : {K : Type 0} (shape : Shape K) (before : List Item) (item : Item) (items : List Item) → first_misplaced shape [] (item ∷ items) ≡ None → is_misplaced shape before item ≡ false → is_leaf_item item ≡ true → first_misplaced shape before (item ∷ items) ≡ None
order-follows shape before item items e right leaf =
    let both = first-if (is_misplaced shape [] item) 0 (first_misplaced shape (item ∷ []) items) e in
    let leaves : last (filter is_leaf_item (item ∷ [])) ≡ last (filter is_leaf_item (before ++ item ∷ [])) =
    ap (λ (b : Bool). last (cond b (item ∷ []) [])) leaf
    ∙ sym (ap last (filter-append is_leaf_item before (item ∷ [])) ∙ (ap (λ (b : Bool). last (filter is_leaf_item before ++ cond b (item ∷ []) [])) leaf ∙ last-push (filter is_leaf_item before) item)) in
    ap (λ (b : Bool). cond b (Some (length before)) (first_misplaced shape (before ++ item ∷ []) items)) right ∙ order-after shape (item ∷ []) (before ++ item ∷ []) items (sym (last-push before item)) leaves both.1

none-is : (o : Option ℕ) → is_none o ≡ true → o ≡ None
none-is None e = refl
none-is (Some n) e = absurd (cc)

-- the items of a leaf too
pub seen-leaf : {K : Type 0} (shape : Shape K) (keys nodes : ℕ) (passed : List Item) (site : Site) (image : List ℕ) (leaf : Leaf) (ends : Ends) (seen new : Seen) → HasSeen shape keys nodes passed seen → HasEnds shape site image leaf ends
    → falls_below ends.first seen.before ≡ false → (ends.strict && is_again ends.first seen.leaf) ≡ false → new.before ≡ Some ends.last → new.leaf ≡ Some ends.last → new.keys + ends.count ≡ seen.keys → new.nodes ≡ seen.nodes
    → HasSeen shape keys nodes (passed ++ leaf_items shape site image leaf) new
seen-leaf shape keys nodes passed site image leaf ends seen new has told low once before leaves counted same =
    let f : Item → Rank = λ (other : Item). rank_of shape other.pair in
    let part = leaf_items shape site image leaf in
    let of = of-leaf shape site image leaf in
    let right = misplaced shape keys nodes passed seen told.item ends.first ends.strict has told.first told.strict low once in
    let own : first_misplaced shape [] (told.item ∷ told.items) ≡ None = ap (first_misplaced shape []) (sym told.split) ∙ none-is (first_misplaced shape [] part) told.ordered in
    let ending : (xs : List Item) → last (xs ++ part) ≡ last part = λ xs. ap (λ ys. last (xs ++ ys)) told.split ∙ (last-append xs told.item told.items ∙ ap last (sym told.split)) in
    let g : Item → List NodeAt = λ (other : Item). places_under other.level other.pair in
    record {
      ordered = first-append shape [] passed part has.ordered ∙ (ap (first_misplaced shape passed) told.split ∙ order-follows shape passed told.item told.items own right (of.first told.item told.items told.split));
      before = before ∙ sym (ap (option_map f) (ending passed) ∙ told.last_rank);
      leaf = leaves
          ∙ sym (ap (λ xs. option_map f (last xs)) (filter-append is_leaf_item passed part ∙ ap (λ ys. filter is_leaf_item passed ++ ys) of.filtered) ∙ (ap (option_map f) (ending (filter is_leaf_item passed)) ∙ told.last_rank));
      keys_left = omega (
        arith,
        has.keys_left,
        counted,
        told.counted,
        ap length (leaf_pairs-append passed part),
        length-append (leaf_pairs passed) (leaf_pairs part),
        length-map (filter is_leaf_item part) (λ (other : Item). other.pair),
        ap length of.filtered,
      );
      nodes_left = omega (arith, has.nodes_left, same, ap length (flat_map-append g passed part), length-append (places_in passed) (places_in part), ap length of.places);
    }

-- the items below a separator of a leaf are those of the leaf
value-judged : (block : ℕ) (r : Result (List ℕ) (Bad NodeFault)) → value_of (judged block r) ≡ value_of r
value-judged block (Err (bads.Found why)) = refl
value-judged block r = refl

line-leaf : {K : Type 0} (tree : Tree K) (oid : ℕ) (es : List (ℕ × Pair)) → flat_map (line_part tree zero oid) es ≡ map (leaf_item oid) es
line-leaf tree oid [] = refl
line-leaf tree oid (e ∷ es) = ap (λ xs. leaf_item oid e ∷ xs) (line-leaf tree oid es)

line-found : {K : Type 0} (tree : Tree K) (oid : ℕ) (found : Option (List ℕ)) → through found (λ node. flat_map (line_part tree zero oid) (entries_of tree.shape node)) ≡ through found (λ node. map (leaf_item oid) (entries_of tree.shape node))
line-found tree oid None = refl
line-found tree oid (Some node) = line-leaf tree oid (entries_of tree.shape node)

abbrev leaf_in : ℕ → ℕ → Leaf
leaf_in oid block = record { oid = oid; block = block }

line-below : {K : Type 0} (shape : Shape K) (site : Site) (named : ℕ → Option ℕ) (image : List ℕ) (oid block : ℕ) → block_named site named oid ≡ Some block → items_in (tree_in shape site named image) 0 (Some oid) ≡ leaf_items shape site image (leaf_in oid block)
line-below shape site named image oid block there =
    let tree = tree_in shape site named image in
    let own : List ℕ → List Item = λ node. flat_map (line_part tree zero oid) (entries_of shape node) in
    ap (λ o. through (value_of (node_named shape site image (node_place 0 oid) o)) own) there
    ∙ (ap (λ found. through found own) (value-judged block (node_of shape (node_place 0 oid) site (block_of site.block_size image block)))
    ∙ line-found tree oid (value_of (node_of shape (node_place 0 oid) site (block_of site.block_size image block))))

leaf-has : {K : Type 0} (shape : Shape K) (site : Site) (named : ℕ → Option ℕ) (image : List ℕ) (oid block : ℕ) → block_named site named oid ≡ Some block → IsLeafThere shape site image (leaf_in oid block) → has_node (tree_in shape site named image) (node_place 0 oid) ≡ true
leaf-has shape site named image oid block there sound = ap (λ o. is_ok (node_named shape site image (node_place 0 oid) o)) there ∙ ap (λ r. is_ok (judged block r)) sound

places-on : (passed below : List Item) (item : Item) (at : NodeAt) → places_under item.level item.pair ≡ at ∷ [] → places_in below ≡ [] → places_in ((passed ++ item ∷ []) ++ below) ≡ places_in passed ++ at ∷ []
places-on passed below item at here none =
    let g : Item → List NodeAt = λ (other : Item). places_under other.level other.pair in
    flat_map-append g (passed ++ item ∷ []) below
    ∙ (ap (λ ats. places_in (passed ++ item ∷ []) ++ ats) none
    ∙ (append-nil (places_in (passed ++ item ∷ [])) ∙ (flat_map-append g passed (item ∷ []) ∙ ap (λ ats. places_in passed ++ (ats ++ [])) here)))

pairs-on : (passed below : List Item) (item : Item) → is_leaf_item item ≡ false → leaf_pairs ((passed ++ item ∷ []) ++ below) ≡ leaf_pairs passed ++ leaf_pairs below
pairs-on passed below item inner =
    leaf_pairs-append (passed ++ item ∷ []) below
    ∙ ap (λ ps. ps ++ leaf_pairs below)
    (leaf_pairs-append passed (item ∷ []) ∙ (ap (λ (b : Bool). leaf_pairs passed ++ map (λ (i : Item). i.pair) (cond b (item ∷ []) [])) inner ∙ append-nil (leaf_pairs passed)))

-- one separator more is passed, with the items below it
pass-on : {K : Type 0} (shape : Shape K) (site : Site) (named : ℕ → Option ℕ) (image : List ℕ) (root keys nodes : ℕ) (holds held : List Leaf → Type 0) (start reads more : ℕ) (next : Separator) (left : List Separator) (seen new : Seen) (below : List Item) (taken : List Leaf)
    (p : IsPassed shape site named image root keys nodes holds start reads (next ∷ left) seen) → items_in (tree_in shape site named image) 0 next.child ≡ below → HasSeen shape keys nodes ((p.passed ++ p.separators.0 ∷ []) ++ below) new
    → has_node (tree_in shape site named image) p.separators.1.1.0.separates.at ≡ true → places_in below ≡ [] → leaf_pairs below ≡ records_in shape site image taken → through next.child (λ oid. leaf_at site named (node_place 0 oid)) ≡ taken
    → held (p.leaves ++ taken) → more ≤ reads + reads_in (next ∷ []) → IsPassed shape site named image root keys nodes held start more left new
pass-on shape site named image root keys nodes holds held start reads more next left seen new below taken p under right here none pairs next_leaves have few =
    let tree = tree_in shape site named image in
    let item = p.separators.0 in
    let rest = p.separators.1.0 in
    let is = p.separators.1.1 in
    let separates = is.0.separates in
    let places = places-on p.passed below item separates.at separates.upper none in
    record {
      passed = (p.passed ++ item ∷ []) ++ below;
      items = rest;
      line = p.line
          ∙ (ap (λ is. p.passed ++ is) (is.1 ∙ ap (λ is. item ∷ (is ++ rest)) under) ∙ sym (append_assoc (p.passed ++ item ∷ []) below rest ∙ append_assoc p.passed (item ∷ []) (below ++ rest)));
      separators = is.2;
      right = right;
      there = ap (list_all (has_node tree)) places
          ∙ (list_all-append (has_node tree) (places_in p.passed) (separates.at ∷ []) ∙ and-both (list_all (has_node tree) (places_in p.passed)) (list_all (has_node tree) (separates.at ∷ [])) p.there (and-both (has_node tree separates.at) true here refl));
      leaves = p.leaves ++ taken;
      held = have;
      all = p.all ∙ (ap (λ (ls : List Leaf). p.leaves ++ (ls ++ leaves_in site named left)) next_leaves ∙ sym (append_assoc p.leaves taken (leaves_in site named left)));
      records = pairs-on p.passed below item separates.inner
          ∙ (ap (λ ps. ps ++ leaf_pairs below) p.records ∙ (ap (λ ps. records_in shape site image p.leaves ++ ps) pairs ∙ sym (flat_map-append (records_of shape site image) p.leaves taken)));
      few = omega (arith, few, p.few, ap length places, length-append (places_in p.passed) (separates.at ∷ []));
    }

-- a separator whose child is passed
pub pass-upper : {K : Type 0} (shape : Shape K) (site : Site) (named : ℕ → Option ℕ) (image : List ℕ) (root keys nodes : ℕ) (holds : List Leaf → Type 0) (start reads : ℕ) (next : Separator) (left : List Separator) (seen new : Seen)
    → IsPassed shape site named image root keys nodes holds start reads (next ∷ left) seen → next.child ≡ None → ((items : List Item) (item : Item) → HasSeen shape keys nodes items seen → Separates shape next.rank item → HasSeen shape keys nodes (items ++ item ∷ []) new)
    → IsPassed shape site named image root keys nodes holds start reads left new
pass-upper shape site named image root keys nodes holds start reads next left seen new p none sees =
    let tree = tree_in shape site named image in
    let item = p.separators.0 in
    let separator = p.separators.1.1.0 in
    let right = sees p.passed item p.right separator.separates in
    let leads : LeadsTo tree 0 None separator.separates.at = subst (λ child. LeadsTo tree 0 child separator.separates.at) none separator.leads in
    pass-on shape site named image root keys nodes holds holds start reads reads next left seen new [] [] p (ap (items_in tree 0) none) (subst (λ is. HasSeen shape keys nodes is new) (sym (append-nil (p.passed ++ item ∷ []))) right) leads.0 refl refl
    (ap (λ (child : Option ℕ). through child (λ oid. leaf_at site named (node_place 0 oid))) none) (subst holds (sym (append-nil p.leaves)) p.held) (omega arith)

-- the leaf to which a separator leads
pub next-leaf : (site : Site) (named : ℕ → Option ℕ) (next : Separator) (oid block : ℕ) → next.child ≡ Some oid → block_named site named oid ≡ Some block → through next.child (λ id. leaf_at site named (node_place 0 id)) ≡ leaf_in oid block ∷ []
next-leaf site named next oid block child there =
    ap (λ (c : Option ℕ). through c (λ id. leaf_at site named (node_place 0 id))) child ∙ ap (λ (found : Option ℕ). through found (λ b. leaf_in oid b ∷ [])) there

-- a separator and the leaf below it
pass-leaf : {K : Type 0} (shape : Shape K) (site : Site) (named : ℕ → Option ℕ) (image : List ℕ) (root keys nodes : ℕ) (holds held : List Leaf → Type 0) (start reads more : ℕ) (next : Separator) (left : List Separator) (seen new : Seen) (oid block : ℕ)
    (p : IsPassed shape site named image root keys nodes holds start reads (next ∷ left) seen) → next.child ≡ Some oid → block_named site named oid ≡ Some block → IsLeafThere shape site image (leaf_in oid block)
    → ((items : List Item) (item : Item) → HasSeen shape keys nodes items seen → Separates shape next.rank item → HasSeen shape keys nodes ((items ++ item ∷ []) ++ leaf_items shape site image (leaf_in oid block)) new) → held (p.leaves ++ leaf_in oid block ∷ []) → more ≤ reads + 1
    → IsPassed shape site named image root keys nodes held start more left new
pass-leaf shape site named image root keys nodes holds held start reads more next left seen new oid block p child there sound sees have few =
    let tree = tree_in shape site named image in
    let separator = p.separators.1.1.0 in
    let leaf = leaf_in oid block in
    let of = of-leaf shape site image leaf in
    let leads : separator.separates.at ≡ node_place 0 oid = subst (λ c. LeadsTo tree 0 c separator.separates.at) child separator.leads in
    let one : reads_in (next ∷ []) ≡ 1 = ap (λ (c : Option ℕ). reads_for (is_some c) + 0) child in
    pass-on shape site named image root keys nodes holds held start reads more next left seen new (leaf_items shape site image leaf) (leaf ∷ []) p (ap (items_in tree 0) child ∙ line-below shape site named image oid block there) (sees p.passed p.separators.0 p.right separator.separates)
    (ap (has_node tree) leads ∙ leaf-has shape site named image oid block there sound) of.places (of.pairs ∙ sym (append-nil (records_of shape site image leaf))) (next-leaf site named next oid block child there) have (omega (arith, few, one))

-- what is said of a value that is there
pub at-some : {X : Type 0} (o : Option X) (x : X) (P : X → Type 0) → o ≡ Some x → IfSome o P → P x
at-some o x P e h = subst (λ p. IfSome p P) e h

-- what is said of it, whatever it is
pub for-some : {X : Type 0} (o : Option X) (P Q : Type 0) → (P → Q) → IfSome o (λ _. P) → IfSome o (λ _. Q)
for-some None P Q f h = tt
for-some (Some x) P Q f h = f h

pub any-some : {X : Type 0} (o : Option X) (P : Type 0) → P → IfSome o (λ _. P)
any-some None P h = tt
any-some (Some x) P h = h

pub any-found : {X E : Type 0} (r : Result (Option X) E) (P : Type 0) → P → IfOk r (λ found. IfSome found (λ _. P))
any-found (Ok found) P h = any-some found P h
any-found (Err e) P h = tt

-- and of none
pub at-none : {X : Type 0} (o : Option X) (P : Type 0) → is_some o ≡ false → IfNone o P → P
at-none None P e h = h
at-none (Some x) P e h = absurd (cc)

pub pass-leaf-if : {K : Type 0} (shape : Shape K) (site : Site) (named : ℕ → Option ℕ) (image : List ℕ) (root keys nodes : ℕ) (holds held : List Leaf → Type 0) (start reads more : ℕ) (next : Separator) (left : List Separator) (seen : Seen) (found : Option Seen) (oid block : ℕ)
    (p : IsPassed shape site named image root keys nodes holds start reads (next ∷ left) seen) → next.child ≡ Some oid → block_named site named oid ≡ Some block → IsLeafThere shape site image (leaf_in oid block)
    → ((items : List Item) (item : Item) → HasSeen shape keys nodes items seen → Separates shape next.rank item → IfSome found (HasSeen shape keys nodes ((items ++ item ∷ []) ++ leaf_items shape site image (leaf_in oid block)))) → held (p.leaves ++ leaf_in oid block ∷ []) → more ≤ reads + 1
    → IfSome found (IsPassed shape site named image root keys nodes held start more left)
pass-leaf-if shape site named image root keys nodes holds held start reads more next left seen None oid block p child there sound sees have few = tt
pass-leaf-if shape site named image root keys nodes holds held start reads more next left seen (Some new) oid block p child there sound sees have few =
    pass-leaf shape site named image root keys nodes holds held start reads more next left seen new oid block p child there sound sees have few

-- nothing is passed
pub pass-start : {K : Type 0} (shape : Shape K) (site : Site) (named : ℕ → Option ℕ) (image : List ℕ) (root start reads : ℕ) (outline : Outline) (holds : List Leaf → Type 0) (seen : Seen) → IsOutlined (tree_in shape site named image) root start reads outline → outline.level ≡ 0
    → HasSeen shape outline.info.key_count outline.info.node_count [] seen → holds [] → IsPassed shape site named image root outline.info.key_count outline.info.node_count holds start reads outline.separators.items seen
pass-start shape site named image root start reads outline holds seen old end right none =
    let tree = tree_in shape site named image in
    record {
      passed = [];
      items = line_of tree root;
      line = refl;
      separators = subst (λ l. AreSeparators tree l outline.separators.items (line_of tree root)) end old.line;
      right = right;
      there = refl;
      leaves = [];
      held = none;
      all = tree-leaves tree site named root start reads outline old end;
      records = refl;
      few = omega (arith, old.few);
    }

node-there : {E : Type 0} (look : Result (List ℕ) E) (node : List ℕ) → value_of look ≡ Some node → is_ok look ≡ true
node-there (Ok n) node e = refl
node-there (Err why) node e = absurd (cc)

same-number : (a b : ℕ) → a ≡ b → (a == b) ≡ true
same-number a b e = grind (arith, nat_tests)

-- all is passed
pub record IsEnd {K : Type 0} (shape : Shape K) (site : Site) (named : ℕ → Option ℕ) (image : List ℕ) (root : ℕ) (holds : List Leaf → Type 0) (start reads : ℕ) : Type 0 where
  pub taken : IsTaken shape site named image root holds
  pub few : reads ≤ start + length (nodes_of (tree_in shape site named image) root)

pub pass-end : {K : Type 0} (shape : Shape K) (site : Site) (named : ℕ → Option ℕ) (image : List ℕ) (root begun reads now : ℕ) (outline : Outline) (holds : List Leaf → Type 0) (left : List Separator) (seen : Seen) → IsOutlined (tree_in shape site named image) root begun reads outline
    → IsPassed shape site named image root outline.info.key_count outline.info.node_count holds begun now left seen → left ≡ [] → seen.keys ≡ 0 → seen.nodes ≡ 0 → IsEnd shape site named image root holds begun now
pass-end shape site named image root begun reads now outline holds left seen old p none no_keys no_nodes =
    let tree = tree_in shape site named image in
    let done : p.items ≡ [] = subst (λ xs. AreSeparators tree 0 xs p.items) none p.separators in
    let line : line_of tree root ≡ p.passed = p.line ∙ (ap (λ is. p.passed ++ is) done ∙ append-nil p.passed) in
    let walkable : is_walkable tree root ≡ true =
    and-both (has_node tree (root_place root)) (list_all (has_node tree) (places_in (line_of tree root))) (node-there (tree.look (root_place root)) old.node old.there) (ap (λ is. list_all (has_node tree) (places_in is)) line ∙ p.there) in
    let flat : flat_of tree root ≡ leaf_pairs p.passed = sym (line-pairs tree root) ∙ ap leaf_pairs line in
    let met = nodes-passed tree root p.passed walkable line in
    let keys : key_count_of old.node ≡ length (flat_of tree root) = omega (arith, old.keys, p.right.keys_left, no_keys, ap length flat) in
    let nodes : node_count_of old.node ≡ length (nodes_of tree root) = omega (arith, old.nodes, p.right.nodes_left, no_nodes, met) in
    record {
      taken = record {
        leaves = p.leaves;
        held = p.held;
        all = sym (p.all ∙ (ap (λ (xs : List Separator). p.leaves ++ leaves_in site named xs) none ∙ append-nil p.leaves));
        whole = record {
          walkable = walkable;
          ordered = ap (λ is. is_none (first_misplaced shape [] is)) line ∙ ap (λ o. is_none o) p.right.ordered;
          counted = ap (λ found. has_counts found (length (flat_of tree root)) (length (nodes_of tree root))) old.there
              ∙ and-both (key_count_of old.node == length (flat_of tree root)) (node_count_of old.node == length (nodes_of tree root)) (same-number (key_count_of old.node) (length (flat_of tree root)) keys)
              (same-number (node_count_of old.node) (length (nodes_of tree root)) nodes);
        };
        flat = flat ∙ p.records;
      };
      few = omega (arith, p.few, met, ap reads_in none, ap length none);
    }

-- the next separator comes first among those that are left
pub next-left : (all : List Separator) (i : ℕ) (d : Separator) → i < length all → drop i all ≡ get_or all i d ∷ drop (i + 1) all
next-left all i d low =
    let next : suc i ≡ i + 1 = omega arith in
    drop-cons all i d low ∙ ap (λ n. get_or all i d ∷ drop n all) next

pub pass-next : {K : Type 0} (shape : Shape K) (site : Site) (named : ℕ → Option ℕ) (image : List ℕ) (root keys nodes : ℕ) (holds : List Leaf → Type 0) (start reads : ℕ) (all : List Separator) (i : ℕ) (d : Separator) (seen : Seen) → i < length all
    → IsPassed shape site named image root keys nodes holds start reads (drop i all) seen → IsPassed shape site named image root keys nodes holds start reads (get_or all i d ∷ drop (i + 1) all) seen
pass-next shape site named image root keys nodes holds start reads all i d seen low p =
    subst (λ left. IsPassed shape site named image root keys nodes holds start reads left seen) (next-left all i d low) p
