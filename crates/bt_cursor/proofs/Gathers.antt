-- What is gathered on a walk over a tree.
use Rattle.std.specs.Prelude.{◌≡◌, ℕ, zero, suc, ◌+◌, ◌≤◌, is_none, nat_lt, Bool, true, false, not, List, [], ◌∷◌, ◌++◌, length, Option, Some, None, option_map, refl, map, ◌||◌, ◌&&◌, ◌==◌, if◌then◌else◌}
use Rattle.std.specs.List.{filter, list_any, cons_option}
use Rattle.std.proofs.Common.{arith, ap, sym, ◌∙◌, subst, append-nil, append_assoc, length-append}
use Rattle.std.proofs.lemmas.Bool.Decides.{nat_tests}
use Rattle.std.proofs.lemmas.Bool.{false≢true}
use Rattle.std.proofs.lemmas.List.Concat.{flat_map-append}
use Rattle.std.proofs.lemmas.List.Elements.{filter-append}
use Rattle.apfs_model.specs.Counts.{given}
use Rattle.apfs_model.specs.Lists.{last, passes}
use Rattle.obj_base.specs.Stops.{Tells, IsFree, raised}
use Rattle.obj_base.specs.declared.stop.Stop.{Stop}
use Rattle.obj_base.specs.declared.stop.Stop.TheVariants.{Found, Unsupported, ReadFault, NoMemory}
use Rattle.bt_node.specs.Shape.{Shape}
use Rattle.bt_node.specs.Rank.{is_below, is_same_rank}
use Rattle.bt_node.specs.Entries.{Pair}
use Rattle.bt_node.specs.declared.node.NodeAt.{NodeAt}
use Rattle.bt_node.specs.declared.key.Rank.{Rank}
use Rattle.bt_node.specs.declared.key.TreeKey as keys
use Rattle.bt_cursor.specs.declared.namer.Namer as namers
use Rattle.bt_cursor.specs.declared.liner.Liner.{Liner}
use Rattle.bt_cursor.specs.declared.seen.Seen.{Seen}
use Rattle.bt_cursor.specs.declared.fault.WalkFault.{WalkFault}
use Rattle.bt_cursor.specs.declared.fault.WalkFault.TheVariants.{Unsound, Unnamed, Order, Counts}
use Rattle.bt_cursor.specs.declared.gathering.GatherFault.{GatherFault}
use Rattle.bt_cursor.specs.declared.gathering.GatherFault.TheVariants.{Tree as TreeFault, Refused}
use Rattle.bt_cursor.specs.Tree.{Tree, child_in}
use Rattle.bt_cursor.specs.Line.{Item, item_at, line_of, is_leaf_item}
use Rattle.bt_cursor.specs.WholeTree.{child_id, IsWhole}
use Rattle.bt_cursor.specs.Met.{places_under, places_in, places_of, has_node, is_walkable}
use Rattle.bt_cursor.specs.Order.{rank_of, is_strict_leaf, ranks_below, ranks_same, is_misplaced}
use Rattle.bt_cursor.specs.Faults.{IsNodeFault, IsWalkFault, HasFeature}
use Rattle.bt_cursor.specs.Seen.{reads_for, is_out, seen_item}
use Rattle.bt_cursor.specs.Liners.{root_of, tree_of, item_of, is_deep, seen_of, left_of, Passes, HasItemIf, Sees}
use Rattle.bt_cursor.specs.Gathered.{children_of, node_ids, shown, IsRefused, IsGatherFault, SeesOrder, IsGathered, HasWalked, IsWalked, HasTaken, HasTakenAll}
use Rattle.bt_cursor.proofs.Orders.{last-push, first-push, passes-map, leaf-if}
use Rattle.bt_cursor.proofs.Places.{IsLevelled, whole-world}
use Rattle.bt_cursor.proofs.Walkables.{filter-all, nodes-passed}

or-first : (a b : Bool) → (a || b) ≡ false → a ≡ false
or-first true b e = e
or-first false b e = refl

or-second : (a b : Bool) → (a || b) ≡ false → b ≡ false
or-second true b e = absurd (cc)
or-second false b e = e

or-true : (a b : Bool) → b ≡ true → (a || b) ≡ true
or-true true b e = refl
or-true false b e = e

-- why a root can't be read is there
pub node_tells : {K : Type 0} (tree : Tree K) (root : ℕ) (refuses : Item → Bool) (stop : Stop WalkFault) → Tells (IsNodeFault tree root) (HasFeature tree root) stop → Tells (IsGatherFault tree root refuses) (HasFeature tree root) (raised TreeFault stop)
node_tells tree root refuses (Found (Unsound block why)) h = h
node_tells tree root refuses (Found (Unnamed oid)) h = h
node_tells tree root refuses (Found (Order item)) h = absurd h
node_tells tree root refuses (Found Counts) h = absurd h
node_tells tree root refuses (Unsupported feature block) h = h
node_tells tree root refuses ReadFault h = tt
node_tells tree root refuses NoMemory h = tt

-- why a walk stops is there
pub walk_tells : {K : Type 0} (tree : Tree K) (root : ℕ) (refuses : Item → Bool) (stop : Stop WalkFault) → Tells (IsWalkFault tree root) (HasFeature tree root) stop → Tells (IsGatherFault tree root refuses) (HasFeature tree root) (raised TreeFault stop)
walk_tells tree root refuses (Found why) h = h
walk_tells tree root refuses (Unsupported feature block) h = h
walk_tells tree root refuses ReadFault h = tt
walk_tells tree root refuses NoMemory h = tt

out-misplaced : {K : Type 0} (shape : Shape K) (passed : List Item) (seen : Seen) (item : Item) → SeesOrder shape passed seen → is_misplaced shape passed item ≡ is_out shape seen item
out-misplaced shape passed seen item has =
    let f : Item → Rank = λ (other : Item). rank_of shape other.pair in
    let rank = rank_of shape item.pair in
    let below : passes (last passed) (ranks_below shape item) ≡ passes seen.before (is_below rank) = sym (ap (λ o. passes o (is_below rank)) has.before ∙ passes-map (last passed) f (is_below rank)) in
    let same : passes (last (filter is_leaf_item passed)) (ranks_same shape item) ≡ passes seen.leaf (is_same_rank rank) = sym (ap (λ o. passes o (is_same_rank rank)) has.leaf ∙ passes-map (last (filter is_leaf_item passed)) f (is_same_rank rank)) in
    ap (λ (b : Bool). b || (is_strict_leaf shape item && passes (last (filter is_leaf_item passed)) (ranks_same shape item))) below
    ∙ ap (λ (b : Bool). passes seen.before (is_below rank) || (is_strict_leaf shape item && b)) same

-- after one more item in order
pub order-more : {K : Type 0} (shape : Shape K) (passed : List Item) (seen new : Seen) (item : Item) → SeesOrder shape passed seen → is_out shape seen item ≡ false → new ≡ seen_item shape seen item → SeesOrder shape (passed ++ item ∷ []) new
order-more shape passed seen new item has right e =
    let f : Item → Rank = λ (other : Item). rank_of shape other.pair in
    record {
      ordered = first-push shape passed item has.ordered (out-misplaced shape passed seen item has ∙ right);
      before = ap (λ (s : Seen). s.before) e ∙ sym (ap (option_map f) (last-push passed item));
      leaf = ap (λ (s : Seen). s.leaf) e
          ∙ leaf-if (is_leaf_item item) f (filter is_leaf_item passed) item seen.leaf has.leaf
          ∙ ap (λ ys. option_map f (last ys)) (sym (filter-append is_leaf_item passed (item ∷ [])));
    }

under-deep : (level : ℕ) (pair : Pair) → length (places_under level pair) ≡ reads_for (nat_lt 0 level)
under-deep zero pair = refl
under-deep (suc level) pair = let upper : nat_lt 0 (suc level) ≡ true = grind (arith, nat_tests) in ap reads_for (sym upper)

places-more : (passed : List Item) (item : Item) → length (places_in (passed ++ item ∷ [])) ≡ length (places_in passed) + reads_for (nat_lt 0 item.level)
places-more passed item =
    ap length (flat_map-append (λ (i : Item). places_under i.level i.pair) passed (item ∷ []))
    ∙ (length-append (places_in passed) (places_in (item ∷ []))
    ∙ (let one : length (places_in (item ∷ [])) ≡ reads_for (nat_lt 0 item.level) = ap length (append-nil (places_under item.level item.pair)) ∙ under-deep item.level item.pair in ap (λ n. length (places_in passed) + n) one))

-- a move onto an item walks on
pub walks-on : {K N : Type 0} {k : keys.Ghosts K} {n : namers.Ghosts N} (image : List ℕ) (passed : List Item) (start reads reads' : ℕ) (old new : Liner K N k n)
    → HasWalked image passed start reads old → Passes image passed old new true → HasItemIf new true → reads' ≤ reads + reads_for (is_deep old) → HasWalked image (passed ++ item_of new ∷ []) start reads' new
walks-on image passed start reads reads' old new walked passes stands few = record {
  has = passes;
  few = (let deep : reads_for (is_deep new) ≡ reads_for (nat_lt 0 (item_of new).level) = ap reads_for stands.1 in
      omega (arith, deep, few, walked.few, places-more passed (item_of new)));
}

-- a move onto none ends a walk
pub walks-end : {K N : Type 0} {k : keys.Ghosts K} {n : namers.Ghosts N} (image : List ℕ) (passed : List Item) (start reads reads' : ℕ) (old new : Liner K N k n)
    → HasWalked image passed start reads old → Passes image passed old new false → reads' ≤ reads + reads_for (is_deep old) → IsWalked (tree_of old image) (root_of old) passed start reads'
walks-end image passed start reads reads' old new walked passes few = record {
  line = passes.0;
  whole = passes.1;
  few = omega (arith, few, walked.few, nodes-passed (tree_of old image) (root_of old) passed passes.1.walkable passes.0);
}

-- a test of one more item
any-more : (test : Item → Bool) (items : List Item) (item : Item) → list_any test items ≡ false → test item ≡ false → list_any test (items ++ item ∷ []) ≡ false
any-more test [] item none right = ap (λ (b : Bool). b || false) right
any-more test (i ∷ items) item none right =
    let head = or-first (test i) (list_any test items) none in
    let rest = any-more test items item (or-second (test i) (list_any test items) none) right in
    ap (λ (b : Bool). b || list_any test (items ++ item ∷ [])) head ∙ rest

any-at : (test : Item → Bool) (before : List Item) (item : Item) (after : List Item) → test item ≡ true → list_any test (before ++ item ∷ after) ≡ true
any-at test [] item after e = ap (λ (b : Bool). b || list_any test after) e
any-at test (i ∷ before) item after e = or-true (test i) (list_any test (before ++ item ∷ after)) (any-at test before item after e)

-- one more item was gathered
pub taken-more : {K N : Type 0} {k : keys.Ghosts K} {n : namers.Ghosts N} (told : Option (List ℕ)) (holds later : List Item → Type 0) (refuses : Item → Bool) (number start reads reads' : ℕ) (old new : Liner K N k n) (had : HasTaken told holds refuses number start reads old)
    → later (had.passed ++ item_of new ∷ []) → refuses (item_of new) ≡ false → Sees old new true → HasItemIf new true → ((image : List ℕ) → told ≡ Some image → Passes image had.passed old new true) → reads' ≤ reads + reads_for (is_deep old)
    → HasTaken told later refuses (given (number + 1)) start reads' new
taken-more {k = k} told holds later refuses number start reads reads' old new had held right sees stands passes few = record {
  passed = had.passed ++ item_of new ∷ [];
  held = held;
  none_refused = any-more refuses had.passed (item_of new) had.none_refused right;
  counted = omega (arith, had.counted, length-append had.passed (item_of new ∷ []));
  order = order-more k.shape had.passed (seen_of old) (seen_of new) (item_of new) had.order sees.0 sees.1;
  walked = λ image e. walks-on image had.passed start reads reads' old new (had.walked image e) (passes image e) stands few;
}

-- all items were gathered
pub taken-all : {K N : Type 0} {k : keys.Ghosts K} {n : namers.Ghosts N} (told : Option (List ℕ)) (holds : List Item → Type 0) (refuses : Item → Bool) (number start reads reads' : ℕ) (old new : Liner K N k n) (had : HasTaken told holds refuses number start reads old)
    → ((image : List ℕ) → told ≡ Some image → Passes image had.passed old new false) → reads' ≤ reads + reads_for (is_deep old) → HasTakenAll told (tree_of old) k.shape (root_of old) holds refuses start reads'
taken-all {k = k} told holds refuses number start reads reads' old new had passes few = record {
  passed = had.passed;
  held = had.held;
  none_refused = had.none_refused;
  ordered = ap (λ (o : Option ℕ). is_none o) had.order.ordered;
  walked = λ image e. walks-end image had.passed start reads reads' old new (had.walked image e) (passes image e) few;
}

-- the item onto which a walk moved is the first that is refused
pub refused-there : {K N : Type 0} {k : keys.Ghosts K} {n : namers.Ghosts N} (told : Option (List ℕ)) (holds : List Item → Type 0) (refuses : Item → Bool) (number start reads : ℕ) (old new : Liner K N k n) (had : HasTaken told holds refuses number start reads old) (image : List ℕ)
    → tree_of new ≡ tree_of old → root_of new ≡ root_of old → Passes image had.passed old new true → refuses (item_of new) ≡ true → IsRefused refuses (line_of (tree_of old image) (root_of old)) number
refused-there told holds refuses number start reads old new had image tree root passes wrong = record {
  before = had.passed;
  item = item_of new;
  after = left_of new image;
  split = sym (ap (λ f. line_of (f image) (root_of old)) tree) ∙ (sym (ap (λ r. line_of (tree_of new image) r) root) ∙ (passes.gone.line ∙ append_assoc had.passed (item_of new ∷ []) (left_of new image)));
  refused = wrong;
  first = had.none_refused;
  same = had.counted;
}

-- what a source tells may be said in other words
pub taken-told : {K N : Type 0} {k : keys.Ghosts K} {n : namers.Ghosts N} (told other : Option (List ℕ)) (holds : List Item → Type 0) (refuses : Item → Bool) (number start reads : ℕ) (liner : Liner K N k n) → other ≡ told → HasTaken told holds refuses number start reads liner → HasTaken other holds refuses number start reads liner
taken-told told other holds refuses number start reads liner e had = subst (λ (o : Option (List ℕ)). HasTaken o holds refuses number start reads liner) (sym e) had

-- what was gathered is what the whole tree gives
pub all-gathered : {K : Type 0} (told : Option (List ℕ)) (tree : List ℕ → Tree K) (shape : Shape K) (root : ℕ) (holds : List Item → Type 0) (refuses : Item → Bool) (start reads : ℕ) → HasTakenAll told tree shape root holds refuses start reads → (image : List ℕ) → told ≡ Some image → IsGathered (tree image) root holds refuses
all-gathered told tree shape root holds refuses start reads all image e = record {
  whole = (all.walked image e).whole;
  held = subst holds (sym (all.walked image e).line) all.held;
  none_refused = ap (list_any refuses) (all.walked image e).line ∙ all.none_refused;
}

-- in a whole tree of which no item is refused, nothing is there that could be named
pub gather-free : {K : Type 0} (tree : Tree K) (root : ℕ) (refuses : Item → Bool) (stop : Stop GatherFault) → IsLevelled tree → IsWhole tree root → list_any refuses (line_of tree root) ≡ false → Tells (IsGatherFault tree root refuses) (HasFeature tree root) stop → IsFree stop
gather-free tree root refuses (Found (TreeFault why)) levelled whole none told = whole-world tree root (Found why) levelled whole told
gather-free tree root refuses (Found (Refused number)) levelled whole none told =
    absurd (false≢true (sym none ∙ (ap (list_any refuses) told.split ∙ any-at refuses told.before told.item told.after told.refused)))
gather-free tree root refuses (Unsupported feature block) levelled whole none told = whole-world tree root (Unsupported feature block) levelled whole told
gather-free tree root refuses ReadFault levelled whole none told = tt
gather-free tree root refuses NoMemory levelled whole none told = tt

-- a start stops for its root alone, so whatever is refused
pub start_tells : {K : Type 0} (tree : Tree K) (root : ℕ) (refuses : Item → Bool) (stop : Stop GatherFault) → Tells (IsGatherFault tree root (λ _. false)) (HasFeature tree root) stop → Tells (IsGatherFault tree root refuses) (HasFeature tree root) stop
start_tells tree root refuses (Found (TreeFault why)) told = told
start_tells tree root refuses (Found (Refused number)) told = absurd (false≢true told.refused)
start_tells tree root refuses (Unsupported feature block) told = told
start_tells tree root refuses ReadFault told = tt
start_tells tree root refuses NoMemory told = tt

-- the item that was lent is the one onto which a walk moved
pub shown-is : (node at level : ℕ) (key : List ℕ) (value : Option (List ℕ)) (item : Item) → node ≡ item.node → at ≡ item.at → level ≡ item.level → key ≡ item.pair.key → value ≡ item.pair.value → shown node at level key value ≡ item
shown-is node at level key value item a b e f g =
    ap (λ n. shown n at level key value) a
    ∙ (ap (λ i. shown item.node i level key value) b
    ∙ (ap (λ l. shown item.node item.at l key value) e ∙ (ap (λ k. shown item.node item.at item.level k value) f ∙ ap (shown item.node item.at item.level item.pair.key) g)))

pub not-refused : (kept refused : Bool) → kept ≡ not refused → kept ≡ true → refused ≡ false
not-refused kept true e f = absurd (false≢true (sym e ∙ f))
not-refused kept false e f = refl

pub not-kept : (kept refused : Bool) → kept ≡ not refused → kept ≡ false → refused ≡ true
not-kept kept true e f = refl
not-kept kept false e f = absurd (false≢true (sym f ∙ e))

-- all that was gathered, said of the tree of an image
pub all-told : {K : Type 0} (told other : Option (List ℕ)) (tree same : List ℕ → Tree K) (shape : Shape K) (root one : ℕ) (holds : List Item → Type 0) (refuses : Item → Bool) (start reads : ℕ) → other ≡ told → tree ≡ same → root ≡ one
    → HasTakenAll other tree shape root holds refuses start reads → HasTakenAll told same shape one holds refuses start reads
all-told told other tree same shape root one holds refuses start reads e f h all =
    subst (λ (o : Option (List ℕ)). HasTakenAll o same shape one holds refuses start reads) e
    (subst (λ t. HasTakenAll other t shape one holds refuses start reads) f
    (subst (λ (r : ℕ). HasTakenAll other tree shape r holds refuses start reads) h all))

-- the place to which an item leads has the id of its child
children-step : (oid i level : ℕ) (pair : Pair) (rest : List NodeAt) (ids : List ℕ) → map (λ (at : NodeAt). at.oid) rest ≡ ids → map (λ (at : NodeAt). at.oid) (places_under level pair ++ rest) ≡ cons_option (child_id (item_at oid i level pair)) ids
children-step oid i zero pair rest ids e = e
children-step oid i (suc level) pair rest ids e =
    let upper : (suc level == 0) ≡ false = grind (arith, nat_tests) in
    ap (λ (xs : List ℕ). child_in pair ∷ xs) e ∙ ap (λ (b : Bool). cons_option (if b then None else Some (child_in pair)) ids) (sym upper)

children-places : (items : List Item) → map (λ (at : NodeAt). at.oid) (places_in items) ≡ children_of items
children-places [] = refl
children-places (item ∷ items) = children-step item.node item.at item.level item.pair (places_in items) (children_of items) (children-places items)

-- the nodes of a walkable tree are its root and those to which its Line leads
pub ids-walkable : {K : Type 0} (tree : Tree K) (root : ℕ) → is_walkable tree root ≡ true → node_ids tree root ≡ root ∷ children_of (line_of tree root)
ids-walkable tree root all =
    ap (map (λ (at : NodeAt). at.oid)) (filter-all (has_node tree) (places_of tree root) all)
    ∙ ap (λ (ids : List ℕ). root ∷ ids) (children-places (line_of tree root))
