-- The outline of a tree, level by level.
use Rattle.std.proofs.Common.{◌≡◌, ℕ, suc, ◌+◌, ◌≤◌, Bool, true, false, ◌&&◌, ◌==◌, cond, List, [], ◌∷◌, ◌++◌, map, length, Option, None, Some, refl, ap, sym, ◌∙◌, subst, arith, append-nil, append_assoc, length-append, ◌<◌, take, get_or, Result, Ok, Err}
use Rattle.std.specs.Prelude.{nat_lt, is_some, IfOk, IsTrue}
use Rattle.std.specs.List.{flat_map, list_all, range_with_len}
use Rattle.std.proofs.lemmas.Bool.{false≢true}
use Rattle.std.proofs.lemmas.Bool.Decides.{nat_tests}
use Rattle.std.proofs.lemmas.Grind.{flat_map-append}
use Rattle.std.proofs.lemmas.List.{take_more}
use Rattle.std.proofs.lemmas.List.FromFn.{get_or-map-range_with_len, length-map-range_with_len}
use Rattle.std.proofs.lemmas.List.Folds.{list_all-append}
use Rattle.apfs_model.specs.Blocks.{block_of}
use Rattle.apfs_model.specs.Lists.{passes, through, value_of}
use Rattle.obj_base.specs.declared.site.Site.{Site}
use Rattle.obj_base.specs.Sound.{agrees}
use Rattle.bt_node.specs.Shape.{Shape}
use Rattle.bt_node.specs.Node.{level_of, count_of, is_root, node_size_of, key_count_of, node_count_of}
use Rattle.bt_node.specs.Entries.{pair_of, child_of}
use Rattle.bt_node.specs.Soundness.{node_of, has_level}
use Rattle.bt_node.specs.SoundNode.{IsNode, info_of}
use Rattle.bt_node.specs.declared.key.Rank.{Rank}
use Rattle.bt_node.specs.declared.node.RootInfo.{RootInfo}
use Rattle.bt_node.specs.declared.node.NodeAt.{NodeAt}
use Rattle.bt_node.proofs.Laws.{node_means}
use Rattle.bt_cursor.specs.Tree.{Tree, tree_in, root_place, child_in, node_at, node_named, judged, block_named}
use Rattle.bt_cursor.specs.Line.{Item, item_at, entry_of, entries_of, line_part, line_of}
use Rattle.bt_cursor.specs.Met.{places_under, places_in, places_of, has_node}
use Rattle.bt_cursor.specs.Order.{rank_or_least}
use Rattle.bt_cursor.specs.Seen.{reads_for}
use Rattle.view_change.specs.declared.outline.Outline.{Outline}
use Rattle.view_change.specs.declared.outline.Separator.{Separator}
use Rattle.view_change.specs.Outline.{node_place, separator_of, separators_of, opened, separators_in, below_of, is_child_there, reads_in, items_in, LeadsTo, IsSeparator, AreSeparators, IsOutlined}

and-first : (a b : Bool) → (a && b) ≡ true → a ≡ true
and-first true b e = refl
and-first false b e = absurd (false≢true e)

and-second : (a b : Bool) → (a && b) ≡ true → b ≡ true
and-second true b e = e
and-second false b e = absurd (false≢true e)

pub and-both : (a b : Bool) → a ≡ true → b ≡ true → (a && b) ≡ true
and-both a b e f = ap (λ (c : Bool). c && b) e ∙ f

-- joined separators are those of the joined items
are-append : {K : Type 0} (tree : Tree K) (level : ℕ) (xs ys : List Separator) (items others : List Item) → AreSeparators tree level xs items → AreSeparators tree level ys others → AreSeparators tree level (xs ++ ys) (items ++ others)
are-append tree level [] ys items others none those = subst (AreSeparators tree level ys) (sym (ap (λ is. is ++ others) none)) those
are-append tree level (x ∷ xs) ys items others these those =
    let rest = these.1.0 in
    let is = these.1.1 in
    (these.0, (rest ++ others, (is.0, ap (λ js. js ++ others) is.1 ∙ ap (λ js. these.0 ∷ js) (append_assoc (items_in tree level x.child) rest others), are-append tree level xs ys rest others is.2 those)))

above : (level : ℕ) → (suc level == 0) ≡ false
above level = grind (arith, nat_tests)

-- the separators of some entries of a node are those of their items
are-entries : {K : Type 0} (tree : Tree K) (level oid : ℕ) (node is : List ℕ) → AreSeparators tree level (map (separator_of tree.shape node) is) (flat_map (line_part tree (suc level) oid) (map (entry_of tree.shape node) is))
are-entries tree level oid node [] = refl
are-entries tree level oid node (i ∷ is) =
    let pair = pair_of tree.shape node i in
    let one : IsSeparator tree level (separator_of tree.shape node i) (item_at oid i (suc level) pair) = record { separates = record { same = refl; at = node_place level (child_in pair); upper = refl; inner = above level }; leads = refl } in
    (item_at oid i (suc level) pair, (flat_map (line_part tree (suc level) oid) (map (entry_of tree.shape node) is), (one, refl, are-entries tree level oid node is)))

are-found : {K : Type 0} (tree : Tree K) (level oid : ℕ) (found : Option (List ℕ)) → AreSeparators tree level (through found (separators_of tree.shape)) (through found (λ node. flat_map (line_part tree (suc level) oid) (entries_of tree.shape node)))
are-found tree level oid None = refl
are-found tree level oid (Some node) = are-entries tree level oid node (range_with_len 0 (count_of node))

are-child : {K : Type 0} (tree : Tree K) (level : ℕ) (child : Option ℕ) → AreSeparators tree level (separators_in tree (suc level) child) (items_in tree (suc level) child)
are-child tree level None = refl
are-child tree level (Some oid) = are-found tree level oid (node_at tree (node_place (suc level) oid))

leads-there : {K : Type 0} (tree : Tree K) (level : ℕ) (child : Option ℕ) (at : NodeAt) → LeadsTo tree level child at → is_child_there tree level child ≡ true → has_node tree at ≡ true
leads-there tree level None at leads there = leads.0
leads-there tree level (Some oid) at leads there = ap (has_node tree) leads ∙ there

above-next : (level : ℕ) (o : Option ℕ) → passes o (nat_lt (suc level)) ≡ true → passes o (nat_lt level) ≡ true
above-next level None e = absurd (false≢true e)
above-next level (Some l) e = grind (arith, nat_tests)

above-self : (level : ℕ) → nat_lt level (suc level) ≡ true
above-self level = grind (arith, nat_tests)

-- a place to which a separator leads stands above the level below
leads-above : {K : Type 0} (tree : Tree K) (level : ℕ) (child : Option ℕ) (at : NodeAt) → LeadsTo tree (suc level) child at → passes at.level (nat_lt level) ≡ true
leads-above tree level None at leads = above-next level at.level leads.1
leads-above tree level (Some oid) at leads = ap (λ (a : NodeAt). passes a.level (nat_lt level)) leads ∙ above-self level

-- one level down
are-down : {K : Type 0} (tree : Tree K) (level : ℕ) (xs : List Separator) (items : List Item) → AreSeparators tree (suc level) xs items → list_all (λ (x : Separator). is_child_there tree (suc level) x.child) xs ≡ true → AreSeparators tree level (flat_map (below_of tree (suc level)) xs) items
are-down tree level [] items none there = none
are-down tree level (x ∷ xs) items these there =
    let here = is_child_there tree (suc level) x.child in
    let others = list_all (λ (y : Separator). is_child_there tree (suc level) y.child) xs in
    let own = items_in tree (suc level) x.child in
    let rest = these.1.0 in
    let is = these.1.1 in
    let one : IsSeparator tree level (opened x) these.0 = record { separates = is.0.separates; leads = (leads-there tree (suc level) x.child is.0.separates.at is.0.leads (and-first here others there), leads-above tree level x.child is.0.separates.at is.0.leads) } in
    let left = are-append tree level (separators_in tree (suc level) x.child) (flat_map (below_of tree (suc level)) xs) own rest (are-child tree level x.child) (are-down tree level xs rest is.2 (and-second here others there)) in
    (these.0, (own ++ rest, (one, is.1, left)))

reads-append : (xs ys : List Separator) → reads_in (xs ++ ys) ≡ reads_in xs + reads_in ys
reads-append [] ys = omega arith
reads-append (x ∷ xs) ys = omega (arith, reads-append xs ys)

one-at-most : (b : Bool) → reads_for b ≤ 1
one-at-most true = omega arith
one-at-most false = omega arith

reads-short : (xs : List Separator) → reads_in xs ≤ length xs
reads-short [] = omega arith
reads-short (x ∷ xs) = omega (arith, one-at-most (is_some x.child), reads-short xs)

-- each separator of a node leads to a child that is still to be read
entries-left : {K : Type 0} (tree : Tree K) (node is : List ℕ) → reads_in (map (separator_of tree.shape node) is) ≡ length (map (separator_of tree.shape node) is)
entries-left tree node [] = refl
entries-left tree node (i ∷ is) = omega (arith, entries-left tree node is)

found-left : {K : Type 0} (tree : Tree K) (found : Option (List ℕ)) → reads_in (through found (separators_of tree.shape)) ≡ length (through found (separators_of tree.shape))
found-left tree None = refl
found-left tree (Some node) = entries-left tree node (range_with_len 0 (count_of node))

child-left : {K : Type 0} (tree : Tree K) (level : ℕ) (child : Option ℕ) → reads_in (separators_in tree level child) ≡ length (separators_in tree level child)
child-left tree level None = refl
child-left tree level (Some oid) = found-left tree (node_at tree (node_place level oid))

-- one level down there are as many more as are still to be read
down-left : {K : Type 0} (tree : Tree K) (level : ℕ) (xs : List Separator) → length (flat_map (below_of tree level) xs) ≡ length xs + reads_in (flat_map (below_of tree level) xs)
down-left tree level [] = refl
down-left tree level (x ∷ xs) =
    let own = separators_in tree level x.child in
    let others = flat_map (below_of tree level) xs in
    omega (arith, length-append own others, reads-append own others, child-left tree level x.child, down-left tree level xs)

-- what a root tells
told-if : (b : Bool) (own info : RootInfo) → cond b (Some own) None ≡ Some info → info ≡ own
told-if true own info e = cc
told-if false own info e = absurd (cc)

info-told : (node : List ℕ) (info : RootInfo) → info_of node ≡ Some info → (info.key_count ≡ key_count_of node) × (info.node_count ≡ node_count_of node)
info-told node info e =
    let own : RootInfo = record { node_size = node_size_of node; key_count = key_count_of node; node_count = node_count_of node } in
    let same = told-if (is_root node) own info e in
    (ap (λ (i : RootInfo). i.key_count) same, ap (λ (i : RootInfo). i.node_count) same)

-- the outline by the root alone
pub outline-top : {K : Type 0} (tree : Tree K) (root start reads : ℕ) (node : List ℕ) (outline : Outline) → node_at tree (root_place root) ≡ Some node → level_of node ≡ suc outline.level → info_of node ≡ Some outline.info → outline.separators.items ≡ separators_of tree.shape node → reads ≤ start + 1
    → IsOutlined tree root start reads outline
outline-top tree root start reads node outline there high info all few =
    let told = info-told node outline.info info in
    let line : line_of tree root ≡ flat_map (line_part tree (suc outline.level) root) (entries_of tree.shape node) =
    ap (λ found. through found (λ n. flat_map (line_part tree (level_of n) root) (entries_of tree.shape n))) there ∙ ap (λ l. flat_map (line_part tree l root) (entries_of tree.shape node)) high in
    record {
      node = node;
      there = there;
      keys = told.0;
      nodes = told.1;
      line = subst (λ xs. AreSeparators tree outline.level xs (line_of tree root)) (sym all) (subst (AreSeparators tree outline.level (separators_of tree.shape node)) (sym line) (are-entries tree outline.level root node (range_with_len 0 (count_of node))));
      few = omega (arith, few, reads-short outline.separators.items);
    }

-- so many more are still to be read by the first separators as by all at most
reads-taken : (n : ℕ) (xs : List Separator) → reads_in (take n xs) ≤ reads_in xs
reads-taken (suc n) (x ∷ xs) = omega (arith, reads-taken n xs)
reads-taken n xs = omega arith

-- each separator leads to a place
separators-few : {K : Type 0} (tree : Tree K) (level : ℕ) (xs : List Separator) (items : List Item) → AreSeparators tree level xs items → length xs ≤ length (places_in items)
separators-few tree level [] items none = omega arith
separators-few tree level (x ∷ xs) items these =
    let g : Item → List NodeAt = λ (other : Item). places_under other.level other.pair in
    let item = these.0 in
    let own = items_in tree level x.child in
    let rest = these.1.0 in
    let is = these.1.1 in
    omega (
      arith,
      separators-few tree level xs rest is.2,
      ap (λ ys. length (places_in ys)) is.1,
      length-append (places_under item.level item.pair) (places_in (own ++ rest)),
      ap length is.0.separates.upper,
      ap length (flat_map-append g own rest),
      length-append (places_in own) (places_in rest),
    )

-- with all that is still to be read there are no more reads than places
pub outline-few : {K : Type 0} (tree : Tree K) (root start reads : ℕ) (outline : Outline) → IsOutlined tree root start reads outline → reads + reads_in outline.separators.items ≤ start + length (places_of tree root)
outline-few tree root start reads outline is = omega (arith, is.few, separators-few tree outline.level outline.separators.items (line_of tree root) is.line)

-- some separators are opened one level down
pub record AreOpened {K : Type 0} (tree : Tree K) (level : ℕ) (xs lower : List Separator) : Type 0 where
  pub below : lower ≡ flat_map (below_of tree level) xs
  pub there : list_all (λ (x : Separator). is_child_there tree level x.child) xs ≡ true

pub opened-none : {K : Type 0} (tree : Tree K) (level : ℕ) (lower : List Separator) → lower ≡ [] → AreOpened tree level [] lower
opened-none tree level lower e = record { below = e; there = refl }

-- and the next one
pub opened-next : {K : Type 0} (tree : Tree K) (level : ℕ) (all : List Separator) (i : ℕ) (d : Separator) (lower new : List Separator) → i < length all → AreOpened tree level (take i all) lower → new ≡ lower ++ below_of tree level (get_or all i d)
    → is_child_there tree level (get_or all i d).child ≡ true → AreOpened tree level (take (i + 1) all) new
opened-next tree level all i d lower new low old below there =
    let next = get_or all i d in
    let xs = take i all in
    let one = take_more all i d low in
    let test : Separator → Bool = λ (x : Separator). is_child_there tree level x.child in
    record {
      below = below
          ∙ (ap (λ ys. ys ++ below_of tree level next) old.below
          ∙ sym (ap (flat_map (below_of tree level)) one ∙ (flat_map-append (below_of tree level) xs (next ∷ []) ∙ ap (λ ys. flat_map (below_of tree level) xs ++ ys) (append-nil (below_of tree level next)))));
      there = ap (list_all test) one ∙ (list_all-append test xs (next ∷ []) ∙ and-both (list_all test xs) (list_all test (next ∷ [])) old.there (and-both (test next) true there refl));
    }

pub left-next : (all : List Separator) (i : ℕ) (d : Separator) (start reads now : ℕ) → i < length all → reads ≤ start + reads_in (take i all) → now ≤ reads + reads_in (get_or all i d ∷ []) → now ≤ start + reads_in (take (i + 1) all)
left-next all i d start reads now low few last = omega (arith, few, last, ap reads_in (take_more all i d low), reads-append (take i all) (get_or all i d ∷ []))

-- no more than all that was to be read
pub part-left : (all items : List Separator) (i : ℕ) (d : Separator) (start reads now : ℕ) → all ≡ items → i < length all → reads ≤ start + reads_in (take i all) → now ≤ reads + reads_in (get_or all i d ∷ []) → now ≤ start + reads_in items
part-left all items i d start reads now same low few last = omega (arith, left-next all i d start reads now low few last, reads-taken (i + 1) all, ap reads_in same)

-- one level down
pub outline-down : {K : Type 0} (tree : Tree K) (root start reads more : ℕ) (outline lower : Outline) → IsOutlined tree root start reads outline → outline.level ≡ suc lower.level → lower.info ≡ outline.info
    → AreOpened tree outline.level outline.separators.items lower.separators.items → more ≤ reads + reads_in outline.separators.items → IsOutlined tree root start more lower
outline-down tree root start reads more outline lower old down info opens few =
    let all = outline.separators.items in
    let same : lower.separators.items ≡ flat_map (below_of tree (suc lower.level)) all = opens.below ∙ ap (λ l. flat_map (below_of tree l) all) down in
    record {
      node = old.node;
      there = old.there;
      keys = ap (λ (i : RootInfo). i.key_count) info ∙ old.keys;
      nodes = ap (λ (i : RootInfo). i.node_count) info ∙ old.nodes;
      line = subst (λ xs. AreSeparators tree lower.level xs (line_of tree root)) (sym same)
          (are-down tree lower.level all (line_of tree root) (subst (λ l. AreSeparators tree l all (line_of tree root)) down old.line) (ap (λ l. list_all (λ (x : Separator). is_child_there tree l x.child) all) (sym down) ∙ opens.there));
      few = omega (arith, few, old.few, down-left tree (suc lower.level) all, ap length same, ap reads_in same);
    }

-- a separator and those of its child
pub below-some : {K : Type 0} (tree : Tree K) (level : ℕ) (next : Separator) (oid : ℕ) (old mid new : List Separator) → next.child ≡ Some oid → mid ≡ old ++ opened next ∷ [] → new ≡ mid ++ separators_in tree level (Some oid) → new ≡ old ++ below_of tree level next
below-some tree level next oid old mid new some first others =
    others
    ∙ (ap (λ xs. xs ++ separators_in tree level (Some oid)) first
    ∙ (append_assoc old (opened next ∷ []) (separators_in tree level (Some oid)) ∙ ap (λ child. old ++ opened next ∷ separators_in tree level child) (sym some)))

-- what follows from an answer that is true
pub if-true : {E : Type 0} (P Q : Type 0) (r : Result Bool E) → (P → Q) → IfOk r (λ answer. IsTrue answer → P) → IfOk r (λ answer. IsTrue answer → Q)
if-true P Q (Ok answer) f h = λ on. f (h on)
if-true P Q (Err e) f h = tt

-- the node at a place, in the block that its id names
node-loaded : {K : Type 0} (shape : Shape K) (site : Site) (named : ℕ → Option ℕ) (image : List ℕ) (at : NodeAt) (block : ℕ) (node : List ℕ) → block_named site named at.oid ≡ Some block → node ≡ block_of site.block_size image block → IsNode shape at site node
    → node_at (tree_in shape site named image) at ≡ Some node
node-loaded shape site named image at block node there same sound =
    ap (λ o. value_of (node_named shape site image at o)) there ∙ ap (λ r. value_of (judged block r)) (ap (node_of shape at site) (sym same) ∙ sound)

-- a node of a level above 0 stands there
level-at : (level n : ℕ) → agrees (Some level) n ≡ true → n ≡ level
level-at level n e = grind (arith, nat_tests)

pub node-level : {K : Type 0} (shape : Shape K) (site : Site) (at : NodeAt) (node : List ℕ) (level oid : ℕ) → IsNode shape at site node → at ≡ node_place level oid → level_of node ≡ level
node-level shape site at node level oid sound place =
    level-at level (level_of node) (sym (ap (λ (a : NodeAt). has_level a.level node) place) ∙ (node_means shape at site node sound).level_right)

pub loaded-if : {K E : Type 0} (shape : Shape K) (site : Site) (named : ℕ → Option ℕ) (image : List ℕ) (at : NodeAt) (block : ℕ) (node : List ℕ) (r : Result Bool E) → block_named site named at.oid ≡ Some block
    → IfOk r (λ read. IsTrue read → node ≡ block_of site.block_size image block) → IfOk r (λ read. IsTrue read → IsNode shape at site node) → IfOk r (λ read. IsTrue read → node_at (tree_in shape site named image) at ≡ Some node)
loaded-if shape site named image at block node (Ok read) there same sound = λ on. node-loaded shape site named image at block node there (same on) (sound on)
loaded-if shape site named image at block node (Err e) there same sound = tt

-- one separator more of a node
pub entry-taken : {K : Type 0} (shape : Shape K) (node : List ℕ) (i : ℕ) (key : K) (first : Rank) (oid : ℕ) → i < count_of node → shape.read (pair_of shape node i).key ≡ Some key → first ≡ shape.rank key → oid ≡ child_of shape node i
    → take (i + 1) (separators_of shape node) ≡ take i (separators_of shape node) ++ record { rank = first; child = Some oid } ∷ []
entry-taken shape node i key first oid low read rank child =
    let all = separators_of shape node in
    let own : Rank → Option ℕ → Separator = λ r c. record { rank = r; child = c } in
    let long : i < length all = omega (arith, low, length-map-range_with_len (separator_of shape node) 0 (count_of node)) in
    let here : get_or all i (separator_of shape node i) ≡ separator_of shape node i = get_or-map-range_with_len (separator_of shape node) 0 (count_of node) i i (separator_of shape node i) low (omega arith) in
    let same : separator_of shape node i ≡ own first (Some oid) = ap (λ r. own r (Some (child_of shape node i))) (ap (rank_or_least shape) read ∙ sym rank) ∙ ap (λ o. own first (Some o)) (sym child) in
    take_more all i (separator_of shape node i) long ∙ ap (λ x. take i all ++ x ∷ []) (here ∙ same)
