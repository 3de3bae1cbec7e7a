-- What is left of a way, a step at a time.
use Rattle.std.proofs.Common.{◌≡◌, ℕ, suc, ◌+◌, ◌<◌, ◌≤◌, Bool, false, cond, List, [], ◌∷◌, ◌++◌, map, Ok, ap, sym, ◌∙◌, append_assoc, append-nil, arith}
use Rattle.std.specs.List.{flat_map, filter}
use Rattle.std.proofs.lemmas.Bool.Decides.{nat_tests}
use Rattle.std.proofs.lemmas.List.{map-append}
use Rattle.std.proofs.lemmas.List.Elements.{filter-append}
use Rattle.apfs_model.specs.Lists.{through, value_of}
use Rattle.bt_node.specs.Node.{level_of, count_of}
use Rattle.bt_node.specs.Entries.{Pair, pair_of}
use Rattle.bt_cursor.specs.Tree.{Tree, child_in, child_place}
use Rattle.bt_cursor.specs.Line.{Item, item_at, entry_of, entries_of, line_part, is_leaf_item}
use Rattle.bt_cursor.specs.WholeTree.{leaf_pairs}
use Rattle.bt_cursor.specs.Ahead.{line_from, line_under, rest}
use Rattle.bt_cursor.specs.declared.way.Step.{Step}
use Rattle.bt_cursor.proofs.Pairs.{entries_cons, entries_end}

-- one more step below: what is left of it comes first
pub rest_push : {K : Type 0} (tree : Tree K) (steps : List Step) (step : Step) → rest tree (steps ++ step ∷ []) ≡ line_from tree step.at.oid step.block.items step.next ++ rest tree steps
rest_push tree [] step = sym (append-nil (line_from tree step.at.oid step.block.items step.next))
rest_push tree (s ∷ steps) step = ap (λ xs. xs ++ line_from tree s.at.oid s.block.items s.next) (rest_push tree steps step) ∙ append_assoc (line_from tree step.at.oid step.block.items step.next) (rest tree steps) (line_from tree s.at.oid s.block.items s.next)

-- nothing is left from the end on
pub line_from_end : {K : Type 0} (tree : Tree K) (oid : ℕ) (node : List ℕ) (i : ℕ) → count_of node ≤ i → line_from tree oid node i ≡ []
line_from_end tree oid node i past = ap (flat_map (line_part tree (level_of node) oid)) (entries_end tree.shape node i past)

-- the first of some entries apart
pub line_from-cons : {K : Type 0} (tree : Tree K) (oid : ℕ) (node : List ℕ) (i : ℕ) → i < count_of node → line_from tree oid node i ≡ line_part tree (level_of node) oid (entry_of tree.shape node i) ++ line_from tree oid node (i + 1)
line_from-cons tree oid node i low = ap (flat_map (line_part tree (level_of node) oid)) (entries_cons tree.shape node i low)

-- one level up, where nothing is left
pub line-up : {K : Type 0} (tree : Tree K) (above lower_above : List Step) (last lower : Step) → lower_above ≡ above ++ last ∷ [] → count_of lower.block.items ≤ lower.next →
    line_from tree last.at.oid last.block.items last.next ++ rest tree above ≡ line_from tree lower.at.oid lower.block.items lower.next ++ rest tree lower_above
line-up tree above lower_above last lower taken past =
    sym (ap (λ xs. xs ++ rest tree lower_above) (line_from_end tree lower.at.oid lower.block.items lower.next past) ∙ (ap (rest tree) taken ∙ rest_push tree above last))

-- the next item apart, at level 0
pub line_from-leaf : {K : Type 0} (tree : Tree K) (oid : ℕ) (node : List ℕ) (i : ℕ) → i < count_of node → level_of node ≡ 0 → line_from tree oid node i ≡ item_at oid i (level_of node) (pair_of tree.shape node i) ∷ line_from tree oid node (i + 1)
line_from-leaf tree oid node i low leaf =
    line_from-cons tree oid node i low
    ∙ (ap (λ l. line_part tree l oid (entry_of tree.shape node i) ++ line_from tree oid node (i + 1)) leaf
    ∙ ap (λ l. item_at oid i l (pair_of tree.shape node i) ∷ line_from tree oid node (i + 1)) (sym leaf))

-- the next item apart, above level 0
pub line_from-inner : {K : Type 0} (tree : Tree K) (oid : ℕ) (node : List ℕ) (i level : ℕ) → i < count_of node → level_of node ≡ suc level →
    line_from tree oid node i ≡ item_at oid i (level_of node) (pair_of tree.shape node i) ∷ (line_under tree level (pair_of tree.shape node i) ++ line_from tree oid node (i + 1))
line_from-inner tree oid node i level low high =
    line_from-cons tree oid node i low
    ∙ (ap (λ l. line_part tree l oid (entry_of tree.shape node i) ++ line_from tree oid node (i + 1)) high
    ∙ ap (λ l. item_at oid i l (pair_of tree.shape node i) ∷ (line_under tree level (pair_of tree.shape node i) ++ line_from tree oid node (i + 1))) (sym high))

-- the items of a child are those of its node
pub line_under-node : {K : Type 0} (tree : Tree K) (pair : Pair) (below : List ℕ) (level : ℕ) → tree.look (child_place level pair) ≡ Ok below → level_of below ≡ level → line_under tree level pair ≡ line_from tree (child_in pair) below 0
line_under-node tree pair below level named same =
    ap (λ o. through (value_of o) (λ node. flat_map (line_part tree level (child_in pair)) (entries_of tree.shape node))) named
    ∙ ap (λ l. flat_map (line_part tree l (child_in pair)) (entries_of tree.shape below)) (sym same)

-- the child's items come first in what is left
pub line-down : {K : Type 0} (tree : Tree K) (above : List Step) (last lower : Step) (pair : Pair) (level : ℕ) →
    tree.look (child_place level pair) ≡ Ok lower.block.items → level_of lower.block.items ≡ level → lower.at.oid ≡ child_in pair → lower.next ≡ 0 →
    line_from tree lower.at.oid lower.block.items lower.next ++ rest tree (above ++ last ∷ []) ≡ line_under tree level pair ++ (line_from tree last.at.oid last.block.items last.next ++ rest tree above)
line-down tree above last lower pair level named same at first =
    ap (λ j. line_from tree lower.at.oid lower.block.items j ++ rest tree (above ++ last ∷ [])) first
    ∙ (ap (λ xs. line_from tree lower.at.oid lower.block.items 0 ++ xs) (rest_push tree above last)
    ∙ (ap (λ o. line_from tree o lower.block.items 0 ++ (line_from tree last.at.oid last.block.items last.next ++ rest tree above)) at
    ∙ ap (λ xs. xs ++ (line_from tree last.at.oid last.block.items last.next ++ rest tree above)) (sym (line_under-node tree pair lower.block.items level named same))))

pub leaf_pairs-append : (xs ys : List Item) → leaf_pairs (xs ++ ys) ≡ leaf_pairs xs ++ leaf_pairs ys
leaf_pairs-append xs ys = ap (map (λ (item : Item). item.pair)) (filter-append is_leaf_item xs ys) ∙ map-append (λ (item : Item). item.pair) (filter is_leaf_item xs) (filter is_leaf_item ys)

-- an item above level 0 is no entry of a leaf
pub leaf_pairs-inner : (oid i level : ℕ) (pair : Pair) (items : List Item) → 0 < level → leaf_pairs (item_at oid i level pair ∷ items) ≡ leaf_pairs items
leaf_pairs-inner oid i level pair items upper =
    let inner : is_leaf_item (item_at oid i level pair) ≡ false = grind (arith, nat_tests) in
    ap (λ (b : Bool). map (λ (item : Item). item.pair) (cond b (item_at oid i level pair ∷ filter is_leaf_item items) (filter is_leaf_item items))) inner
