-- The flat list is what the leaves have of the Line.
use Rattle.std.proofs.Common.{◌≡◌, ℕ, zero, suc, Bool, true, false, cond, List, [], ◌∷◌, ◌++◌, map, Option, None, Some, Result, Ok, Err, refl, ap, sym, ◌∙◌, arith, append-nil}
use Rattle.std.specs.List.{flat_map, filter, range_with_len}
use Rattle.std.proofs.lemmas.Grind.{flat_map-append}
use Rattle.apfs_model.specs.Lists.{through, value_of}
use Rattle.obj_base.specs.declared.stop.Stop.{Stop}
use Rattle.bt_node.specs.Node.{level_of, count_of}
use Rattle.bt_node.specs.Entries.{Pair, pair_of, pairs_of}
use Rattle.bt_node.specs.declared.node.NodeAt.{NodeAt}
use Rattle.bt_cursor.specs.Tree.{Tree, root_place, child_in, child_place, node_at}
use Rattle.bt_cursor.specs.Flat.{flat_part, flat_of}
use Rattle.bt_cursor.specs.Line.{Item, item_at, entry_of, entries_of, is_leaf_item, line_part, line_of}
use Rattle.bt_cursor.specs.WholeTree.{leaf_pairs}
use Rattle.bt_cursor.specs.Gaps.{Gapped, or_gap, gapped_part, gapped_of, met_in, all_met, all_flat}
use Rattle.bt_cursor.specs.declared.fault.WalkFault.{WalkFault}
use Rattle.bt_cursor.specs.Ahead.{line_from, rest}
use Rattle.bt_cursor.specs.declared.way.Step.{Step}
use Rattle.bt_cursor.proofs.Lines.{leaf_pairs-append, leaf_pairs-inner}

pairs-flat_map : (f : ℕ × Pair → List Item) (g : Pair → List Pair) → ((e : ℕ × Pair) → leaf_pairs (f e) ≡ g e.1) → (at : ℕ → Pair) (is : List ℕ) → leaf_pairs (flat_map f (map (λ i. (i, at i)) is)) ≡ flat_map g (map at is)
pairs-flat_map f g each at [] = refl
pairs-flat_map f g each at (i ∷ is) =
    leaf_pairs-append (f (i, at i)) (flat_map f (map (λ i. (i, at i)) is)) ∙ (ap (λ xs. xs ++ leaf_pairs (flat_map f (map (λ i. (i, at i)) is))) (each (i, at i)) ∙ ap (λ xs. g (at i) ++ xs) (pairs-flat_map f g each at is))

pairs-through : (o : Option (List ℕ)) (f : List ℕ → List Item) (g : List ℕ → List Pair) → ((node : List ℕ) → leaf_pairs (f node) ≡ g node) → leaf_pairs (through o f) ≡ through o g
pairs-through None f g each = refl
pairs-through (Some node) f g each = each node

pub part-pairs : {K : Type 0} (tree : Tree K) (level oid : ℕ) (entry : ℕ × Pair) → leaf_pairs (line_part tree level oid entry) ≡ flat_part tree level entry.1
part-pairs tree zero oid entry = refl
part-pairs tree (suc level) oid entry =
    let f : List ℕ → List Item = λ node. flat_map (line_part tree level (child_in entry.1)) (entries_of tree.shape node) in
    let g : List ℕ → List Pair = λ node. flat_map (flat_part tree level) (pairs_of tree.shape node) in
    leaf_pairs-inner oid entry.0 (suc level) entry.1 (through (node_at tree (child_place level entry.1)) f) (omega arith)
    ∙ pairs-through (node_at tree (child_place level entry.1)) f g (λ node. pairs-flat_map (line_part tree level (child_in entry.1)) (flat_part tree level) (part-pairs tree level (child_in entry.1)) (pair_of tree.shape node) (range_with_len 0 (count_of node)))

pub line-pairs : {K : Type 0} (tree : Tree K) (root : ℕ) → leaf_pairs (line_of tree root) ≡ flat_of tree root
line-pairs tree root = pairs-through (node_at tree (root_place root)) (λ node. flat_map (line_part tree (level_of node) root) (entries_of tree.shape node)) (λ node. flat_map (flat_part tree (level_of node)) (pairs_of tree.shape node))
    (λ node. pairs-flat_map (line_part tree (level_of node) root) (flat_part tree (level_of node)) (part-pairs tree (level_of node) root) (pair_of tree.shape node) (range_with_len 0 (count_of node)))

-- all of the Line is left of a root alone
pub line-start : {K : Type 0} (tree : Tree K) (root : ℕ) (above : List Step) (last : Step) → above ≡ [] → last.next ≡ 0 → last.at ≡ root_place root → tree.look (root_place root) ≡ Ok last.block.items → line_from tree last.at.oid last.block.items last.next ++ rest tree above ≡ line_of tree root
line-start tree root above last none first at node =
    ap (λ ss. line_from tree last.at.oid last.block.items last.next ++ rest tree ss) none
    ∙ (append-nil (line_from tree last.at.oid last.block.items last.next)
    ∙ (ap (line_from tree last.at.oid last.block.items) first
    ∙ (ap (λ (a : NodeAt). line_from tree a.oid last.block.items 0) at
    ∙ sym (ap (λ o. through (value_of o) (λ node. flat_map (line_part tree (level_of node) root) (entries_of tree.shape node))) node))))

met-flat_map : (f : ℕ × Pair → List (Gapped Item)) (g : ℕ × Pair → List Item) → ((p : ℕ × Pair) → all_met (f p) ≡ g p) → (ps : List (ℕ × Pair)) → all_met (flat_map f ps) ≡ flat_map g ps
met-flat_map f g each [] = refl
met-flat_map f g each (p ∷ ps) = flat_map-append met_in (f p) (flat_map f ps) ∙ (ap (λ xs. xs ++ all_met (flat_map f ps)) (each p) ∙ ap (λ xs. g p ++ xs) (met-flat_map f g each ps))

met-through : (o : Result (List ℕ) (Stop WalkFault)) (f : List ℕ → List (Gapped Item)) (g : List ℕ → List Item) → ((node : List ℕ) → all_met (f node) ≡ g node) → all_met (or_gap o f) ≡ through (value_of o) g
met-through (Ok node) f g each = each node
met-through (Err why) f g each = refl

met-part : {K : Type 0} (tree : Tree K) (level oid : ℕ) (entry : ℕ × Pair) → all_met (gapped_part tree level oid entry) ≡ line_part tree level oid entry
met-part tree zero oid entry = refl
met-part tree (suc level) oid entry =
    let oid_below = child_in entry.1 in
    ap (λ xs. item_at oid entry.0 (suc level) entry.1 ∷ xs)
    (met-through (tree.look (child_place level entry.1)) (λ node. flat_map (gapped_part tree level oid_below) (entries_of tree.shape node)) (λ node. flat_map (line_part tree level oid_below) (entries_of tree.shape node))
    (λ node. met-flat_map (gapped_part tree level oid_below) (line_part tree level oid_below) (met-part tree level oid_below) (entries_of tree.shape node)))

-- the items of the Line with its gaps are the Line
pub gapped-line : {K : Type 0} (tree : Tree K) (root : ℕ) → all_met (gapped_of tree root) ≡ line_of tree root
gapped-line tree root = met-through (tree.look (root_place root)) (λ node. flat_map (gapped_part tree (level_of node) root) (entries_of tree.shape node)) (λ node. flat_map (line_part tree (level_of node) root) (entries_of tree.shape node))
    (λ node. met-flat_map (gapped_part tree (level_of node) root) (line_part tree (level_of node) root) (met-part tree (level_of node) root) (entries_of tree.shape node))

leaf-if : (b : Bool) (pair : Pair) (gapped : List (Gapped Pair)) (item : Item) (items : List Item) → item.pair ≡ pair → all_met gapped ≡ map (λ (i : Item). i.pair) items → all_met (cond b (Ok pair ∷ []) [] ++ gapped) ≡ map (λ (i : Item). i.pair) (cond b (item ∷ items) items)
leaf-if true pair gapped item items same e = ap (λ xs. pair ∷ xs) e ∙ ap (λ p. p ∷ map (λ (i : Item). i.pair) items) (sym same)
leaf-if false pair gapped item items same e = e

-- of the flat list with gaps the entries are those of the leaves
pub flat-met : (gapped : List (Gapped Item)) → all_met (all_flat gapped) ≡ leaf_pairs (all_met gapped)
flat-met [] = refl
flat-met (Ok item ∷ gapped) = leaf-if (is_leaf_item item) item.pair (all_flat gapped) item (filter is_leaf_item (all_met gapped)) refl (flat-met gapped)
flat-met (Err why ∷ gapped) = flat-met gapped

-- the flat list is the entries of the flat list with its gaps
pub flat-gapped : {K : Type 0} (tree : Tree K) (root : ℕ) → all_met (all_flat (gapped_of tree root)) ≡ flat_of tree root
flat-gapped tree root = flat-met (gapped_of tree root) ∙ (ap leaf_pairs (gapped-line tree root) ∙ line-pairs tree root)
