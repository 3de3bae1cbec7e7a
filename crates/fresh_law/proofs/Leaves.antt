-- A tree whose root is a leaf.
use Rattle.std.proofs.Common.{arith, ◌≡◌, ℕ, zero, suc, ◌+◌, true, ◌&&◌, ◌==◌, List, [], ◌∷◌, length, map, Some, Ok, is_ok, refl, ap, ◌∙◌}
use Rattle.std.proofs.lemmas.Grind.{common_steps}
use Rattle.std.specs.Prelude.{flat_map, filter}
use Rattle.std.specs.List.{list_all, range_with_len}
use Rattle.apfs_model.specs.Lists.{through, value_of}
use Rattle.bt_node.specs.Node.{level_of, count_of, key_count_of, node_count_of}
use Rattle.bt_node.specs.Entries.{Pair, pair_of, pairs_of}
use Rattle.bt_cursor.specs.Tree.{Tree, root_place, node_at}
use Rattle.bt_cursor.specs.Flat.{flat_part, flat_of}
use Rattle.bt_cursor.specs.Line.{Item, item_at, entry_of, entries_of, line_part, line_of}
use Rattle.bt_cursor.specs.Met.{places_in, places_of, has_node, nodes_of, is_walkable}
use Rattle.bt_cursor.specs.Order.{is_ordered}
use Rattle.bt_cursor.specs.Counts.{has_counts, is_counted}
use Rattle.bt_cursor.specs.Whole.{is_whole}

-- the root is a leaf with these entries, and counts them
pub record IsLeaf {K : Type 0} (tree : Tree K) (root : ℕ) (pairs : List Pair) : Type 0 where
  pub node : List ℕ
  pub found : tree.look (root_place root) ≡ Ok node
  pub level : level_of node ≡ 0
  pub entries : pairs_of tree.shape node ≡ pairs
  pub keys : key_count_of node ≡ length pairs
  pub nodes : node_count_of node ≡ 1

there : {K : Type 0} (tree : Tree K) (root : ℕ) (pairs : List Pair) (l : IsLeaf tree root pairs) → node_at tree (root_place root) ≡ Some l.node
there tree root pairs l = ap value_of l.found

flat-single : {K : Type 0} (tree : Tree K) (pairs : List Pair) → flat_map (flat_part tree 0) pairs ≡ pairs
flat-single tree [] = refl
flat-single tree (pair ∷ pairs) = ap (λ ps. pair ∷ ps) (flat-single tree pairs)

-- the items of a leaf by its entries from a number on
abbrev pub leaf_items : ℕ → ℕ → List Pair → List Item
leaf_items root i [] = []
leaf_items root i (pair ∷ pairs) = item_at root i 0 pair ∷ leaf_items root (i + 1) pairs

line-single : {K : Type 0} (tree : Tree K) (root a n : ℕ) (node : List ℕ) → flat_map (line_part tree 0 root) (map (entry_of tree.shape node) (range_with_len a n)) ≡ leaf_items root a (map (pair_of tree.shape node) (range_with_len a n))
line-single tree root a zero node = refl
line-single tree root a (suc n) node = ap (λ items. item_at root a 0 (pair_of tree.shape node a) ∷ items) (line-single tree root (a + 1) n node)

places-none : (root i : ℕ) (pairs : List Pair) → places_in (leaf_items root i pairs) ≡ []
places-none root i [] = refl
places-none root i (pair ∷ pairs) = places-none root (i + 1) pairs

-- its flat list and its Line are the entries
pub leaf-flat : {K : Type 0} (tree : Tree K) (root : ℕ) (pairs : List Pair) → IsLeaf tree root pairs → flat_of tree root ≡ pairs
leaf-flat tree root pairs l =
    ap (λ o. through o (λ node. flat_map (flat_part tree (level_of node)) (pairs_of tree.shape node))) (there tree root pairs l)
    ∙ ap (λ n. flat_map (flat_part tree n) (pairs_of tree.shape l.node)) l.level
    ∙ ap (λ ps. flat_map (flat_part tree 0) ps) l.entries
    ∙ flat-single tree pairs

pub leaf-line : {K : Type 0} (tree : Tree K) (root : ℕ) (pairs : List Pair) → IsLeaf tree root pairs → line_of tree root ≡ leaf_items root 0 pairs
leaf-line tree root pairs l =
    ap (λ o. through o (λ node. flat_map (line_part tree (level_of node) root) (entries_of tree.shape node))) (there tree root pairs l)
    ∙ ap (λ n. flat_map (line_part tree n root) (entries_of tree.shape l.node)) l.level
    ∙ line-single tree root 0 (count_of l.node) l.node
    ∙ ap (leaf_items root 0) l.entries

-- the root alone is met
leaf-places : {K : Type 0} (tree : Tree K) (root : ℕ) (pairs : List Pair) → IsLeaf tree root pairs → places_of tree root ≡ root_place root ∷ []
leaf-places tree root pairs l = ap (λ ps. root_place root ∷ ps) (ap places_in (leaf-line tree root pairs l) ∙ places-none root 0 pairs)

has-root : {K : Type 0} (tree : Tree K) (root : ℕ) (pairs : List Pair) → IsLeaf tree root pairs → has_node tree (root_place root) ≡ true
has-root tree root pairs l = ap is_ok l.found

pub leaf-nodes : {K : Type 0} (tree : Tree K) (root : ℕ) (pairs : List Pair) → IsLeaf tree root pairs → nodes_of tree root ≡ root_place root ∷ []
leaf-nodes tree root pairs l = ap (filter (has_node tree)) (leaf-places tree root pairs l) ∙ rw (has-root tree root pairs l)

pub leaf-walkable : {K : Type 0} (tree : Tree K) (root : ℕ) (pairs : List Pair) → IsLeaf tree root pairs → is_walkable tree root ≡ true
leaf-walkable tree root pairs l = ap (list_all (has_node tree)) (leaf-places tree root pairs l) ∙ rw (has-root tree root pairs l)

pub leaf-counted : {K : Type 0} (tree : Tree K) (root : ℕ) (pairs : List Pair) → IsLeaf tree root pairs → is_counted tree root ≡ true
leaf-counted tree root pairs l =
    let keys : length (flat_of tree root) ≡ length pairs = ap length (leaf-flat tree root pairs l) in
    let nodes : length (nodes_of tree root) ≡ 1 = ap length (leaf-nodes tree root pairs l) in
    ap (λ o. has_counts o (length (flat_of tree root)) (length (nodes_of tree root))) (there tree root pairs l)
    ∙ ap (λ n. (key_count_of l.node == n) && (node_count_of l.node == length (nodes_of tree root))) keys
    ∙ ap (λ n. (key_count_of l.node == length pairs) && (node_count_of l.node == n)) nodes
    ∙ ap (λ n. (n == length pairs) && (node_count_of l.node == 1)) l.keys
    ∙ ap (λ n. (length pairs == length pairs) && (n == 1)) l.nodes
    ∙ same (length pairs)
  where
    same : (n : ℕ) → ((n == n) && (1 == 1)) ≡ true
    same n = Prim.grind (arith, common_steps)

-- a leaf in order is a whole tree
pub leaf-whole : {K : Type 0} (tree : Tree K) (root : ℕ) (pairs : List Pair) → IsLeaf tree root pairs → is_ordered tree.shape (leaf_items root 0 pairs) ≡ true → is_whole tree root ≡ true
leaf-whole tree root pairs l ordered =
    ap (λ b. b && (is_ordered tree.shape (line_of tree root) && is_counted tree root)) (leaf-walkable tree root pairs l)
    ∙ ap (λ line. is_ordered tree.shape line && is_counted tree root) (leaf-line tree root pairs l)
    ∙ ap (λ b. b && is_counted tree root) ordered
    ∙ leaf-counted tree root pairs l
