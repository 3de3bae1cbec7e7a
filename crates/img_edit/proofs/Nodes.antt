-- The parts of a node: how long they are, and its values from the last one back.
use Rattle.std.proofs.Common.{◌≡◌, ℕ, ◌+◌, ◌*◌, ◌-◌, ◌≤◌, Bool, replicate, true, false, List, [], ◌∷◌, ◌++◌, length, reverse, if◌then◌else◌, vec_len, length-append, drop, refl, ap, ◌∙◌, arith}
use Rattle.std.specs.List.{flat_map}
use Rattle.std.proofs.lemmas.Grind.{flat_map-append}
use Rattle.std.proofs.lemmas.List.{append-nil, length-replicate, reverse-append}
use Rattle.img_edit.specs.declared.header.Head.{Head}
use Rattle.img_edit.specs.declared.node.Tree.{Tree}
use Rattle.img_edit.specs.declared.node.NodeHead.{NodeHead}
use Rattle.img_edit.specs.Nodes.{Pair, number_bytes, header_of, no_list, spaces_of, fields_of, entry_of, table_of, keys_of, values_of, head_of, info_of, is_fixed, entry_len, node_of, taken_by}

pub length-header : (head : Head) → length (header_of head) ≡ 24
unfolding header_of number_bytes
length-header head = refl

pub length-fields : (tree : Tree) (head : NodeHead) (count table keys free : ℕ) → length (fields_of tree head count table keys free) ≡ 24
unfolding fields_of spaces_of no_list number_bytes
length-fields tree head count table keys free = refl

pub length-entry : (fixed : Bool) (key value : ℕ) (item : Pair) → length (entry_of fixed key value item) ≡ (if fixed then 4 else 8)
unfolding number_bytes
length-entry true key value item = refl
length-entry false key value item = refl

pub length-table : (fixed : Bool) (keys values : ℕ) (items : List Pair) → length (table_of fixed keys values items) ≡ length items * (if fixed then 4 else 8)
length-table fixed keys values [] = omega arith
length-table fixed keys values (item ∷ items) =
    let first = length-entry fixed keys (values + vec_len item.1) item in
    let more = length-table fixed (keys + vec_len item.0) (values + vec_len item.1) items in
    let all = length-append (entry_of fixed keys (values + vec_len item.1) item) (table_of fixed (keys + vec_len item.0) (values + vec_len item.1) items) in
    grind (arith, first, more, all)

-- the values of the items from the last one back
pub values_back : (items : List Pair) → flat_map (λ (item : Pair). item.1.items) (reverse items) ≡ values_of items
values_back [] = refl
values_back (item ∷ items) =
    let value = λ (p : Pair). p.1.items in
    ap (flat_map value) (reverse-append (item ∷ []) items)
    ∙ flat_map-append value (reverse items) (item ∷ [])
    ∙ ap (λ l. flat_map value (reverse items) ++ l) (append-nil item.1.items)
    ∙ ap (λ l. l ++ item.1.items) (values_back items)

-- a node is as long as its block, but for the sum
length-node : (size : ℕ) (tree : Tree) (head : NodeHead) (items : List Pair) → taken_by size tree head items ≤ size → 8 + length (node_of size tree head items) ≡ size
length-node size tree head items room =
    let free = size - taken_by size tree head items in
    let front = header_of (head_of tree head) in
    let fields = fields_of tree head (length items) (length items * entry_len tree) (length (keys_of items)) free in
    let table = table_of (is_fixed tree) 0 0 items in
    let zeros = replicate {A = ℕ} free 0 in
    let a = length-header (head_of tree head) in
    let b = length-fields tree head (length items) (length items * entry_len tree) (length (keys_of items)) free in
    let t = length-table (is_fixed tree) 0 0 items in
    let z : length zeros ≡ free = length-replicate free 0 in
    let all : length (node_of size tree head items) ≡ length front + length fields + length table + length (keys_of items) + length zeros + length (values_of items) + length (info_of size tree head.totals) = simp length-append in
    omega (arith, a, b, t, z, all, room)

-- a node with zeros for its sum is as long as its block
pub node_long : (size : ℕ) (tree : Tree) (head : NodeHead) (items : List Pair) (block : List ℕ) → block ≡ replicate 8 0 ++ node_of size tree head items → taken_by size tree head items ≤ size → length block ≡ size
node_long size tree head items block is room = ap length is ∙ length-append (replicate {A = ℕ} 8 0) (node_of size tree head items) ∙ length-node size tree head items room

-- what stands behind the zeros for a sum
pub behind_sum : (bytes block : List ℕ) → block ≡ replicate 8 0 ++ bytes → drop 8 block ≡ bytes
behind_sum bytes block is = ap (λ l. drop 8 l) is

-- a header with zeros after it is as long as its block
pub headed_long : (size : ℕ) (head : Head) (block : List ℕ) → block ≡ replicate 8 0 ++ header_of head ++ replicate (size - 32) 0 → 32 ≤ size → length block ≡ size
headed_long size head block is room =
    let all : length block ≡ length (replicate {A = ℕ} 8 0 ++ header_of head ++ replicate (size - 32) 0) = ap length is in
    let parts : length (replicate {A = ℕ} 8 0 ++ header_of head ++ replicate (size - 32) 0) ≡ 8 + length (header_of head) + length (replicate {A = ℕ} (size - 32) 0) = simp length-append in
    let zeros : length (replicate {A = ℕ} (size - 32) 0) ≡ size - 32 = length-replicate (size - 32) 0 in
    let front = length-header head in
    omega (arith, all, parts, zeros, front)
