-- Where the entries of a table lie.
use Rattle.std.specs.Prelude.{◌≡◌, ℕ, ◌+◌, ◌*◌, ◌≤◌, ◌<◌, true, false, List, length}
use Rattle.std.proofs.Common.{arith}
use Rattle.std.proofs.Math.Nat.{mul-le-mul_right}
use Rattle.std.proofs.lemmas.Bool.Decides.{nat_tests}
use Rattle.std.proofs.lemmas.Grind.{common_steps}
use Rattle.std.proofs.lemmas.List.FromFn.{length-map-range_with_len}
use Rattle.bt_node.specs.Shape.{Shape}
use Rattle.bt_node.specs.Node.{count_of, level_of, table_begin, table_length_of, keys_begin, end_of}
use Rattle.bt_node.specs.Entries.{place_len, place_of, is_ghost, pair_of, pairs_of}
use Rattle.bt_node.specs.Soundness.{is_table_inside, is_key_inside, is_entry_inside, is_bounded, each_entry}
use Rattle.bt_node.specs.View.{IsLegible}
use Rattle.bt_node.proofs.Ranges.{one_passes}

-- a node's values end by its last byte
end_inside : (node : List ℕ) → end_of node ≤ length node
unfolding end_of
end_inside node = Prim.grind (arith, common_steps)

-- a table that holds its entries and lies inside the node holds each of them
pub place_held : (node : List ℕ) (i : ℕ) → count_of node * place_len node ≤ table_length_of node → keys_begin node ≤ end_of node → i < count_of node → table_begin node + (i + 1) * place_len node ≤ length node
unfolding keys_begin
place_held node i holds ends low =
    let within : end_of node ≤ length node = end_inside node in
    let more : (i + 1) * place_len node ≤ count_of node * place_len node = mul-le-mul_right (place_len node) (Prim.omega arith) in
    Prim.omega (arith, more, within)

pub table_holds : (node : List ℕ) → is_table_inside node ≡ true → count_of node * place_len node ≤ table_length_of node
unfolding is_table_inside
table_holds node e = Prim.grind (arith, nat_tests, common_steps)

pub table_ends : (node : List ℕ) → is_table_inside node ≡ true → keys_begin node ≤ end_of node
unfolding is_table_inside
table_ends node e = Prim.grind (arith, nat_tests, common_steps)

pub place_inside : (node : List ℕ) (i : ℕ) → is_table_inside node ≡ true → i < count_of node → table_begin node + (i + 1) * place_len node ≤ length node
place_inside node i e low = place_held node i (table_holds node e) (table_ends node e) low

-- a node lists as many entries as it has
pub pairs_counted : {K : Type 0} (shape : Shape K) (node : List ℕ) → length (pairs_of shape node) ≡ count_of node
pairs_counted shape node = length-map-range_with_len (pair_of shape node) 0 (count_of node)

-- in a bounded node the table lies inside
pub bounded_table : {K : Type 0} (shape : Shape K) (node : List ℕ) → is_bounded shape node ≡ true → is_table_inside node ≡ true
unfolding is_bounded
bounded_table shape node e = Prim.grind (arith, common_steps)

bounded_each : {K : Type 0} (shape : Shape K) (node : List ℕ) → is_bounded shape node ≡ true → each_entry node (is_entry_inside shape node) ≡ true
unfolding is_bounded
bounded_each shape node e = Prim.grind (arith, common_steps)

-- in a bounded node each entry lies inside
pub bounded_entry : {K : Type 0} (shape : Shape K) (node : List ℕ) (i : ℕ) → is_bounded shape node ≡ true → i < count_of node → is_entry_inside shape node i ≡ true
bounded_entry shape node i e low = one_passes (is_entry_inside shape node) (count_of node) i (bounded_each shape node e) low

pub key_ends : {K : Type 0} (shape : Shape K) (node : List ℕ) (i : ℕ) → is_entry_inside shape node i ≡ true → keys_begin node + (place_of shape node i).key_offset + (place_of shape node i).key_len ≤ end_of node
unfolding is_key_inside
key_ends shape node i e = Prim.grind (arith, nat_tests, common_steps)

-- above the leaves each entry has a value
pub child_valued : {K : Type 0} (shape : Shape K) (node : List ℕ) (i : ℕ) → IsLegible shape node → i < count_of node → 0 < level_of node → is_ghost (place_of shape node i) ≡ false
child_valued shape node i legible low upper =
    let entry = legible.table.entries i low in
    Prim.grind (arith, nat_tests, common_steps, entry.valued)
