-- Trees of a root and two leaves, worked out by hand.
use Rattle.std.specs.Prelude.{◌≡◌, ℕ, zero, suc, ◌/◌, ◌%◌, ◌==◌, true, false, List, [], ◌∷◌, ◌++◌, length, replicate, Some, Ok, Err, refl, if◌then◌else◌}
use Rattle.apfs_model.specs.Bytes.{u16_at, u32_at, u64_at}
use Rattle.obj_base.specs.declared.stop.Stop.TheVariants.{Found}
use Rattle.bt_node.specs.Entries.{Pair, fixed_place, variable_place, place_of, key_in, value_in}
use Rattle.bt_node.specs.Node.{flags_of, level_of, count_of, table_offset_of, table_length_of, end_of, table_begin, keys_begin, key_count_of, node_count_of}
use Rattle.bt_node.specs.Shape.{Shape}
use Rattle.bt_node.specs.declared.key.Layout.TheVariants.{Fixed}
use Rattle.bt_cursor.specs.declared.fault.WalkFault.TheVariants.{Unnamed}
use Rattle.bt_cursor.specs.Tree.{Tree, tree_by}
use Rattle.bt_cursor.specs.Flat.{flat_of}
use Rattle.bt_cursor.specs.Line.{item_at, line_of}
use Rattle.bt_cursor.specs.Gaps.{gapped_of, all_flat}
use Rattle.bt_cursor.specs.Met.{nodes_of, is_walkable}
use Rattle.bt_cursor.specs.Order.{out_of_order}
use Rattle.bt_cursor.specs.Counts.{is_counted}
use Rattle.bt_cursor.specs.Whole.{is_whole}
use Rattle.bt_cursor.specs.From.{from_rank, gapped_from_rank}

-- a number in so many bytes
abbrev little : ℕ → ℕ → List ℕ
little zero n = []
little (suc k) n = (n % 256) ∷ little k (n / 256)

-- a node with fixed sizes: its flags, level, number of entries and length of the table, and what follows
abbrev node : ℕ → ℕ → ℕ → ℕ → List ℕ → List ℕ
node flags level count table others = replicate 32 0 ++ little 2 flags ++ little 2 level ++ little 4 count ++ little 2 0 ++ little 2 table ++ replicate 12 0 ++ others

-- a leaf with one key, and the value 7
abbrev leaf : ℕ → List ℕ
leaf key = node 6 0 1 4 (little 2 0 ++ little 2 8 ++ little 8 key ++ little 8 7)

-- a root with two keys and two children, and its numbers of keys and nodes
abbrev root : ℕ → ℕ → ℕ → ℕ → ℕ → ℕ → List ℕ
root j k first second keys nodes = node 5 1 2 8 (little 2 0 ++ little 2 8 ++ little 2 8 ++ little 2 16 ++ little 8 j ++ little 8 k ++ little 8 second ++ little 8 first ++ replicate 24 0 ++ little 8 keys ++ little 8 nodes)

-- keys of one number, each of which a tree has once
abbrev shape : Shape ℕ
shape = record { subtype = 0; layout = Fixed; key_len = 8; value_len = 8; ghosts = false; read = λ key. Some (u64_at key 0); rank = λ n. record { id = n; kind = 0; sub = 0 }; strict = λ n. true }

-- the root under the id 1, leaves under 2 and 3
abbrev tree : List ℕ → ℕ → ℕ → Tree ℕ
tree top j k = tree_by shape (λ at. if at.oid == 1 then Ok top else if at.oid == 2 then Ok (leaf j) else if at.oid == 3 then Ok (leaf k) else Err (Found (Unnamed at.oid)))

abbrev pair : ℕ → ℕ → Pair
pair key value = record { key = little 8 key; value = Some (little 8 value) }

pub whole : is_whole (tree (root 7 9 2 3 2 3) 7 9) 1 ≡ true
unfolding fixed_place variable_place place_of key_in value_in flags_of level_of count_of table_offset_of table_length_of end_of table_begin keys_begin key_count_of node_count_of u16_at u32_at u64_at
whole = refl

pub flat : flat_of (tree (root 7 9 2 3 2 3) 7 9) 1 ≡ pair 7 7 ∷ pair 9 7 ∷ []
unfolding fixed_place variable_place place_of key_in value_in flags_of level_of count_of table_offset_of table_length_of end_of table_begin keys_begin key_count_of node_count_of u16_at u32_at u64_at
flat = refl

pub line : line_of (tree (root 7 9 2 3 2 3) 7 9) 1 ≡ item_at 1 0 1 (pair 7 2) ∷ item_at 2 0 0 (pair 7 7) ∷ item_at 1 1 1 (pair 9 3) ∷ item_at 3 0 0 (pair 9 7) ∷ []
unfolding fixed_place variable_place place_of key_in value_in flags_of level_of count_of table_offset_of table_length_of end_of table_begin keys_begin key_count_of node_count_of u16_at u32_at u64_at
line = refl

-- the first entry that doesn't rank below 8 is the second
pub sought : from_rank shape (record { id = 8; kind = 0; sub = 0 }) (flat_of (tree (root 7 9 2 3 2 3) 7 9) 1) ≡ pair 9 7 ∷ []
unfolding fixed_place variable_place place_of key_in value_in flags_of level_of count_of table_offset_of table_length_of end_of table_begin keys_begin key_count_of node_count_of u16_at u32_at u64_at
sought = refl

-- item 2, the root's second entry, ranks below the leaf's entry before it
pub falling : out_of_order shape (line_of (tree (root 9 7 2 3 2 3) 9 7) 1) ≡ Some 2
unfolding fixed_place variable_place place_of key_in value_in flags_of level_of count_of table_offset_of table_length_of end_of table_begin keys_begin key_count_of node_count_of u16_at u32_at u64_at
falling = refl

-- item 3, the second leaf's entry, has the rank of the first leaf's; the root's entry before it may have it
pub repeating : out_of_order shape (line_of (tree (root 7 7 2 3 2 3) 7 7) 1) ≡ Some 3
unfolding fixed_place variable_place place_of key_in value_in flags_of level_of count_of table_offset_of table_length_of end_of table_begin keys_begin key_count_of node_count_of u16_at u32_at u64_at
repeating = refl

-- a root that tells three keys
pub miscounted : is_counted (tree (root 7 9 2 3 3 3) 7 9) 1 ≡ false
unfolding fixed_place variable_place place_of key_in value_in flags_of level_of count_of table_offset_of table_length_of end_of table_begin keys_begin key_count_of node_count_of u16_at u32_at u64_at
miscounted = refl

-- a child that is named twice is met twice
pub repeated : is_counted (tree (root 7 7 2 2 2 3) 7 7) 1 ≡ true
unfolding fixed_place variable_place place_of key_in value_in flags_of level_of count_of table_offset_of table_length_of end_of table_begin keys_begin key_count_of node_count_of u16_at u32_at u64_at
repeated = refl

-- a child that isn't there has no entries
pub missing : flat_of (tree (root 7 9 2 4 2 3) 7 9) 1 ≡ pair 7 7 ∷ []
unfolding fixed_place variable_place place_of key_in value_in flags_of level_of count_of table_offset_of table_length_of end_of table_begin keys_begin key_count_of node_count_of u16_at u32_at u64_at
missing = refl

-- it is a gap, after the entry that names it
pub gapped : gapped_of (tree (root 7 9 2 4 2 3) 7 9) 1 ≡ Ok (item_at 1 0 1 (pair 7 2)) ∷ Ok (item_at 2 0 0 (pair 7 7)) ∷ Ok (item_at 1 1 1 (pair 9 4)) ∷ Err (Found (Unnamed 4)) ∷ []
unfolding fixed_place variable_place place_of key_in value_in flags_of level_of count_of table_offset_of table_length_of end_of table_begin keys_begin key_count_of node_count_of u16_at u32_at u64_at
gapped = refl

pub flat_gapped : all_flat (gapped_of (tree (root 7 9 2 4 2 3) 7 9) 1) ≡ Ok (pair 7 7) ∷ Err (Found (Unnamed 4)) ∷ []
unfolding fixed_place variable_place place_of key_in value_in flags_of level_of count_of table_offset_of table_length_of end_of table_begin keys_begin key_count_of node_count_of u16_at u32_at u64_at
flat_gapped = refl

-- where the first child isn't there, the gap stays ahead of a rank below the next entry's, and not of one above it
pub sought_gap : gapped_from_rank shape (record { id = 8; kind = 0; sub = 0 }) (gapped_of (tree (root 7 9 4 3 2 3) 7 9) 1) ≡ Err (Found (Unnamed 4)) ∷ Ok (item_at 1 1 1 (pair 9 3)) ∷ Ok (item_at 3 0 0 (pair 9 7)) ∷ []
unfolding fixed_place variable_place place_of key_in value_in flags_of level_of count_of table_offset_of table_length_of end_of table_begin keys_begin key_count_of node_count_of u16_at u32_at u64_at
sought_gap = refl

pub sought_past : gapped_from_rank shape (record { id = 9; kind = 0; sub = 0 }) (gapped_of (tree (root 7 8 4 3 2 3) 7 9) 1) ≡ Ok (item_at 3 0 0 (pair 9 7)) ∷ []
unfolding fixed_place variable_place place_of key_in value_in flags_of level_of count_of table_offset_of table_length_of end_of table_begin keys_begin key_count_of node_count_of u16_at u32_at u64_at
sought_past = refl

pub unwalkable : is_walkable (tree (root 7 9 2 4 2 3) 7 9) 1 ≡ false
unfolding fixed_place variable_place place_of key_in value_in flags_of level_of count_of table_offset_of table_length_of end_of table_begin keys_begin key_count_of node_count_of u16_at u32_at u64_at
unwalkable = refl

pub fewer : length (nodes_of (tree (root 7 9 2 4 2 3) 7 9) 1) ≡ 2
unfolding fixed_place variable_place place_of key_in value_in flags_of level_of count_of table_offset_of table_length_of end_of table_begin keys_begin key_count_of node_count_of u16_at u32_at u64_at
fewer = refl

-- without a root there is nothing
pub rootless : flat_of (tree (root 7 9 2 3 2 3) 7 9) 5 ≡ []
unfolding fixed_place variable_place place_of key_in value_in flags_of level_of count_of table_offset_of table_length_of end_of table_begin keys_begin key_count_of node_count_of u16_at u32_at u64_at
rootless = refl
