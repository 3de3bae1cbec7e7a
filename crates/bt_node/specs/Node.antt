-- The fields of a node (B-Trees, btree_node_phys_t).
use Rattle.std.specs.Prelude.{ℕ, ◌+◌, ◌-◌, Bool, List, length, if◌then◌else◌}
use Rattle.apfs_model.specs.Bytes.{u16_at, u32_at, u64_at, has_flag}

-- the node's flags (btn_flags)
unfoldable pub flags_of : List ℕ → ℕ
flags_of node = u16_at node 32

-- how far the node stands above the leaves, which have level 0 (btn_level)
unfoldable pub level_of : List ℕ → ℕ
level_of node = u16_at node 34

-- how many entries the node has (btn_nkeys)
unfoldable pub count_of : List ℕ → ℕ
count_of node = u32_at node 36

-- where the table of contents begins, counted from byte 56, and its length (btn_table_space)
unfoldable pub table_offset_of : List ℕ → ℕ
table_offset_of node = u16_at node 40

unfoldable pub table_length_of : List ℕ → ℕ
table_length_of node = u16_at node 42

-- the flags of a node (B-Trees, B-Tree Node Flags)
abbrev pub root_flag : ℕ
root_flag = 1

abbrev pub leaf_flag : ℕ
leaf_flag = 2

abbrev pub fixed_flag : ℕ
fixed_flag = 4

abbrev pub hashed_flag : ℕ
hashed_flag = 8

abbrev pub no_header_flag : ℕ
no_header_flag = 0x10

abbrev pub is_root : List ℕ → Bool
is_root node = has_flag (flags_of node) root_flag

abbrev pub is_leaf : List ℕ → Bool
is_leaf node = has_flag (flags_of node) leaf_flag

abbrev pub is_fixed : List ℕ → Bool
is_fixed node = has_flag (flags_of node) fixed_flag

abbrev pub is_hashed : List ℕ → Bool
is_hashed node = has_flag (flags_of node) hashed_flag

abbrev pub lacks_header : List ℕ → Bool
lacks_header node = has_flag (flags_of node) no_header_flag

-- the bytes at a root's end that tell of its tree (btree_info_t)
abbrev pub info_len : ℕ
info_len = 40

-- where a node's values end: at its end, or before the root's information on its tree
unfoldable pub end_of : List ℕ → ℕ
end_of node = if is_root node then length node - info_len else length node

-- where the table of contents begins
unfoldable pub table_begin : List ℕ → ℕ
table_begin node = 56 + table_offset_of node

-- where the table ends and the keys begin
unfoldable pub keys_begin : List ℕ → ℕ
keys_begin node = table_begin node + table_length_of node

-- the bytes of each node of the tree, and its numbers of keys and of nodes, in a root (btree_info_t)
unfoldable pub node_size_of : List ℕ → ℕ
node_size_of node = u32_at node (length node - info_len + 4)

unfoldable pub key_count_of : List ℕ → ℕ
key_count_of node = u64_at node (length node - info_len + 24)

unfoldable pub node_count_of : List ℕ → ℕ
node_count_of node = u64_at node (length node - info_len + 32)
