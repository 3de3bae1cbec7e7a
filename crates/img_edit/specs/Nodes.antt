-- The bytes of an object's header and of a node, in the order in which they stand.
use Rattle.std.specs.Prelude.{◌≡◌, ℕ, ◌+◌, ◌-◌, ◌*◌, ◌^◌, ◌≤◌, ◌<◌, Bool, false, not, ◌==◌, [], ◌∷◌, ◌++◌, List, length, drop, replicate, max, slice_index_or, bit_or, Option, None, Some, is_some, Vec, vec_len, if◌then◌else◌}
use Rattle.std.specs.declared.alloc.Global.{Global}
use Rattle.byteorder.specs.Endian.{little_bytes}
use Rattle.apfs_model.specs.Bytes.{u16_at, part_at}
use Rattle.apfs_model.specs.Object.{root_kind, node_kind, sum_field, oid_of, xid_of, type_of, subtype_of}
use Rattle.apfs_model.specs.Sum.{sum_of}
use Rattle.img_edit.specs.declared.header.Head.{Head}
use Rattle.img_edit.specs.declared.node.Tree.{Tree}
use Rattle.img_edit.specs.declared.node.Totals.{Totals}
use Rattle.img_edit.specs.declared.node.NodeHead.{NodeHead}

-- a number of so many bytes, the lowest byte first
unfoldable pub number_bytes : ℕ → ℕ → List ℕ
number_bytes count number = little_bytes count number

-- a key and its value
abbrev pub Pair : Type 0
Pair = Vec ℕ Global × Vec ℕ Global

-- the header of an object behind its sum: its id, its transaction, its type and its subtype (Objects, obj_phys_t)
unfoldable pub header_of : Head → List ℕ
header_of head = number_bytes 8 head.oid ++ number_bytes 8 head.xid ++ number_bytes 4 (bit_or head.storage head.kind) ++ number_bytes 4 head.subtype

-- all keys and all values of a tree have one size
abbrev pub is_fixed : Tree → Bool
is_fixed tree = not (tree.key_size == 0)

-- the header of a node: of a root, or of another node of the tree
abbrev pub head_of : Tree → NodeHead → Head
head_of tree head = record { oid = head.oid; xid = head.xid; storage = tree.storage; kind = if is_some head.totals then root_kind else node_kind; subtype = tree.subtype }

-- the flags of a node: root, leaf, and fixed sizes (B-Trees, B-Tree Node Flags)
abbrev pub flags_of : Tree → NodeHead → ℕ
flags_of tree head = (if is_some head.totals then 1 else 0) + (if head.level == 0 then 2 else 0) + (if is_fixed tree then 4 else 0)

-- an empty list of free room: no offset, and no length (nloc_t)
unfoldable pub no_list : List ℕ
no_list = number_bytes 2 0xffff ++ number_bytes 2 0

-- what a node says of its room: where the table begins and how long it is, how long the keys and the free room are, and no lists of free room among the keys or the values
unfoldable pub spaces_of : ℕ → ℕ → ℕ → List ℕ
spaces_of table keys free = number_bytes 2 0 ++ number_bytes 2 table ++ number_bytes 2 keys ++ number_bytes 2 free ++ no_list ++ no_list

-- the fields of a node behind its header: its flags, its level, the number of its items, and its room (B-Trees, btree_node_phys_t)
unfoldable pub fields_of : Tree → NodeHead → ℕ → ℕ → ℕ → ℕ → List ℕ
fields_of tree head count table keys free = number_bytes 2 (flags_of tree head) ++ number_bytes 2 head.level ++ number_bytes 4 count ++ spaces_of table keys free

-- a table entry: the offsets of a key and of a value (kvoff_t), and where sizes differ their lengths too (kvloc_t)
abbrev pub entry_of : Bool → ℕ → ℕ → Pair → List ℕ
entry_of fixed key value item =
    if fixed then number_bytes 2 key ++ number_bytes 2 value
    else number_bytes 2 key ++ number_bytes 2 (vec_len item.0) ++ number_bytes 2 value ++ number_bytes 2 (vec_len item.1)

-- the table of some items, before which stand so many bytes of keys and behind which so many of values: a key's offset counts from where the keys begin, a value's backwards from where the values end
abbrev pub table_of : Bool → ℕ → ℕ → List Pair → List ℕ
table_of fixed keys values [] = []
table_of fixed keys values (item ∷ items) = entry_of fixed keys (values + vec_len item.1) item ++ table_of fixed (keys + vec_len item.0) (values + vec_len item.1) items

-- the keys, one after another
abbrev pub keys_of : List Pair → List ℕ
keys_of [] = []
keys_of (item ∷ items) = item.0.items ++ keys_of items

-- the values, the first one last
abbrev pub values_of : List Pair → List ℕ
values_of [] = []
values_of (item ∷ items) = values_of items ++ item.1.items

-- what a root tells of its tree, and nothing at another node: flags, bytes of a node, sizes of all keys and of all values, the longest key and value, and the numbers of keys and of nodes (B-Trees, btree_info_t)
unfoldable pub info_of : ℕ → Tree → Option Totals → List ℕ
info_of size tree None = []
info_of size tree (Some totals) =
    number_bytes 4 tree.flags ++ number_bytes 4 size ++ number_bytes 4 tree.key_size ++ number_bytes 4 tree.value_size
    ++ number_bytes 4 (max totals.longest_key tree.key_size) ++ number_bytes 4 (max totals.longest_value tree.value_size)
    ++ number_bytes 8 totals.keys ++ number_bytes 8 totals.nodes

-- the bytes of a table entry
abbrev pub entry_len : Tree → ℕ
entry_len tree = if is_fixed tree then 4 else 8

-- the bytes that a node of some items takes, but for its free room
abbrev pub taken_by : ℕ → Tree → NodeHead → List Pair → ℕ
taken_by size tree head items = 56 + length items * entry_len tree + length (keys_of items) + length (values_of items) + length (info_of size tree head.totals)

-- the bytes of a node behind its sum: its header and fields, the table of its items, their keys, free room, their values, and what a root tells
abbrev pub node_of : ℕ → Tree → NodeHead → List Pair → List ℕ
node_of size tree head items =
    header_of (head_of tree head)
    ++ fields_of tree head (length items) (length items * entry_len tree) (length (keys_of items)) (size - taken_by size tree head items)
    ++ table_of (is_fixed tree) 0 0 items
    ++ keys_of items
    ++ replicate (size - taken_by size tree head items) 0
    ++ values_of items
    ++ info_of size tree head.totals

-- an object of so many bytes with its sum, and with these bytes behind it
pub record IsWhole (size : ℕ) (bytes object : List ℕ) : Type 0 where
  pub long : length object ≡ size
  pub sum : sum_field object ≡ sum_of object
  pub rest : drop 8 object ≡ bytes

-- the header of an object is read in its bytes: its id, its transaction, its type and its subtype
pub record HasHead (head : Head) (bytes : List ℕ) : Type 0 where
  pub oid : oid_of bytes ≡ head.oid
  pub xid : xid_of bytes ≡ head.xid
  pub type : type_of bytes ≡ bit_or head.storage head.kind
  pub subtype : subtype_of bytes ≡ head.subtype

-- the bytes of what a root tells of its tree, and none at another node
abbrev pub info_len : Option Totals → ℕ
info_len None = 0
info_len (Some totals) = 40

-- where a table entry has the offset of a value: behind that of the key, and where sizes differ behind the key's length
abbrev pub value_at : Bool → ℕ
value_at fixed = if fixed then 2 else 4

-- a table entry at a place tells the lengths of a key and of its value
pub record HasLengths (node : List ℕ) (at : ℕ) (item : Pair) : Type 0 where
  pub key : u16_at node (at + 2) ≡ vec_len item.0
  pub value : u16_at node (at + 6) ≡ vec_len item.1

-- item k of so many is read where its table entry tells: its key from the table's end on, its value back from where the values end; where sizes differ the entry tells the lengths of both
pub record HasItem (tree : Tree) (count end : ℕ) (node : List ℕ) (k : ℕ) (item : Pair) : Type 0 where
  pub key : part_at node (56 + count * entry_len tree + u16_at node (56 + k * entry_len tree)) (vec_len item.0) ≡ item.0.items
  pub value : part_at node (end - u16_at node (56 + k * entry_len tree + value_at (is_fixed tree))) (vec_len item.1) ≡ item.1.items
  pub lengths : is_fixed tree ≡ false → HasLengths node (56 + k * entry_len tree) item

-- all items are read in a node
abbrev pub HasItems : ℕ → Tree → NodeHead → List Pair → List ℕ → Type 0
HasItems size tree head items node = (k : ℕ) (none : Pair) → k < length items → HasItem tree (length items) (size - info_len head.totals) node k (slice_index_or items k none)

-- the numbers of a header fit their fields
pub record FitsHead (head : Head) : Type 0 where
  pub oid : head.oid < 2 ^ 64
  pub xid : head.xid < 2 ^ 64
  pub type : bit_or head.storage head.kind < 2 ^ 32
  pub subtype : head.subtype < 2 ^ 32

-- a node with zeros for its sum, which has room for its items
pub record IsUnsealed (size : ℕ) (tree : Tree) (head : NodeHead) (items : List Pair) (node : List ℕ) : Type 0 where
  pub room : taken_by size tree head items ≤ size
  pub fits : FitsHead (head_of tree head)
  pub bytes : node ≡ replicate 8 0 ++ node_of size tree head items
