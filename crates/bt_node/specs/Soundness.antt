-- Which nodes are sound, and which test is the first that fails.
use Rattle.std.specs.Prelude.{ℕ, ◌+◌, ◌*◌, Bool, true, false, not, ◌&&◌, ◌||◌, ◌==◌, nat_lt, nat_le, List, Option, Some, is_some, Result, Ok, Err, if◌then◌else◌}
use Rattle.std.specs.List.{range_with_len, list_all}
use Rattle.apfs_model.specs.Object.{root_kind, node_kind}
use Rattle.obj_base.specs.declared.header.Header.{Header}
use Rattle.obj_base.specs.declared.header.Expect.{Expect}
use Rattle.obj_base.specs.declared.header.HeadFault.{HeadFault}
use Rattle.obj_base.specs.declared.stop.Bad.{Bad}
use Rattle.obj_base.specs.declared.stop.Bad.TheVariants.{Found, Unsupported}
use Rattle.obj_base.specs.declared.stop.Feature.TheVariants.{Sealed, NoHeader, Deep, Size}
use Rattle.obj_base.specs.Sound.{sound_of, agrees}
use Rattle.bt_node.specs.declared.key.Layout.{Layout}
use Rattle.bt_node.specs.declared.key.Layout.TheVariants.{Fixed, Variable, Either}
use Rattle.obj_base.specs.declared.site.Site.{Site}
use Rattle.bt_node.specs.declared.node.NodeAt.{NodeAt}
use Rattle.bt_node.specs.declared.fault.NodeFault.{NodeFault}
use Rattle.bt_node.specs.declared.fault.NodeFault.TheVariants.{Head, Level, Flags, Bounds, Key, Empty, Ghost}
use Rattle.bt_node.specs.declared.entries.Place.{Place}
use Rattle.bt_node.specs.Shape.{Shape}
use Rattle.bt_node.specs.Node.{level_of, count_of, is_root, is_leaf, is_fixed, is_hashed, lacks_header, end_of, keys_begin, table_length_of, node_size_of}
use Rattle.bt_node.specs.Entries.{place_of, place_len, is_ghost, key_in}

-- two tests answer alike
abbrev pub is_alike : Bool → Bool → Bool
is_alike true b = b
is_alike false b = not b

-- the header that a node has: a root or another node, with the tree's subtype and the oid by which it is named
abbrev pub node_expect : {K : Type 0} → Shape K → NodeAt → Site → Expect
node_expect shape at site = record { kind = if at.root then root_kind else node_kind; subtype = Some shape.subtype; oid = Some at.oid; max_xid = site.max_xid }

-- Flags: the fixed flag is the layout's
abbrev pub has_layout : Layout → List ℕ → Bool
has_layout Fixed node = is_fixed node
has_layout Variable node = not (is_fixed node)
has_layout Either node = true

-- Flags: the root flag is as expected, the leaf flag stands exactly at level 0, and the fixed flag is the layout's
unfoldable pub has_right_flags : Layout → NodeAt → List ℕ → Bool
has_right_flags layout at node = is_alike at.root (is_root node) && (is_alike (is_leaf node) (level_of node == 0) && has_layout layout node)

-- Level: the level is the expected one, where one is expected
abbrev pub has_level : Option ℕ → List ℕ → Bool
has_level expected node = agrees expected (level_of node)

-- Empty: no entry, in a node that isn't a root of level 0
unfoldable pub is_empty : List ℕ → Bool
is_empty node = (count_of node == 0) && not (is_root node && (level_of node == 0))

-- each entry of a node passes a test
abbrev pub each_entry : List ℕ → (ℕ → Bool) → Bool
each_entry node test = list_all test (range_with_len 0 (count_of node))

-- Bounds: a key lies between where the keys begin and where the values end
unfoldable pub is_key_inside : List ℕ → Place → Bool
is_key_inside node place = nat_le (keys_begin node + place.key_offset + place.key_len) (end_of node)

-- Bounds: a value lies there too, and holds a child's oid above the leaves; an entry without a value has none that could lie outside
unfoldable pub is_value_inside : List ℕ → Place → Bool
is_value_inside node place =
    is_ghost place
    || ((nat_le (keys_begin node + place.value_offset) (end_of node) && nat_le place.value_len place.value_offset)
    && ((level_of node == 0) || nat_le 8 place.value_len))

-- Bounds: the table of contents holds its entries, and ends by where the values end
unfoldable pub is_table_inside : List ℕ → Bool
is_table_inside node = nat_le (count_of node * place_len node) (table_length_of node) && nat_le (keys_begin node) (end_of node)

-- Bounds: an entry's key and value lie inside
abbrev pub is_entry_inside : {K : Type 0} → Shape K → List ℕ → ℕ → Bool
is_entry_inside shape node i = is_key_inside node (place_of shape node i) && is_value_inside node (place_of shape node i)

-- Bounds: the table, each key and each value lie inside
unfoldable pub is_bounded : {K : Type 0} → Shape K → List ℕ → Bool
is_bounded shape node = is_table_inside node && each_entry node (is_entry_inside shape node)

-- Ghost: an entry has a value
abbrev pub has_value : {K : Type 0} → Shape K → List ℕ → ℕ → Bool
has_value shape node i = not (is_ghost (place_of shape node i))

-- Ghost: each entry has a value, save at level 0 of a tree whose entries may lack one
unfoldable pub has_values : {K : Type 0} → Shape K → List ℕ → Bool
has_values shape node = (shape.ghosts && (level_of node == 0)) || each_entry node (has_value shape node)

-- Key: the key of an entry can be read
abbrev pub has_key : {K : Type 0} → Shape K → List ℕ → ℕ → Bool
has_key shape node i = is_some (shape.read (key_in node (place_of shape node i)))

-- Key: each key can be read
unfoldable pub has_keys : {K : Type 0} → Shape K → List ℕ → Bool
has_keys shape node = each_entry node (has_key shape node)

-- the ten tests that follow that of the header, in their order
unfoldable pub after_head : {K : Type 0} → Shape K → NodeAt → Site → List ℕ → Result (List ℕ) (Bad NodeFault)
after_head shape at site node =
    if is_hashed node then Err (Unsupported Sealed) else
    if lacks_header node then Err (Unsupported NoHeader) else
    if not (has_right_flags shape.layout at node) then Err (Found Flags) else
    if at.root && nat_lt 15 (level_of node) then Err (Unsupported Deep) else
    if not (has_level at.level node) then Err (Found Level) else
    if at.root && not (node_size_of node == site.block_size) then Err (Unsupported Size) else
    if is_empty node then Err (Found Empty) else
    if not (is_bounded shape node) then Err (Found Bounds) else
    if not (has_values shape node) then Err (Found Ghost) else
    if not (has_keys shape node) then Err (Found Key) else
    Ok node

-- a fault of the header is one of the node
abbrev pub of_header : Bad HeadFault → Bad NodeFault
of_header (Found fault) = Found (Head fault)
of_header (Unsupported feature) = Unsupported feature

-- the tests that follow, where the header passes its own
abbrev pub with_header : {K : Type 0} → Shape K → NodeAt → Site → List ℕ → Result Header (Bad HeadFault) → Result (List ℕ) (Bad NodeFault)
with_header shape at site node (Ok _) = after_head shape at site node
with_header shape at site node (Err bad) = Err (of_header bad)

-- the node, where it is sound as expected, or the first test that fails (B-Trees, btree_node_phys_t)
unfoldable pub node_of : {K : Type 0} → Shape K → NodeAt → Site → List ℕ → Result (List ℕ) (Bad NodeFault)
node_of shape at site node = with_header shape at site node (sound_of node (node_expect shape at site))
