-- What is known of a sound node, of its entries, and of keys.
use Rattle.std.specs.Prelude.{◌≡◌, ℕ, ◌+◌, ◌*◌, ◌≤◌, ◌<◌, true, false, not, ◌==◌, List, Option, Some, None, IsSome, Ok, if◌then◌else◌, ◌≢◌, length}
use Rattle.obj_base.specs.SoundObject.{IsSound}
use Rattle.bt_node.specs.declared.key.Layout.TheVariants.{Variable}
use Rattle.obj_base.specs.declared.site.Site.{Site}
use Rattle.bt_node.specs.declared.node.NodeAt.{NodeAt}
use Rattle.bt_node.specs.declared.fault.NodeFault.{NodeFault}
use Rattle.bt_node.specs.declared.fault.NodeFault.TheVariants.{Bounds, Key, Ghost}
use Rattle.bt_node.specs.Shape.{Shape}
use Rattle.bt_node.specs.Node.{level_of, count_of, is_root, is_leaf, is_hashed, lacks_header, end_of, keys_begin, table_length_of, node_size_of, key_count_of, node_count_of}
use Rattle.bt_node.specs.Entries.{place_of, place_len, is_ghost, key_in}
use Rattle.bt_node.specs.Soundness.{each_entry, has_keys, has_layout, has_level, has_values, is_entry_inside, node_expect, node_of}
use Rattle.bt_node.specs.declared.node.RootInfo.{RootInfo}

-- Bounds, Ghost, Key: the first of the three that some entry fails
abbrev pub entries_fault : {K : Type 0} → Shape K → List ℕ → Option NodeFault
entries_fault shape node =
    if not (each_entry node (is_entry_inside shape node)) then Some Bounds else
    if not (has_values shape node) then Some Ghost else
    if not (has_keys shape node) then Some Key else
    None

-- a node that is sound as expected
abbrev pub IsNode : {K : Type 0} → Shape K → NodeAt → Site → List ℕ → Type 0
IsNode shape at site node = node_of shape at site node ≡ Ok node

-- the facts of an entry whose key and value can be lent
pub record IsEntry {K : Type 0} (shape : Shape K) (node : List ℕ) (i : ℕ) : Type 0 where
  pub key_ends : keys_begin node + (place_of shape node i).key_offset + (place_of shape node i).key_len ≤ end_of node
  pub value_begins : is_ghost (place_of shape node i) ≡ false → keys_begin node + (place_of shape node i).value_offset ≤ end_of node
  pub value_ends : is_ghost (place_of shape node i) ≡ false → (place_of shape node i).value_len ≤ (place_of shape node i).value_offset
  pub child_fits : 0 < level_of node → 8 ≤ (place_of shape node i).value_len
  pub valued : is_ghost (place_of shape node i) ≡ true → (shape.ghosts ≡ true) × (level_of node ≡ 0)
  pub readable : IsSome (shape.read (key_in node (place_of shape node i)))

-- the facts of a table of contents: it holds its entries, it lies inside, and each entry can be lent
pub record IsTable {K : Type 0} (shape : Shape K) (node : List ℕ) : Type 0 where
  pub holds : count_of node * place_len node ≤ table_length_of node
  pub ends : keys_begin node ≤ end_of node
  pub entries : (i : ℕ) → i < count_of node → IsEntry shape node i

-- the facts of a node that is sound as expected
pub record IsSoundNode {K : Type 0} (shape : Shape K) (at : NodeAt) (site : Site) (node : List ℕ) : Type 0 where
  pub header : IsSound node (node_expect shape at site)
  pub unsealed : is_hashed node ≡ false
  pub headed : lacks_header node ≡ false
  pub root_right : is_root node ≡ at.root
  pub leaf_right : is_leaf node ≡ (level_of node == 0)
  pub fixed_right : has_layout shape.layout node ≡ true
  pub shallow : at.root ≡ true → level_of node ≤ 15
  pub level_right : has_level at.level node ≡ true
  pub size_right : at.root ≡ true → node_size_of node ≡ site.block_size
  pub filled : count_of node ≡ 0 → (at.root ≡ true) × (level_of node ≡ 0)
  pub table : IsTable shape node

-- strict keys of one rank are one key, and where keys have a fixed length, none is read from fewer bytes
pub record IsLawful {K : Type 0} (shape : Shape K) : Type 0 where
  pub one : (a b : K) → shape.strict a ≡ true → shape.strict b ≡ true → shape.rank a ≡ shape.rank b → a ≡ b
  pub long : (bytes : List ℕ) (k : K) → shape.layout ≢ Variable → shape.read bytes ≡ Some k → shape.key_len ≤ length bytes

-- what a root tells of its tree, and nothing at another node
abbrev pub info_of : List ℕ → Option RootInfo
info_of node = if is_root node then Some (record { node_size = node_size_of node; key_count = key_count_of node; node_count = node_count_of node }) else None
