-- The ranges of an extent reference tree (File-System Objects, j_phys_ext_val_t).
use Rattle.std.specs.Prelude.{ℕ, ◌&&◌, ◌==◌, nat_lt, List, [], map, filter_map, Option, None, Some, option_and_then, if◌then◌else◌}
use Rattle.apfs_model.specs.Blocks.{in_container}
use Rattle.bt_node.specs.Entries.{Pair, bytes_in}
use Rattle.bt_node.specs.declared.node.NodeAt.{NodeAt}
use Rattle.obj_base.specs.declared.site.Site.{Site}
use Rattle.bt_keys.specs.declared.record_key.ExtKey.{ExtKey}
use Rattle.bt_keys.specs.declared.values.ExtValue.{ExtValue}
use Rattle.bt_keys.specs.RecordKey.{id_of}
use Rattle.bt_keys.specs.Shapes.{ext_shape}
use Rattle.bt_keys.specs.Values.{ext_value_of, new_kind}
use Rattle.bt_cursor.specs.Tree.{Tree, tree_in}
use Rattle.bt_cursor.specs.Flat.{flat_of}
use Rattle.bt_cursor.specs.Met.{nodes_of}
use Rattle.ext_ref.specs.declared.range.NewRange.{NewRange}

-- the extent reference trees of an image: an id names the block of its number
abbrev pub ext_tree : List ℕ → Site → Tree ExtKey
ext_tree image site = tree_in ext_shape site (in_container site.blocks) image

-- a value of kind new with a length above 0, as a range from a first block on
abbrev pub range_in : ℕ → ExtValue → Option NewRange
range_in first v = if (v.kind == new_kind) && nat_lt 0 v.length then Some (record { first = first; length = v.length; count = v.count }) else None

-- the new range of a record, where it has one
unfoldable pub range_of : Pair → Option NewRange
range_of pair = option_and_then (range_in (id_of pair.key)) (ext_value_of (bytes_in pair.value))

-- the new ranges of some records, in their order
abbrev pub ranges_in : List Pair → List NewRange
ranges_in pairs = filter_map range_of pairs

-- the records of the extent reference tree of a root, none where the root is 0
unfoldable pub ext_pairs : List ℕ → Site → ℕ → List Pair
ext_pairs image site root = if root == 0 then [] else flat_of (ext_tree image site) root

-- the new ranges of the tree of a root, in tree order
unfoldable pub ranges_of : List ℕ → Site → ℕ → List NewRange
ranges_of image site root = ranges_in (ext_pairs image site root)

-- the oids of places
abbrev pub oids_of : List NodeAt → List ℕ
oids_of places = map (λ (at : NodeAt). at.oid) places

-- the blocks of the nodes of the tree of a root, in the order of the Line, each as often as it is met; a node's oid is its block
unfoldable pub node_blocks_of : List ℕ → Site → ℕ → List ℕ
node_blocks_of image site root = if root == 0 then [] else oids_of (nodes_of (ext_tree image site) root)
