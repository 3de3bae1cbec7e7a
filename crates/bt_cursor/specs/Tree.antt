-- A tree: what its keys are, and how its nodes are found (B-Trees, btree_node_phys_t).
use Rattle.std.specs.Prelude.{ℕ, true, false, List, Option, None, Some, option_and_then, Result, Ok, Err}
use Rattle.apfs_model.specs.Blocks.{block_of, in_container}
use Rattle.apfs_model.specs.Lists.{value_of}
use Rattle.obj_base.specs.declared.stop.Bad.{Bad}
use Rattle.obj_base.specs.declared.stop.Bad.TheVariants as bads
use Rattle.obj_base.specs.declared.stop.Stop.{Stop}
use Rattle.obj_base.specs.declared.stop.Stop.TheVariants as stops
use Rattle.bt_node.specs.Shape.{Shape}
use Rattle.apfs_model.specs.Bytes.{u64_at}
use Rattle.bt_node.specs.Entries.{Pair, bytes_in}
use Rattle.bt_node.specs.Soundness.{node_of}
use Rattle.obj_base.specs.declared.site.Site.{Site}
use Rattle.bt_node.specs.declared.node.NodeAt.{NodeAt}
use Rattle.bt_node.specs.declared.fault.NodeFault.{NodeFault}
use Rattle.bt_cursor.specs.declared.fault.WalkFault.{WalkFault}
use Rattle.bt_cursor.specs.declared.fault.WalkFault.TheVariants.{Unsound, Unnamed}

-- a look-up from the place of a node to its bytes, or to the reason why there is no such node
abbrev pub Look : Type 0
Look = NodeAt → Result (List ℕ) (Stop WalkFault)

-- a tree: its kind of keys, and the look-up of its nodes
pub record Tree (K : Type 0) : Type 0 where
  pub shape : Shape K
  pub look : Look

abbrev pub tree_by : {K : Type 0} → Shape K → Look → Tree K
tree_by shape look = record { shape = shape; look = look }

-- the place of a root: a root node of any level
abbrev pub root_place : ℕ → NodeAt
root_place oid = record { oid = oid; root = true; level = None }

-- the child that an entry above the leaves names: the oid at the start of its value
abbrev pub child_in : Pair → ℕ
child_in pair = u64_at (bytes_in pair.value) 0

-- the place of an entry's child: another node, of the level below
abbrev pub child_place : ℕ → Pair → NodeAt
child_place level pair = record { oid = child_in pair; root = false; level = Some level }

-- the node at a place, where there is one
abbrev pub node_at : {K : Type 0} → Tree K → NodeAt → Option (List ℕ)
node_at tree at = value_of (tree.look at)

-- what the tests of a node say of a block
abbrev pub judged : ℕ → Result (List ℕ) (Bad NodeFault) → Result (List ℕ) (Stop WalkFault)
judged block (Ok node) = Ok node
judged block (Err (bads.Found why)) = Err (stops.Found (Unsound block why))
judged block (Err (bads.Unsupported feature)) = Err (stops.Unsupported feature block)

-- the node in the block that a place's id names
abbrev pub node_named : {K : Type 0} → Shape K → Site → List ℕ → NodeAt → Option ℕ → Result (List ℕ) (Stop WalkFault)
node_named shape site image at None = Err (stops.Found (Unnamed at.oid))
node_named shape site image at (Some block) = judged block (node_of shape at site (block_of site.block_size image block))

-- the block that an id names, where it is above 0 and in the container
abbrev pub block_named : Site → (ℕ → Option ℕ) → ℕ → Option ℕ
block_named site named oid = option_and_then (in_container site.blocks) (named oid)

-- the look-up of nodes in an image
abbrev pub look_in : {K : Type 0} → Shape K → Site → (ℕ → Option ℕ) → List ℕ → Look
look_in shape site named image at = node_named shape site image at (block_named site named at.oid)

-- the trees of an image, by what names their blocks
abbrev pub tree_in : {K : Type 0} → Shape K → Site → (ℕ → Option ℕ) → List ℕ → Tree K
tree_in shape site named image = tree_by shape (look_in shape site named image)
