-- What a walk over the leaves of a tree tells of it.
use Rattle.std.specs.Prelude.{◌≡◌, ℕ, List, Option, Some}
use Rattle.obj_base.specs.declared.site.Site.{Site}
use Rattle.bt_node.specs.Shape.{Shape}
use Rattle.bt_cursor.specs.Tree.{block_named, tree_in}
use Rattle.bt_cursor.specs.Flat.{flat_of}
use Rattle.bt_cursor.specs.Met.{places_of}
use Rattle.bt_cursor.specs.WholeTree.{IsWhole}
use Rattle.view_change.specs.declared.leaf.Leaf.{Leaf}
use Rattle.view_change.specs.Leaves.{leaves_at, records_in}

-- the id of a leaf names its block
abbrev pub IsNamed : Site → (ℕ → Option ℕ) → Leaf → Type 0
IsNamed site named leaf = block_named site named leaf.oid ≡ Some leaf.block

-- a tree of an image is whole, and leaves were taken, which are all of its leaves and whose records are its flat list
pub record IsTaken {K : Type 0} (shape : Shape K) (site : Site) (named : ℕ → Option ℕ) (image : List ℕ) (root : ℕ) (holds : List Leaf → Type 0) : Type 0 where
  pub leaves : List Leaf
  pub held : holds leaves
  pub all : leaves ≡ leaves_at site named (places_of (tree_in shape site named image) root)
  pub whole : IsWhole (tree_in shape site named image) root
  pub flat : flat_of (tree_in shape site named image) root ≡ records_in shape site image leaves
