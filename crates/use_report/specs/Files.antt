-- What was read of the files of a view, and which blocks that tells of.
use Rattle.std.specs.Prelude.{◌≡◌, ℕ, true, false, ◌==◌, List, ◌∷◌, map, Some}
use Rattle.apfs_model.specs.Blocks.{is_in}
use Rattle.apfs_model.specs.Lists.{In}
use Rattle.obj_base.specs.declared.site.Site.{Site}
use Rattle.bt_node.specs.declared.node.NodeAt.{NodeAt}
use Rattle.std.specs.List.{list_any}
use Rattle.bt_cursor.specs.Tree.{Tree}
use Rattle.bt_cursor.specs.Flat.{flat_of}
use Rattle.bt_cursor.specs.WholeTree.{IsWhole}
use Rattle.bt_cursor.specs.Gathered.{node_ids, IsRefused}
use Rattle.bt_cursor.specs.declared.gathering.GatherFault.{GatherFault}
use Rattle.bt_cursor.specs.declared.gathering.GatherFault.TheVariants as gathers
use Rattle.fs_record.specs.Facts.{extents_of}
use Rattle.fs_record.specs.StreamExtents.{extent_blocks, is_hole, is_extent_placed}
use Rattle.fs_record.specs.declared.extents.FileExt.{FileExt}
use Rattle.vol_view.specs.Volumes.{Loaded}
use Rattle.vol_view.specs.Views.{view_line, view_named, is_view_walkable, is_view_ordered, is_view_counted, IsViewFault}
use Rattle.vol_view.specs.Placed.{view_nodes}
use Rattle.vol_view.specs.declared.volume.View.{View}
use Rattle.view_rules.specs.Rules.{view_facts}
use Rattle.use_report.specs.Gathered.{said, is_refused}
use Rattle.use_report.specs.declared.files.Files.{Files}
use Rattle.use_report.specs.declared.kept.KeptView.{KeptView}

-- a whole tree was gone through: the ids of the nodes below its root, and the extents
pub record AreOfTree {K : Type 0} (tree : Tree K) (root : ℕ) (files : Files) : Type 0 where
  pub whole : IsWhole tree root
  pub nodes : root ∷ files.below.items ≡ node_ids tree root
  pub extents : files.extents.items ≡ said (extents_of (flat_of tree root))

-- the files of a view were gone through: its tree is walkable, and these are the ids of the nodes below its root, and its extents
pub record AreOfView (image : List ℕ) (site : Site) (volume : Loaded) (view : View) (files : Files) : Type 0 where
  pub walkable : is_view_walkable image site volume view ≡ true
  pub nodes : view.root_oid ∷ files.below.items ≡ map (λ (at : NodeAt). at.oid) (view_nodes image site volume view)
  pub extents : files.extents.items ≡ said (view_facts image site volume view).extents

-- why the files of a view can't be gone through is there
abbrev pub IsViewStop : List ℕ → Site → Loaded → View → GatherFault → Type 0
IsViewStop image site volume view (gathers.Tree why) = IsViewFault image site volume view why
IsViewStop image site volume view (gathers.Refused item) = IsRefused is_refused (view_line image site volume view) item

-- the tree of a view is whole, and the records of its extents can be read
pub record AreWholeFiles (image : List ℕ) (site : Site) (volume : Loaded) (view : View) : Type 0 where
  pub walkable : is_view_walkable image site volume view ≡ true
  pub ordered : is_view_ordered image site volume view ≡ true
  pub counted : is_view_counted image site volume view ≡ true
  pub readable : list_any is_refused (view_line image site volume view) ≡ false

-- a block that one of some ids names in a view
abbrev pub IsNamedBlock : Site → Loaded → View → List ℕ → ℕ → Type 0
IsNamedBlock site volume view oids block = (oid : ℕ) × In oid oids × (view_named site volume view oid ≡ Some block)

-- a block that an extent covers, which isn't a hole
abbrev pub IsOfExtent : Site → FileExt → ℕ → Type 0
IsOfExtent site e block = (is_hole e ≡ false) × (is_in block e.block (extent_blocks site.block_size e) ≡ true)

-- a block that one of some extents covers
abbrev pub IsCoveredBlock : Site → List FileExt → ℕ → Type 0
IsCoveredBlock site extents block = (e : FileExt) × In e extents × IsOfExtent site e block

-- one of some extents leaves the container
abbrev pub LeavesOne : Site → List FileExt → Type 0
LeavesOne site extents = (e : FileExt) × In e extents × (is_extent_placed site.block_size site.blocks e ≡ false)

-- a block that extended metadata has in a view, where there are some
abbrev pub IsMetadataBlock : Site → Loaded → KeptView → ℕ → Type 0
IsMetadataBlock site volume kept block = ((kept.meta_ext == 0) ≡ false) × (view_named site volume kept.view kept.meta_ext ≡ Some block)
