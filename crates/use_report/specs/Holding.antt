-- What is added to the pieces of a view's blocks, and what stops that.
use Rattle.std.specs.Prelude.{◌≡◌, ◌⊎◌, ◌↔◌, ℕ, ◌-◌, ◌^◌, ◌<◌, Bool, true, List, ◌∷◌, Some}
use Rattle.apfs_model.specs.Lists.{In}
use Rattle.obj_base.specs.declared.site.Site.{Site}
use Rattle.bt_cursor.specs.declared.gathering.GatherFault.{GatherFault}
use Rattle.bt_cursor.specs.declared.gathering.GatherFault.TheVariants as gathers
use Rattle.fs_record.specs.Facts.{Fact}
use Rattle.fs_record.specs.StreamExtents.{is_extent_placed}
use Rattle.fs_record.specs.declared.extents.FileExt.{FileExt}
use Rattle.fs_record.specs.declared.fault.RecFault.{RecFault}
use Rattle.vol_view.specs.Volumes.{Loaded}
use Rattle.vol_view.specs.Views.{view_line, IsViewFault}
use Rattle.vol_view.specs.declared.volume.View.{View}
use Rattle.ext_ref.specs.Ranges.{node_blocks_of}
use Rattle.ext_ref.specs.Stops.{IsExtStop}
use Rattle.ext_ref.specs.Scanned.{is_right_tree}
use Rattle.ext_ref.specs.declared.stop.ExtStop.{ExtStop}
use Rattle.ext_ref.specs.declared.stop.ExtStop.TheVariants as extents
use Rattle.view_rules.specs.Rules.{view_facts, IsRecord}
use Rattle.use_report.specs.Counted.{Grows}
use Rattle.use_report.specs.Faults.{HasOutsideExtent}
use Rattle.use_report.specs.Files.{AreOfView, AreWholeFiles, IsNamedBlock, IsCoveredBlock, IsMetadataBlock}
use Rattle.use_report.specs.declared.files.Files.{Files}
use Rattle.use_report.specs.declared.kept.KeptView.{KeptView}
use Rattle.use_report.specs.declared.pieces.Pieces.{Pieces}
use Rattle.use_report.specs.declared.stop.UseFault.{UseFault}
use Rattle.use_report.specs.declared.stop.UseFault.TheVariants.{Walk, Value, Outside}

-- why a view's files can't be gone through, said of the view
abbrev pub of_gather : ℕ → GatherFault → UseFault
of_gather xid (gathers.Tree why) = Walk xid why
of_gather xid (gathers.Refused item) = Value xid item

-- why its extent references can't
abbrev pub of_extents : ℕ → ExtStop → UseFault
of_extents xid (extents.Walk why) = Walk xid why
of_extents xid (extents.Value item) = Value xid item

-- a block of a node of a view's files, or of an extent
abbrev pub IsFilesBlock : Site → Loaded → View → Files → ℕ → Type 0
IsFilesBlock site volume view files block = IsNamedBlock site volume view (view.root_oid ∷ files.below.items) block ⊎ IsCoveredBlock site files.extents.items block

-- the blocks of a view's files were added, and its extents lie in the container
pub record AddsFiles (image : List ℕ) (site : Site) (volume : Loaded) (view : View) (old new : Pieces) : Type 0 where
  pub files : Files
  pub those : AreOfView image site volume view files
  pub grows : Grows old new (IsFilesBlock site volume view files)
  pub placed : (e : FileExt) → In e files.extents.items → is_extent_placed site.block_size site.blocks e ≡ true

-- a fault of a view's files is there
abbrev pub IsFilesFault : List ℕ → Site → Loaded → View → UseFault → Type 0
IsFilesFault image site volume view (Walk xid why) = (xid ≡ view.xid) × IsViewFault image site volume view why
IsFilesFault image site volume view (Value xid item) = (xid ≡ view.xid) × ((why : RecFault) × IsRecord volume.names (view_line image site volume view) item why)
IsFilesFault image site volume view (Outside xid) = (xid ≡ view.xid) × HasOutsideExtent image site volume view

-- a view's files can be gone through, and its extents lie in the container
pub record AreRightFiles (image : List ℕ) (site : Site) (volume : Loaded) (view : View) : Type 0 where
  pub whole : AreWholeFiles image site volume view
  pub placed : (f : Fact FileExt) → In f (view_facts image site volume view).extents → is_extent_placed site.block_size site.blocks f.what ≡ true

-- the nodes of a view's extent reference tree were added
abbrev pub AddsReferences : List ℕ → Site → KeptView → Pieces → Pieces → Type 0
AddsReferences image site kept old new = (is_right_tree image site kept.extents_root ≡ true) × Grows old new (λ block. In block (node_blocks_of image site kept.extents_root))

-- a fault of a view's extent references is there
abbrev pub IsReferencesFault : List ℕ → Site → KeptView → UseFault → Type 0
IsReferencesFault image site kept (Walk xid why) = (xid ≡ kept.view.xid) × IsExtStop image site kept.extents_root (extents.Walk why)
IsReferencesFault image site kept (Value xid item) = (xid ≡ kept.view.xid) × IsExtStop image site kept.extents_root (extents.Value item)
IsReferencesFault image site kept (Outside xid) = ⊥

-- a block that is found in a walk over what a view has
abbrev pub IsWalked : List ℕ → Site → Loaded → KeptView → Files → ℕ → Type 0
IsWalked image site volume kept files block =
    IsFilesBlock site volume kept.view files block
    ⊎ (In block (node_blocks_of image site kept.extents_root)
    ⊎ (IsMetadataBlock site volume kept block
    ⊎ (kept.super_block ≡ Some block)))

-- the blocks that are found in a walk over what a view has were added
pub record IsHoldingOf (image : List ℕ) (site : Site) (volume : Loaded) (kept : KeptView) (old new : Pieces) : Type 0 where
  pub files : Files
  pub those : AreOfView image site volume kept.view files
  pub right : is_right_tree image site kept.extents_root ≡ true
  pub placed : (e : FileExt) → In e files.extents.items → is_extent_placed site.block_size site.blocks e ≡ true
  pub grows : Grows old new (IsWalked image site volume kept files)

-- a test passes for the blocks that are found in such a walk
pub record IsWalkedSet (image : List ℕ) (site : Site) (volume : Loaded) (kept : KeptView) (test : ℕ → Bool) : Type 0 where
  pub files : Files
  pub those : AreOfView image site volume kept.view files
  pub right : is_right_tree image site kept.extents_root ≡ true
  pub placed : (e : FileExt) → In e files.extents.items → is_extent_placed site.block_size site.blocks e ≡ true
  pub has : (block : ℕ) → block < 2 ^ 64 - 1 → (test block ≡ true) ↔ IsWalked image site volume kept files block

-- what a view has can be gone through
pub record IsRightView (image : List ℕ) (site : Site) (volume : Loaded) (kept : KeptView) : Type 0 where
  pub files : AreRightFiles image site volume kept.view
  pub references : is_right_tree image site kept.extents_root ≡ true
