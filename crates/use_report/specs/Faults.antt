-- What is there where the blocks of a view can't be counted.
use Rattle.std.specs.Prelude.{◌≡◌, ◌⊎◌, ℕ, false, List}
use Rattle.apfs_model.specs.Blocks.{is_inside}
use Rattle.apfs_model.specs.Lists.{In}
use Rattle.obj_base.specs.declared.site.Site.{Site}
use Rattle.nx_ring.specs.Checkpoint.{Seen, site_of}
use Rattle.bt_cursor.specs.declared.fault.WalkFault.{WalkFault}
use Rattle.fs_record.specs.Facts.{Fact}
use Rattle.fs_record.specs.StreamExtents.{is_extent_placed}
use Rattle.fs_record.specs.declared.extents.FileExt.{FileExt}
use Rattle.fs_record.specs.declared.fault.RecFault.{RecFault}
use Rattle.vol_view.specs.Volumes.{Loaded}
use Rattle.vol_view.specs.Views.{view_line, IsViewFault}
use Rattle.vol_view.specs.declared.volume.View.{View}
use Rattle.ext_ref.specs.Ranges.{ranges_of}
use Rattle.ext_ref.specs.Stops.{IsExtStop}
use Rattle.ext_ref.specs.declared.range.NewRange.{NewRange}
use Rattle.ext_ref.specs.declared.stop.ExtStop.TheVariants as extents
use Rattle.view_rules.specs.Rules.{view_facts, IsRecord}
use Rattle.use_report.specs.Views.{views_kept}
use Rattle.use_report.specs.declared.kept.KeptView.{KeptView}
use Rattle.use_report.specs.declared.stop.UseFault.{UseFault}
use Rattle.use_report.specs.declared.stop.UseFault.TheVariants.{Walk, Value, Outside}

-- a walk of a view's files, or of its extent references, names this
abbrev pub IsWalkIn : List ℕ → Site → Loaded → KeptView → WalkFault → Type 0
IsWalkIn image site volume kept why = IsViewFault image site volume kept.view why ⊎ IsExtStop image site kept.extents_root (extents.Walk why)

-- a record of a view's files, or of its extent references, can't be read
abbrev pub IsValueIn : List ℕ → Site → Loaded → KeptView → ℕ → Type 0
IsValueIn image site volume kept item =
    ((why : RecFault) × IsRecord volume.names (view_line image site volume kept.view) item why)
    ⊎ IsExtStop image site kept.extents_root (extents.Value item)

-- an extent of a view, which isn't a hole, leaves the container
pub record HasOutsideExtent (image : List ℕ) (site : Site) (volume : Loaded) (view : View) : Type 0 where
  pub extent : Fact FileExt
  pub one : In extent (view_facts image site volume view).extents
  pub leaves : is_extent_placed site.block_size site.blocks extent.what ≡ false

-- a new range of a view's extent references leaves the container
pub record HasOutsideRange (image : List ℕ) (site : Site) (kept : KeptView) : Type 0 where
  pub range : NewRange
  pub one : In range (ranges_of image site kept.extents_root)
  pub leaves : is_inside range.first range.length site.blocks ≡ false

-- what is named is there in a view of its transaction
abbrev pub IsUseFaultIn : List ℕ → Site → Loaded → KeptView → UseFault → Type 0
IsUseFaultIn image site volume kept (Walk xid why) = (xid ≡ kept.view.xid) × IsWalkIn image site volume kept why
IsUseFaultIn image site volume kept (Value xid item) = (xid ≡ kept.view.xid) × IsValueIn image site volume kept item
IsUseFaultIn image site volume kept (Outside xid) = (xid ≡ kept.view.xid) × (HasOutsideExtent image site volume kept.view ⊎ HasOutsideRange image site kept)

-- a fault is there in a view of a volume
pub record IsUseFault (image : List ℕ) (seen : Seen) (volume : Loaded) (fault : UseFault) : Type 0 where
  pub kept : KeptView
  pub one : In kept (views_kept volume seen)
  pub there : IsUseFaultIn image (site_of seen) volume kept fault
