-- What the call that counts the blocks of views answers.
use Rattle.std.specs.Prelude.{◌⊎◌, ℕ, List}
use Rattle.apfs_model.specs.Lists.{In}
use Rattle.obj_base.specs.declared.stop.Feature.{Feature}
use Rattle.obj_base.specs.declared.site.Site.{Site}
use Rattle.nx_ring.specs.Checkpoint.{Seen, site_of}
use Rattle.vol_view.specs.Volumes.{Loaded}
use Rattle.vol_view.specs.Views.{IsViewFeature}
use Rattle.ext_ref.specs.Scanned.{IsExtFeature}
use Rattle.use_report.specs.Views.{views_kept}
use Rattle.use_report.specs.declared.kept.KeptView.{KeptView}

-- a feature of a node of a view's files, or of its extent references, is there, in this block
abbrev pub IsUseFeatureIn : List ℕ → Site → Loaded → KeptView → Feature → ℕ → Type 0
IsUseFeatureIn image site volume kept feature block = IsViewFeature image site volume kept.view feature block ⊎ IsExtFeature image site kept.extents_root feature block

-- a feature is there in a view of a volume
pub record IsUseFeature (image : List ℕ) (seen : Seen) (volume : Loaded) (feature : Feature) (block : ℕ) : Type 0 where
  pub kept : KeptView
  pub one : In kept (views_kept volume seen)
  pub there : IsUseFeatureIn image (site_of seen) volume kept feature block
