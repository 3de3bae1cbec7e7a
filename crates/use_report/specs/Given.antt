-- What is known of a volume whose blocks are counted.
use Rattle.std.specs.Prelude.{ℕ, List}
use Rattle.apfs_model.specs.Lists.{In}
use Rattle.nx_ring.specs.Checkpoint.{Seen, site_of}
use Rattle.vol_view.specs.Heads.{heads_of}
use Rattle.vol_view.specs.LoadStops.{IsVolumeOf}
use Rattle.vol_view.specs.Stops.{AreRight}
use Rattle.vol_view.specs.Views.{views_of}
use Rattle.vol_view.specs.Volumes.{Loaded}
use Rattle.vol_view.specs.declared.volume.View.{View}
use Rattle.ext_ref.specs.declared.range.NewRange.{NewRange}
use Rattle.reach_rules.specs.Accounted.{IsAccounted}
use Rattle.view_rules.specs.Rules.{HasTreeRules}
use Rattle.view_rules.specs.declared.profile.Profile.{Profile}

-- a volume is what `load` gives for one of the heads that `heads` gives
pub record IsGiven (image : List ℕ) (seen : Seen) (volume : Loaded) : Type 0 where
  pub heads : AreRight image seen
  pub one : In volume.head (heads_of image seen)
  pub loaded : IsVolumeOf image (site_of seen) volume.head volume

-- the container is accounted, and each view of the volume meets its rules
pub record IsRight (image : List ℕ) (seen : Seen) (volume : Loaded) : Type 0 where
  pub accounted : IsAccounted image seen
  pub views : (view : View) → In view (views_of volume seen) → (profile : Profile) × (ranges : List NewRange) × HasTreeRules profile image (site_of seen) volume view ranges
