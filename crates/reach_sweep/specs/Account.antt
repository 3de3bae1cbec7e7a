-- What an account of a container takes, and what it tells.
use Rattle.std.specs.Prelude.{◌≡◌, ℕ, List, map}
use Rattle.apfs_model.specs.Lists.{In}
use Rattle.nx_ring.specs.Checkpoint.{Seen, site_of}
use Rattle.vol_view.specs.Volumes.{Loaded}
use Rattle.vol_view.specs.LoadStops.{IsVolumeOf}
use Rattle.vol_view.specs.declared.head.VolHead.{VolHead}
use Rattle.reach_sweep.specs.Views.{head_of}

-- the volumes of some heads were loaded, in their order
pub record AreLoadedOf (image : List ℕ) (seen : Seen) (heads : List VolHead) (volumes : List Loaded) : Type 0 where
  pub heads_are : heads ≡ map head_of volumes
  pub loaded : (volume : Loaded) → In volume volumes → IsVolumeOf image (site_of seen) volume.head volume

-- how many objects are named, and how many blocks are owned
pub record Counted : Type 0 where
  pub objects : ℕ
  pub owned : ℕ
