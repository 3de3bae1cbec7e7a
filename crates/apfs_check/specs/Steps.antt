-- What is known of a container at the steps of its check.
use Rattle.std.specs.Prelude.{◌≡◌, ℕ, List, ◌∷◌, Ok}
use Rattle.apfs_model.specs.Lists.{In}
use Rattle.obj_base.specs.Stops.{Tells}
use Rattle.obj_base.specs.declared.stop.Stop.{Stop}
use Rattle.nx_ring.specs.Checkpoint.{Seen, site_of}
use Rattle.nx_ring.specs.Newest.{newest_of}
use Rattle.vol_view.specs.Heads.{heads_of}
use Rattle.vol_view.specs.Stops.{AreHeads}
use Rattle.vol_view.specs.Volumes.{Loaded}
use Rattle.vol_view.specs.LoadStops.{IsVolumeOf}
use Rattle.vol_view.specs.declared.head.VolHead.{VolHead}
use Rattle.vol_view.specs.declared.volume.Snapshot.{Snapshot}
use Rattle.reach_sweep.specs.Account.{AreLoadedOf}
use Rattle.view_rules.specs.declared.profile.Profile.{Profile}
use Rattle.apfs_check.specs.Volumes.{sound_heads, volume_of, past_extents_roots}
use Rattle.apfs_check.specs.Present.{IsPresent, IsFeature}
use Rattle.apfs_check.specs.declared.fault.Fault.{Fault}

-- a fault or a feature that a stop tells of is there
abbrev pub IsThere : Profile → List ℕ → Stop Fault → Type 0
IsThere profile image = Tells (IsPresent profile image) (IsFeature image)

-- all volumes of the newest checkpoint's container were loaded, by slot
pub record AreReady (image : List ℕ) (seen : Seen) (volumes : List Loaded) : Type 0 where
  pub newest : newest_of image ≡ Ok seen
  pub heads : AreHeads image seen (heads_of image seen)
  pub loaded : AreLoadedOf image seen (heads_of image seen) volumes

-- a volume of the newest checkpoint's container was loaded
pub record IsReady (image : List ℕ) (seen : Seen) (volume : Loaded) : Type 0 where
  pub newest : newest_of image ≡ Ok seen
  pub sound : In volume.head (sound_heads image seen)
  pub loaded : IsVolumeOf image (site_of seen) volume.head volume

-- a root of the extent reference trees of a volume and of its snapshots
abbrev pub IsExtentsRoot : List ℕ → Seen → VolHead → ℕ → Type 0
IsExtentsRoot image seen head root = In root ((volume_of image seen head).extents_root ∷ past_extents_roots image (site_of seen) head)

-- the root of a snapshot's extent reference tree
abbrev pub snapshot_root : Snapshot → ℕ
snapshot_root s = s.extents_root
