-- What commands on the newest checkpoint say.
use Rattle.std.specs.Prelude.{◌≡◌, ℕ, List, [], Ok}
use Rattle.obj_base.specs.declared.stop.Feature.{Feature}
use Rattle.nx_ring.specs.declared.fault.RingFault.{RingFault}
use Rattle.nx_ring.specs.Ring.{IsRingFault, IsRingFeature}
use Rattle.nx_ring.specs.Checkpoint.{Seen}
use Rattle.nx_ring.specs.Features.{container_features}
use Rattle.nx_ring.specs.Newest.{newest_of, IsFault as IsNewestFault, IsFeature as IsNewestFeature}
use Rattle.vol_view.specs.declared.stop.VolStop.{VolStop}
use Rattle.vol_view.specs.Stops.{IsHeadsStop, IsHeadsFeature}
use Rattle.apfs_check.specs.declared.fault.Fault.{Fault}
use Rattle.apfs_check.specs.Raised.{of_ring, of_volume}

-- the newest checkpoint of a container without a feature that is refused
pub record IsNewest (image : List ℕ) (seen : Seen) : Type 0 where
  pub newest : newest_of image ≡ Ok seen
  pub plain : container_features seen.nx ≡ []

-- a fault for which there is no newest checkpoint: it is there, and the first of those that are looked for
abbrev pub IsCheckpointFault : List ℕ → Fault → Type 0
IsCheckpointFault image fault = (why : RingFault) × IsNewestFault image why × IsRingFault image why × (fault ≡ of_ring why)

-- a feature for which there is no such checkpoint: it is there, and no fault comes before it
abbrev pub IsCheckpointFeature : List ℕ → Feature → ℕ → Type 0
IsCheckpointFeature image feature block = IsNewestFeature image feature block × IsRingFeature image feature block

-- a fault of the volumes of the newest checkpoint
abbrev pub IsVolumesFault : List ℕ → Fault → Type 0
IsVolumesFault image fault = (seen : Seen) × (why : VolStop) × IsNewest image seen × IsHeadsStop image seen why × (fault ≡ of_volume seen.line.xid why)

-- a feature of the volumes of the newest checkpoint
abbrev pub IsVolumesFeature : List ℕ → Feature → ℕ → Type 0
IsVolumesFeature image feature block = (seen : Seen) × IsNewest image seen × IsHeadsFeature image seen feature block
