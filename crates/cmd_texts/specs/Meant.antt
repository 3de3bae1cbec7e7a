-- The volume that is meant.
use Rattle.std.specs.Prelude.{◌≡◌, ◌⊎◌, ℕ, ◌==◌, List, [], ◌∷◌, find, Option, None, Some}
use Rattle.obj_base.specs.declared.stop.Feature.{Feature}
use Rattle.nx_ring.specs.Checkpoint.{Seen, site_of}
use Rattle.vol_view.specs.declared.head.VolHead.{VolHead}
use Rattle.vol_view.specs.declared.stop.VolStop.{VolStop}
use Rattle.vol_view.specs.Heads.{heads_of}
use Rattle.vol_view.specs.Stops.{AreRight}
use Rattle.vol_view.specs.Volumes.{Loaded}
use Rattle.vol_view.specs.LoadStops.{IsLoadStop, IsLoadFeature, IsVolumeOf}
use Rattle.apfs_check.specs.declared.fault.Fault.{Fault}
use Rattle.apfs_check.specs.Raised.{of_volume}
use Rattle.cmd_texts.specs.Checkpoints.{IsNewest, IsCheckpointFault, IsCheckpointFeature, IsVolumesFault, IsVolumesFeature}

-- the slot that is meant: the one that is named; otherwise the least that holds a volume, and 0 where none does. Volumes stand by slot
abbrev pub meant_slot : Option ℕ → List VolHead → ℕ
meant_slot (Some slot) heads = slot
meant_slot None [] = 0
meant_slot None (head ∷ heads) = head.slot

-- the volume in a slot, where the slot holds one
abbrev pub held_in : ℕ → List VolHead → Option VolHead
held_in slot heads = find (λ (head : VolHead). head.slot == slot) heads

-- the volume that is meant, where the slot that is meant holds one
abbrev pub meant_head : Option ℕ → List VolHead → Option VolHead
meant_head named heads = held_in (meant_slot named heads) heads

-- the newest checkpoint, whose volumes are right, and what the slot that is meant holds
pub record IsMeant (image : List ℕ) (named : Option ℕ) (seen : Seen) (held : Option VolHead) : Type 0 where
  pub newest : IsNewest image seen
  pub right : AreRight image seen
  pub same : held ≡ meant_head named (heads_of image seen)

-- the volume that is meant, by its head
pub record IsMeantVolume (image : List ℕ) (named : Option ℕ) (seen : Seen) (head : VolHead) (volume : Loaded) : Type 0 where
  pub meant : IsMeant image named seen (Some head)
  pub loaded : IsVolumeOf image (site_of seen) head volume

-- there is a volume that is meant
pub record HasVolume (image : List ℕ) (named : Option ℕ) : Type 0 where
  pub seen : Seen
  pub head : VolHead
  pub volume : Loaded
  pub is : IsMeantVolume image named seen head volume

-- the slot that is meant holds no volume
pub record HasNoVolume (image : List ℕ) (named : Option ℕ) : Type 0 where
  pub seen : Seen
  pub is : IsMeant image named seen None

-- a fault of the volume that is meant
pub record IsVolumeFault (image : List ℕ) (named : Option ℕ) (fault : Fault) : Type 0 where
  pub seen : Seen
  pub head : VolHead
  pub why : VolStop
  pub meant : IsMeant image named seen (Some head)
  pub there : IsLoadStop image (site_of seen) head why
  pub same : fault ≡ of_volume seen.line.xid why

-- a feature of the volume that is meant
pub record IsVolumeFeature (image : List ℕ) (named : Option ℕ) (feature : Feature) (block : ℕ) : Type 0 where
  pub seen : Seen
  pub head : VolHead
  pub meant : IsMeant image named seen (Some head)
  pub there : IsLoadFeature image (site_of seen) head feature block

-- a fault on the way to the volume that is meant: of the checkpoint, of the volumes, or of that volume
abbrev pub IsMeantFault : List ℕ → Option ℕ → Fault → Type 0
IsMeantFault image named fault = IsCheckpointFault image fault ⊎ (IsVolumesFault image fault ⊎ IsVolumeFault image named fault)

-- a feature on the way to the volume that is meant
abbrev pub IsMeantFeature : List ℕ → Option ℕ → Feature → ℕ → Type 0
IsMeantFeature image named feature block =
    IsCheckpointFeature image feature block ⊎ (IsVolumesFeature image feature block ⊎ IsVolumeFeature image named feature block)
