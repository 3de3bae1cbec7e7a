-- The command `snapshots`: the snapshots of the volume that is meant.
use Rattle.std.specs.Prelude.{◌≡◌, ℕ, List, Option, codes}
use Rattle.std.specs.Fmt.{decimal}
use Rattle.std.specs.List.{flat_map}
use Rattle.obj_base.specs.declared.stop.Feature.{Feature}
use Rattle.fs_name.specs.Shown.{shown_name}
use Rattle.nx_ring.specs.Checkpoint.{Seen}
use Rattle.vol_view.specs.declared.head.VolHead.{VolHead}
use Rattle.vol_view.specs.declared.volume.Snapshot.{Snapshot}
use Rattle.vol_view.specs.Volumes.{Loaded}
use Rattle.apfs_check.specs.declared.fault.Fault.{Fault}
use Rattle.path_search.specs.declared.answer.Answer.{Answer}
use Rattle.path_search.specs.declared.answer.Answer.TheVariants.{NoVolume}
use Rattle.cmd_texts.specs.Meant.{IsMeantVolume, HasNoVolume, IsMeantFault, IsMeantFeature}
use Rattle.cmd_lines.specs.Texts.{◌▹◌}

-- the line of a snapshot: its transaction, when it was made, in nanoseconds, and its name
abbrev pub snapshot_text : Snapshot → List ℕ
snapshot_text snapshot = ((decimal snapshot.xid ▹ codes " " ▹ decimal snapshot.created ▹ codes " ") ▹ shown_name snapshot.name) ▹ codes "\n"

-- a line for each snapshot, by transaction
abbrev pub snapshots_text : List Snapshot → List ℕ
snapshots_text snapshots = flat_map snapshot_text snapshots

-- the text
abbrev pub IsText : Option ℕ → List ℕ → List ℕ → Type 0
IsText named image text =
    (seen : Seen) × (head : VolHead) × (volume : Loaded) × IsMeantVolume image named seen head volume × (text ≡ snapshots_text volume.snaps)

-- the answer: the slot that is meant holds no volume
abbrev pub IsAnswer : Option ℕ → List ℕ → Answer → Type 0
IsAnswer named image answer = (answer ≡ NoVolume) × HasNoVolume image named

-- the fault that is named
abbrev pub IsFault : Option ℕ → List ℕ → Fault → Type 0
IsFault named image fault = IsMeantFault image named fault

-- the feature that is refused
abbrev pub IsFeature : Option ℕ → List ℕ → Feature → ℕ → Type 0
IsFeature named image feature block = IsMeantFeature image named feature block
