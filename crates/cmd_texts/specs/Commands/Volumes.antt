-- The command `volumes`: the volumes of the newest checkpoint.
use Rattle.std.specs.Prelude.{◌≡◌, ◌⊎◌, ℕ, List, codes}
use Rattle.std.specs.Fmt.{decimal}
use Rattle.std.specs.List.{flat_map}
use Rattle.obj_base.specs.declared.stop.Feature.{Feature}
use Rattle.fs_name.specs.declared.naming.Names.{Names}
use Rattle.fs_name.specs.declared.naming.Names.TheVariants.{Exact, Normal, Folded}
use Rattle.fs_name.specs.Normal.{names_of}
use Rattle.fs_name.specs.Shown.{shown_name}
use Rattle.nx_ring.specs.Checkpoint.{Seen}
use Rattle.vol_view.specs.declared.head.VolHead.{VolHead}
use Rattle.vol_view.specs.Stops.{AreHeads}
use Rattle.apfs_check.specs.declared.fault.Fault.{Fault}
use Rattle.cmd_texts.specs.Checkpoints.{IsNewest, IsCheckpointFault, IsCheckpointFeature, IsVolumesFault, IsVolumesFeature}
use Rattle.cmd_lines.specs.Names.{uuid_text}
use Rattle.cmd_lines.specs.Texts.{◌▹◌}

-- how a volume compares names
abbrev pub names_word : Names → List ℕ
names_word Exact = codes "exact"
names_word Normal = codes "normal"
names_word Folded = codes "folded"

-- the line of a volume up to its name: its slot, its identifier, its role, how it compares names, its number of snapshots
abbrev pub prefix_text : VolHead → List ℕ
prefix_text head =
    decimal head.slot ▹ codes " " ▹ uuid_text head.uuid ▹ codes " " ▹ decimal head.role ▹ codes " " ▹ names_word (names_of head.incompat)
    ▹ codes " " ▹ decimal head.snapshots ▹ codes " "

-- the line of a volume
abbrev pub volume_text : VolHead → List ℕ
volume_text head = (prefix_text head ▹ shown_name head.name) ▹ codes "\n"

-- a line for each volume
abbrev pub volumes_text : List VolHead → List ℕ
volumes_text heads = flat_map volume_text heads

-- the text
abbrev pub IsText : List ℕ → List ℕ → Type 0
IsText image text = (seen : Seen) × (heads : List VolHead) × IsNewest image seen × AreHeads image seen heads × (text ≡ volumes_text heads)

-- the fault that is named
abbrev pub IsFault : List ℕ → Fault → Type 0
IsFault image fault = IsCheckpointFault image fault ⊎ IsVolumesFault image fault

-- the feature that is refused
abbrev pub IsFeature : List ℕ → Feature → ℕ → Type 0
IsFeature image feature block = IsCheckpointFeature image feature block ⊎ IsVolumesFeature image feature block
