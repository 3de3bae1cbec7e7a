-- The command `info`: the newest checkpoint.
use Rattle.std.specs.Prelude.{◌≡◌, ℕ, ◌-◌, List, length, codes}
use Rattle.std.specs.Fmt.{decimal}
use Rattle.obj_base.specs.declared.stop.Feature.{Feature}
use Rattle.nx_block.specs.Super.{uuid_of, block_size_of, block_count_of}
use Rattle.nx_ring.specs.Checkpoint.{Seen}
use Rattle.apfs_check.specs.declared.fault.Fault.{Fault}
use Rattle.cmd_texts.specs.Checkpoints.{IsNewest, IsCheckpointFault, IsCheckpointFeature}
use Rattle.cmd_lines.specs.Names.{uuid_text}
use Rattle.cmd_lines.specs.Texts.{◌▹◌}

-- a container: its identifier, its block size in bytes, and its number of blocks
abbrev pub container_text : List ℕ → List ℕ
container_text nx =
    codes "uuid " ▹ uuid_text (uuid_of nx)
    ▹ codes "\nblock size " ▹ decimal (block_size_of nx)
    ▹ codes "\nblocks " ▹ decimal (block_count_of nx) ▹ codes "\n"

-- a checkpoint: its transaction and the block of its superblock, the numbers of its maps and of the objects that they map, and that of the candidates before which it stands
abbrev pub checkpoint_text : Seen → List ℕ
checkpoint_text seen =
    codes "checkpoint xid " ▹ decimal seen.line.xid ▹ codes " block " ▹ decimal seen.line.block
    ▹ codes "\nmaps " ▹ decimal (seen.line.desc_len - 1) ▹ codes " objects " ▹ decimal (length seen.mapped)
    ▹ codes "\nskipped " ▹ decimal (length seen.skipped) ▹ codes "\n"

-- the six lines of a container and its newest checkpoint
abbrev pub info_text : Seen → List ℕ
info_text seen = container_text seen.nx ▹ checkpoint_text seen

-- the text
abbrev pub IsText : List ℕ → List ℕ → Type 0
IsText image text = (seen : Seen) × IsNewest image seen × (text ≡ info_text seen)

-- the fault that is named
abbrev pub IsFault : List ℕ → Fault → Type 0
IsFault image fault = IsCheckpointFault image fault

-- the feature that is refused
abbrev pub IsFeature : List ℕ → Feature → ℕ → Type 0
IsFeature image feature block = IsCheckpointFeature image feature block
