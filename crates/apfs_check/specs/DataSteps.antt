-- What is told of a volume's data, step by step.
use Rattle.std.specs.Prelude.{◌≡◌, ◌<◌, ◌+◌, ◌^◌, ℕ, false, List, [], map, filter, if◌then◌else◌}
use Rattle.apfs_model.specs.Counts.{given}
use Rattle.apfs_model.specs.Lists.{In}
use Rattle.fs_record.specs.StreamExtents.{extent_blocks, is_hole}
use Rattle.fs_record.specs.declared.extents.FileExt.{FileExt}
use Rattle.vol_view.specs.Volumes.{Loaded}
use Rattle.ext_ref.specs.References.{streams_of}
use Rattle.ext_ref.specs.declared.range.NewRange.{NewRange}
use Rattle.view_rules.specs.declared.notes.Note.{Note}
use Rattle.view_rules.specs.declared.notes.Note.TheVariants.{Count}
use Rattle.apfs_check.specs.Data.{has_no_snapshots, is_miscounted}
use Rattle.apfs_check.specs.declared.fault.Fault.{Fault}
use Rattle.apfs_check.specs.declared.fault.Fault.TheVariants.{DataUnreached, DataCount}

-- a fault is that of one of some runs of unreached blocks
pub record IsRunFault (slot : ℕ) (runs : List (ℕ × ℕ)) (fault : Fault) : Type 0 where
  pub run : ℕ × ℕ
  pub one : In run runs
  pub same : fault ≡ DataUnreached slot run.0 run.1

-- a fault is that of one of some ranges whose counts are wrong, each before the number of its streams
pub record IsCountFault (slot : ℕ) (wrong : List (NewRange × ℕ)) (fault : Fault) : Type 0 where
  pub item : NewRange × ℕ
  pub one : In item wrong
  pub same : fault ≡ DataCount slot item.0.first item.0.count item.1

-- a range before the number of its streams, as it is given
abbrev pub with_streams : ℕ → List (ℕ × FileExt) → NewRange → NewRange × ℕ
with_streams block_size extents r = (r, given (streams_of block_size extents r))

-- the note on such a range
abbrev pub wrong_note : ℕ → NewRange × ℕ → Note
wrong_note slot item = Count slot item.0.first item.0.count item.1

-- the ranges of a volume without snapshots whose counts are wrong, each before the number of its streams
abbrev pub wrong_in : Loaded → ℕ → List NewRange → List (ℕ × FileExt) → List (NewRange × ℕ)
wrong_in volume block_size ranges extents =
    if has_no_snapshots volume then map (with_streams block_size extents) (filter (is_miscounted block_size extents) ranges) else []

-- the extents with a block other than 0 end before block 2^64; each stands after its stream's id
abbrev pub AreShortOrHoles : ℕ → List (ℕ × FileExt) → Type 0
AreShortOrHoles block_size extents = (x : ℕ × FileExt) → In x extents → is_hole x.1 ≡ false → x.1.block + extent_blocks block_size x.1 < 2 ^ 64
