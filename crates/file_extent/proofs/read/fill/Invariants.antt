-- The bytes that are there are those of the stream.
use Rattle.std.proofs.Common.{◌≡◌, ◌≤◌, ◌-◌, ℕ, List, Some, length, take}
use Rattle.apfs_model.specs.Kept.{IsKept}
use Rattle.file_extent.specs.Streams.{bytes_from}
use Rattle.file_extent.proofs.read.fill.Given as goal

abbrev pub invariant-loop-done : goal.invariant-loop-done
invariant-loop-done g l = record {
  bound : l.done ≤ length l.into;
  kept : IsKept g.S.BlockSource.bytes g.S.BlockSource.bytes_len g.S.BlockSource.faults l.initial.src l.src;
  found : (image : List ℕ) → g.S.BlockSource.bytes l.initial.src ≡ Some image → take l.done l.into ≡ bytes_from l.site.block_size image l.extents l.from l.done;
}

abbrev pub decreases-loop-done : goal.decreases-loop-done
decreases-loop-done g l = length l.into - l.done
