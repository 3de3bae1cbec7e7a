use Rattle.std.proofs.Common.{◌≡◌, ◌≤◌, ◌<◌, ◌+◌, ◌-◌, ℕ, length, Some}
use Rattle.std.specs.List.{slice_get}
use Rattle.fs_record.specs.declared.extents.FileExt.{FileExt}
use Rattle.file_extent.proofs.search.begun.Given as goal

abbrev pub invariant-halve : goal.invariant-halve
invariant-halve l = record {
  order : l.low ≤ l.high;
  inside : l.high ≤ length l.extents;
  before : (k : ℕ) (e : FileExt) → k + 1 ≡ l.low → slice_get l.extents k ≡ Some e → e.logical ≤ l.i;
  after : (e : FileExt) → slice_get l.extents l.high ≡ Some e → l.i < e.logical;
}

abbrev pub decreases-halve : goal.decreases-halve
decreases-halve l = l.high - l.low
