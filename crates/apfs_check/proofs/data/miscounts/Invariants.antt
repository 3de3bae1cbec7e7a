use Rattle.std.proofs.Common.{◌≡◌, ℕ, List, map, take}
use Rattle.std.specs.Prelude.{filter}
use Rattle.fs_record.specs.declared.extents.FileExt.{FileExt}
use Rattle.ext_ref.specs.Scanned.{references_of}
use Rattle.apfs_check.specs.Data.{is_miscounted}
use Rattle.apfs_check.specs.DataSteps.{with_streams}
use Rattle.apfs_check.proofs.data.miscounts.Given as goal

abbrev pub invariant-each : goal.invariant-each
invariant-each l = (block_size : ℕ) (extents : List (ℕ × FileExt)) → l.counts ≡ references_of block_size l.ranges extents → l.wrong.items ≡ map (with_streams block_size extents) (filter (is_miscounted block_size extents) (take l.i l.ranges))
