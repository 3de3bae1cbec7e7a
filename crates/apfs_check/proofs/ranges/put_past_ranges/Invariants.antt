use Rattle.std.proofs.Common.{◌≡◌, ◌+◌, ◌≤◌, ◌++◌, ℕ, List, Some, map, take}
use Rattle.std.specs.Prelude.{flat_map, sum}
use Rattle.apfs_model.specs.Kept.{IsKept}
use Rattle.nx_ring.specs.Checkpoint.{site_of}
use Rattle.ext_ref.specs.Left.{AreShort}
use Rattle.ext_ref.specs.Ranges.{ranges_of}
use Rattle.apfs_check.specs.Reads.{root_reads}
use Rattle.apfs_check.specs.Steps.{snapshot_root}
use Rattle.apfs_check.proofs.ranges.put_past_ranges.Given as goal

abbrev pub invariant-snaps : goal.invariant-snaps
invariant-snaps g l = record {
  added : (image : List ℕ) → g.S.BlockSource.bytes l.fn.src ≡ Some image → l.ranges.items ≡ l.fn.ranges.items ++ flat_map (ranges_of image (site_of l.cp)) (map snapshot_root (take l.snapshot-index l.volume.snaps));
  short : AreShort l.fn.ranges.items → AreShort l.ranges.items;
  few : (image : List ℕ) → g.S.BlockSource.bytes l.fn.src ≡ Some image → g.S.BlockSource.reads l.src ≤ g.S.BlockSource.reads l.fn.src + sum (map (root_reads image (site_of l.cp)) (map snapshot_root (take l.snapshot-index l.volume.snaps)));
  kept : IsKept g.S.BlockSource.bytes g.S.BlockSource.bytes_len g.S.BlockSource.faults l.fn.src l.src;
}
