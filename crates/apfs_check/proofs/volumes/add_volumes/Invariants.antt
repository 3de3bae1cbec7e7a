use Rattle.std.proofs.Common.{◌≡◌, ◌+◌, ◌≤◌, ℕ, List, Some, map, take}
use Rattle.std.specs.Prelude.{sum}
use Rattle.apfs_model.specs.Kept.{IsKept}
use Rattle.reach_sweep.specs.Views.{head_of}
use Rattle.apfs_check.specs.Held.{AddsVolumes}
use Rattle.apfs_check.specs.Reads.{volume_reads}
use Rattle.apfs_check.specs.Steps.{AreReady}
use Rattle.apfs_check.proofs.volumes.add_volumes.Given as goal

abbrev pub invariant-volumes : goal.invariant-volumes
invariant-volumes g l = record {
  added : (image : List ℕ) → g.S.BlockSource.bytes l.fn.src ≡ Some image → AreReady image l.cp l.volumes → AddsVolumes l.profile image l.cp (map head_of (take l.volume-index l.volumes)) l.fn.out l.out;
  few : (image : List ℕ) → g.S.BlockSource.bytes l.fn.src ≡ Some image → g.S.BlockSource.reads l.src ≤ g.S.BlockSource.reads l.fn.src + sum (map (volume_reads image l.cp) (take l.volume-index l.volumes));
  kept : IsKept g.S.BlockSource.bytes g.S.BlockSource.bytes_len g.S.BlockSource.faults l.fn.src l.src;
}
