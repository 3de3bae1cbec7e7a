use Rattle.std.proofs.Common.{◌≡◌, ℕ, List, take, Some, ◌+◌, ◌≤◌, length}
use Rattle.apfs_model.specs.Kept.{IsKept}
use Rattle.fs_name.specs.Normal.{are_hashed}
use Rattle.reach_gather.specs.Volumes.Told.{told_snapshots}
use Rattle.reach_gather.specs.Adds.{Adds}
use Rattle.reach_gather.specs.Views.{AreSuperParts, pasts_namings}
use Rattle.reach_gather.proofs.snapshots.add_snapshots.Given as goal

abbrev pub invariant-loop-i : goal.invariant-loop-i
invariant-loop-i g l = record {
  kept : IsKept g.S.BlockSource.bytes g.S.BlockSource.bytes_len g.S.BlockSource.faults l.fn.src l.src;
  adds : (image : List ℕ) → g.S.BlockSource.bytes l.fn.src ≡ Some image → AreSuperParts image l.cp l.volume l.map → Adds image l.cp (told_snapshots l.volume.head.slot l.map (are_hashed l.volume.names) 0 (take l.i l.volume.snaps)) (pasts_namings l.volume.head.slot l.map (are_hashed l.volume.names) 0 (take l.i l.volume.snaps)) l.fn.out l.out;
  reads : (image : List ℕ) → g.S.BlockSource.bytes l.fn.src ≡ Some image → g.S.BlockSource.reads l.src + length l.fn.out.namings ≤ g.S.BlockSource.reads l.fn.src + length l.out.namings;
}
