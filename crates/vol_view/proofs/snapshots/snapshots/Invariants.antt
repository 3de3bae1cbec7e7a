use Rattle.std.proofs.Common.{◌≡◌, ◌≤◌, ◌+◌, ℕ, List, length, Some, take}
use Rattle.apfs_model.specs.Kept.{IsKept}
use Rattle.vol_view.specs.Gathered.{AreSnapshots}
use Rattle.vol_view.proofs.snapshots.snapshots.Given as goal

abbrev pub invariant-records : goal.invariant-records
invariant-records g l = record {
  made : (image : List ℕ) → g.S.BlockSource.bytes l.fn.src ≡ Some image → AreSnapshots image l.site (take l.told-index l.records) l.snapshots.items;
  reads : g.S.BlockSource.reads l.src ≤ g.S.BlockSource.reads l.fn.src + length l.snapshots.items;
  kept : IsKept g.S.BlockSource.bytes g.S.BlockSource.bytes_len g.S.BlockSource.faults l.fn.src l.src;
}
