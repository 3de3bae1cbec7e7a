use Rattle.std.proofs.Common.{◌≡◌, ◌+◌, ◌≤◌, ℕ, List, Some, map, take}
use Rattle.std.specs.Prelude.{sum}
use Rattle.apfs_model.specs.Kept.{IsKept}
use Rattle.nx_ring.specs.Checkpoint.{site_of}
use Rattle.reach_sweep.specs.Account.{AreLoadedOf}
use Rattle.apfs_check.specs.Reads.{loading_reads}
use Rattle.apfs_check.proofs.loading.load_all.Given as goal

abbrev pub invariant-heads : goal.invariant-heads
invariant-heads g l = record {
  loaded : (image : List ℕ) → g.S.BlockSource.bytes l.fn.src ≡ Some image → AreLoadedOf image l.cp (take l.head-index l.heads) l.volumes.items;
  few : (image : List ℕ) → g.S.BlockSource.bytes l.fn.src ≡ Some image → g.S.BlockSource.reads l.src ≤ g.S.BlockSource.reads l.fn.src + sum (map (loading_reads image (site_of l.cp)) l.volumes.items);
  kept : IsKept g.S.BlockSource.bytes g.S.BlockSource.bytes_len g.S.BlockSource.faults l.fn.src l.src;
}
