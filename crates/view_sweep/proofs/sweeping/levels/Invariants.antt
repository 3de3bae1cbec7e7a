use Rattle.std.proofs.Common.{◌≡◌, ℕ, ◌+◌, ◌≤◌, List, length, Some}
use Rattle.apfs_model.specs.Kept.{IsKept}
use Rattle.view_sweep.specs.Found.{world, looked}
use Rattle.view_sweep.specs.Sets.{AreKept, AreNumbered, all_asked}
use Rattle.view_sweep.specs.Shared.{AreInside, AreShares, IsAbove}
use Rattle.view_sweep.specs.Swept.{IsSwept}
use Rattle.view_sweep.proofs.Wholes.{IsWaiting}
use Rattle.view_sweep.proofs.sweeping.levels.Given as goal

abbrev pub invariant-loop-level : goal.invariant-loop-level
invariant-loop-level g l = record {
  kept : IsKept g.S.BlockSource.bytes g.S.BlockSource.bytes_len g.S.BlockSource.faults l.fn.src l.src;
  long : length l.block.items ≡ l.site.block_size;
  high : l.level ≤ 16;
  inside : AreInside l.site.blocks l.views l.out.sets.items l.out.shares.items;
  more : AreKept l.fn.out.sets.items l.out.sets.items;
  numbers : AreNumbered (length l.out.sets.items) l.current.items;
  waiting : (image : List ℕ) → g.S.BlockSource.bytes l.fn.src ≡ Some image → IsWaiting (world l.volumes l.site image) l.heads l.level (all_asked l.views l.out.sets.items l.current.items);
  swept : (image : List ℕ) → g.S.BlockSource.bytes l.fn.src ≡ Some image → IsSwept (world l.volumes l.site image) l.heads l.level l.out.used.items;
  shares : (image : List ℕ) → g.S.BlockSource.bytes l.fn.src ≡ Some image → AreShares (looked l.volumes l.site) l.views (IsAbove (world l.volumes l.site image) l.heads l.level) l.out.sets.items l.out.shares.items;
  reads : g.S.BlockSource.reads l.src + length l.fn.out.used.items ≤ g.S.BlockSource.reads l.fn.src + length l.out.used.items;
}

abbrev pub decreases-loop-level : goal.decreases-loop-level
decreases-loop-level g l = l.level
