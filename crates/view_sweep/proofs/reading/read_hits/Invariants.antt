use Rattle.std.proofs.Common.{◌≡◌, ℕ, ◌+◌, ◌<◌, ◌≤◌, ◌++◌, List, length, take, IfSome, Some}
use Rattle.std.specs.List.{flat_map}
use Rattle.apfs_model.specs.Lists.{In}
use Rattle.apfs_model.specs.Kept.{IsKept}
use Rattle.view_sweep.specs.declared.used.Hit.{Hit}
use Rattle.view_sweep.specs.Found.{used_of, bytes_at}
use Rattle.view_sweep.specs.Sets.{AreNumbered}
use Rattle.view_sweep.specs.Swept.{AreSound, hit_asks}
use Rattle.view_sweep.proofs.Readings.{Reading}
use Rattle.view_sweep.proofs.reading.read_hits.Given as goal

abbrev pub invariant-loop-hit : goal.invariant-loop-hit
invariant-loop-hit g l = record {
  kept : IsKept g.S.BlockSource.bytes g.S.BlockSource.bytes_len g.S.BlockSource.faults l.fn.src l.src;
  long : length l.block.items ≡ l.site.block_size;
  held : (image : List ℕ) → g.S.BlockSource.bytes l.fn.src ≡ Some image → IfSome l.held (λ u. l.block.items ≡ bytes_at image l.site u.mapping);
  wants : (image : List ℕ) → g.S.BlockSource.bytes l.fn.src ≡ Some image → l.out.items ≡ l.fn.out.items ++ flat_map (hit_asks (bytes_at image l.site)) (take l.hit-index l.hits);
  sound : (image : List ℕ) → g.S.BlockSource.bytes l.fn.src ≡ Some image → AreSound l.site (bytes_at image l.site) (take l.hit-index l.hits);
  numbers : (n : ℕ) → ((h : Hit) → In h l.hits → h.set < n) → AreNumbered n l.fn.out.items → AreNumbered n l.out.items;
  reading : Reading used_of l.hits l.hit-index l.held l.read.items;
  reads : g.S.BlockSource.reads l.src ≤ g.S.BlockSource.reads l.fn.src + length l.read.items;
}
