use Rattle.std.proofs.Common.{◌≡◌, ◌+◌, ◌≤◌, ℕ, List, Some, map, take}
use Rattle.std.specs.Prelude.{flat_map, sum, All}
use Rattle.apfs_model.specs.Kept.{IsKept}
use Rattle.nx_ring.specs.Checkpoint.{site_of}
use Rattle.vol_view.specs.Views.{views_of}
use Rattle.ext_ref.specs.Left.{AreShortExtents}
use Rattle.ext_ref.specs.Same.{HaveSame}
use Rattle.apfs_check.specs.Volumes.{volume_ranges, view_extents}
use Rattle.apfs_check.specs.Again.{IsPassed, IsKnownOf}
use Rattle.apfs_check.specs.Reads.{view_reads}
use Rattle.apfs_check.specs.Held.{AddsViews}
use Rattle.apfs_check.specs.Steps.{IsReady}
use Rattle.apfs_check.proofs.views.add_views.Given as goal

abbrev pub invariant-views : goal.invariant-views
invariant-views g l = record {
  added : (image : List ℕ) → g.S.BlockSource.bytes l.fn.src ≡ Some image → IsReady image l.cp l.volume → l.ranges ≡ volume_ranges image (site_of l.cp) l.volume.head → AddsViews l.profile image l.cp l.volume.head (take l.place (views_of l.volume l.cp)) l.fn.out l.out;
  all : (image : List ℕ) → g.S.BlockSource.bytes l.fn.src ≡ Some image → IsReady image l.cp l.volume → l.ranges ≡ volume_ranges image (site_of l.cp) l.volume.head → HaveSame l.extents.items (flat_map (view_extents image (site_of l.cp) l.volume) (take l.place (views_of l.volume l.cp)));
  passed : (image : List ℕ) → g.S.BlockSource.bytes l.fn.src ≡ Some image → All (IsPassed l.profile image (site_of l.cp) l.volume l.ranges (take l.place (views_of l.volume l.cp))) l.passed.items;
  known : (image : List ℕ) → g.S.BlockSource.bytes l.fn.src ≡ Some image → IsKnownOf l.profile image (site_of l.cp) l.volume l.ranges (take l.place (views_of l.volume l.cp)) l.known;
  short : AreShortExtents (site_of l.cp).block_size l.extents.items;
  few : (image : List ℕ) → g.S.BlockSource.bytes l.fn.src ≡ Some image → g.S.BlockSource.reads l.src ≤ g.S.BlockSource.reads l.fn.src + sum (map (view_reads image (site_of l.cp) l.volume) (take l.place (views_of l.volume l.cp)));
  kept : IsKept g.S.BlockSource.bytes g.S.BlockSource.bytes_len g.S.BlockSource.faults l.fn.src l.src;
}
