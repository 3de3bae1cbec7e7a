use Rattle.std.proofs.Common.{◌≡◌, ◌<◌, ◌≤◌, ◌+◌, ℕ, List, length, Some}
use Rattle.apfs_model.specs.Kept.{IsKept}
use Rattle.apfs_model.specs.Lists.{In}
use Rattle.nx_block.specs.Super.{omap_oid_of}
use Rattle.nx_ring.specs.Checkpoint.{site_of}
use Rattle.omap_map.specs.Loading.{map_nodes}
use Rattle.vol_view.specs.declared.head.VolHead.{VolHead}
use Rattle.vol_view.specs.Heads.{heads_in}
use Rattle.vol_view.specs.Placed.{IsPlaced}
use Rattle.vol_view.specs.Slots.{IsRight}
use Rattle.vol_view.proofs.slots.heads.Given as goal

abbrev pub invariant-slots : goal.invariant-slots
invariant-slots g l = record {
  found : (image : List ℕ) → g.S.BlockSource.bytes l.fn.src ≡ Some image → l.heads.items ≡ heads_in image l.cp l.slot;
  right : (image : List ℕ) → g.S.BlockSource.bytes l.fn.src ≡ Some image → (k : ℕ) → k < l.slot → IsRight image l.cp k;
  placed : (head : VolHead) → In head l.heads.items → IsPlaced (site_of l.cp) head;
  reads : (image : List ℕ) → g.S.BlockSource.bytes l.fn.src ≡ Some image → g.S.BlockSource.reads l.src ≤ g.S.BlockSource.reads l.fn.src + (1 + map_nodes image (site_of l.cp) (omap_oid_of l.cp.nx) + length l.heads.items);
  kept : IsKept g.S.BlockSource.bytes g.S.BlockSource.bytes_len g.S.BlockSource.faults l.fn.src l.src;
}
