use Rattle.std.proofs.Common.{◌≡◌, ℕ, List, take, Some, ◌+◌, ◌≤◌, length}
use Rattle.apfs_model.specs.Kept.{IsKept}
use Rattle.nx_block.specs.Super.{omap_oid_of}
use Rattle.nx_ring.specs.Checkpoint.{site_of}
use Rattle.omap_map.specs.Maps.{map_records}
use Rattle.vol_view.specs.Volumes.{Loaded}
use Rattle.reach_rules.specs.declared.naming.Namer.{Namer}
use Rattle.reach_gather.specs.Adds.{Adds}
use Rattle.reach_gather.specs.Views.{AreNamedParts, slots_namings, loaded_views}
use Rattle.reach_gather.proofs.volumes.add_volumes.Given as goal

abbrev pub invariant-loop-volume : goal.invariant-loop-volume
invariant-loop-volume g l = record {
  kept : IsKept g.S.BlockSource.bytes g.S.BlockSource.bytes_len g.S.BlockSource.faults l.fn.src l.src;
  adds : (image : List ℕ) (namer : Loaded → Namer) → g.S.BlockSource.bytes l.fn.src ≡ Some image → l.omap.records ≡ map_records image (site_of l.cp) (omap_oid_of l.cp.nx) → AreNamedParts image l.cp namer l.volumes → Adds image l.cp (slots_namings (take l.volume-index l.volumes)) (loaded_views l.cp namer (take l.volume-index l.volumes)) l.fn.out l.out;
  reads : (image : List ℕ) → g.S.BlockSource.bytes l.fn.src ≡ Some image → g.S.BlockSource.reads l.src + length l.fn.out.namings ≤ g.S.BlockSource.reads l.fn.src + length l.out.namings;
}
