use Rattle.std.proofs.Common.{◌≡◌, ◌≤◌, ◌+◌, ℕ, true, List, Some, take, map, length}
use Rattle.std.specs.List.{list_all}
use Rattle.apfs_model.specs.Kept.{IsKept}
use Rattle.nx_ring.specs.Objects.{has_object, place_at}
use Rattle.nx_ring.specs.Valid.{blocks_of}
use Rattle.nx_ring.proofs.valid.read_objects.Given as goal

abbrev pub invariant-each : goal.invariant-each
invariant-each g l = record {
  listed : (image : List ℕ) → g.S.BlockSource.bytes l.fn.src ≡ Some image → l.all.items ≡ map (place_at image l.areas) (take l.m-index l.mappings);
  sound : (image : List ℕ) → g.S.BlockSource.bytes l.fn.src ≡ Some image → list_all (has_object image l.areas l.xid) (take l.m-index l.mappings) ≡ true;
  kept : IsKept g.S.BlockSource.bytes g.S.BlockSource.bytes_len g.S.BlockSource.faults l.fn.src l.src;
  reads : g.S.BlockSource.reads l.src ≤ g.S.BlockSource.reads l.fn.src + length (blocks_of l.areas (take l.m-index l.mappings));
}
