use Rattle.std.proofs.Common.{◌≡◌, ◌≤◌, ◌+◌, ℕ, true, List, Some, take, length}
use Rattle.std.specs.List.{list_all}
use Rattle.apfs_model.specs.Kept.{IsKept}
use Rattle.nx_ring.specs.Objects.{has_object}
use Rattle.nx_ring.specs.Valid.{blocks_of}
use Rattle.nx_ring.specs.Known.{AreKnown}
use Rattle.nx_ring.proofs.valid.have_objects.Given as goal

abbrev pub invariant-each : goal.invariant-each
invariant-each g l = record {
  sound : (image : List ℕ) → g.S.BlockSource.bytes l.fn.src ≡ Some image → AreKnown image l.areas l.fn.known → list_all (has_object image l.areas l.xid) (take l.m-index l.mappings) ≡ true;
  known : (image : List ℕ) → g.S.BlockSource.bytes l.fn.src ≡ Some image → AreKnown image l.areas l.fn.known → AreKnown image l.areas l.known;
  kept : IsKept g.S.BlockSource.bytes g.S.BlockSource.bytes_len g.S.BlockSource.faults l.fn.src l.src;
  reads : g.S.BlockSource.reads l.src ≤ g.S.BlockSource.reads l.fn.src + length (blocks_of l.areas (take l.m-index l.mappings));
}
