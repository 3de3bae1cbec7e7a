use Rattle.std.proofs.Common.{◌≡◌, ◌≤◌, ◌+◌, ℕ, true, List, Some}
use Rattle.std.specs.List.{range_with_len, list_all}
use Rattle.apfs_model.specs.Kept.{IsKept}
use Rattle.nx_ring.specs.Valid.{first_mappings, is_map_after}
use Rattle.nx_ring.proofs.valid.read_maps.Given as goal

abbrev pub invariant-maps : goal.invariant-maps
invariant-maps g l = record {
  listed : (image : List ℕ) → g.S.BlockSource.bytes l.fn.src ≡ Some image → l.mappings.items ≡ first_mappings image l.areas l.line l.j;
  sound : (image : List ℕ) → g.S.BlockSource.bytes l.fn.src ≡ Some image → list_all (is_map_after image l.areas l.line) (range_with_len 0 l.j) ≡ true;
  kept : IsKept g.S.BlockSource.bytes g.S.BlockSource.bytes_len g.S.BlockSource.faults l.fn.src l.src;
  reads : g.S.BlockSource.reads l.src ≤ g.S.BlockSource.reads l.fn.src + l.j;
}
