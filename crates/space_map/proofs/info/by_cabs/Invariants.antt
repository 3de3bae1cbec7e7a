use Rattle.std.proofs.Common.{◌≡◌, ◌≤◌, ◌<◌, ◌+◌, ◌*◌, ℕ, List, Some, length, map, min}
use Rattle.std.specs.List.{range_with_len}
use Rattle.apfs_model.specs.Kept.{IsKept}
use Rattle.space_map.specs.Fields.{cibs_of, cab_cibs_of}
use Rattle.space_map.specs.Blocks.{address_at}
use Rattle.space_map.specs.Stops.{IsRightCab}
use Rattle.space_map.specs.Held.{first_cibs}
use Rattle.space_map.proofs.info.by_cabs.Given as goal

abbrev pub invariant-cabs : goal.invariant-cabs
invariant-cabs g l = record {
  cabs : l.cabs.items ≡ map (address_at l.manager) (range_with_len 0 l.index);
  count : length l.cibs.items ≡ min (cibs_of l.manager) (cab_cibs_of l.manager * l.index);
  cibs : (image : List ℕ) → g.S.BlockSource.bytes l.fn.src ≡ Some image → l.cibs.items ≡ first_cibs image l.site l.manager (length l.cibs.items);
  right : (image : List ℕ) → g.S.BlockSource.bytes l.fn.src ≡ Some image → (i : ℕ) → i < l.index → IsRightCab image l.site l.manager i;
  kept : IsKept g.S.BlockSource.bytes g.S.BlockSource.bytes_len g.S.BlockSource.faults l.fn.src l.src;
  reads : g.S.BlockSource.reads l.src ≤ g.S.BlockSource.reads l.fn.src + l.index;
}
