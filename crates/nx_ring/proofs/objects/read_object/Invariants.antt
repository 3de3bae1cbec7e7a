use Rattle.std.proofs.Common.{◌≡◌, ◌≤◌, ◌+◌, ◌*◌, List, ℕ, Some, length}
use Rattle.apfs_model.specs.Kept.{IsKept}
use Rattle.nx_ring.specs.Objects.{mapped_part}
use Rattle.nx_ring.proofs.objects.read_object.Given as goal

abbrev pub invariant-parts : goal.invariant-parts
invariant-parts g l = record {
  found : (image : List ℕ) → g.S.BlockSource.bytes l.fn.src ≡ Some image → l.bytes.items ≡ mapped_part image l.areas l.m l.t;
  long : length l.bytes.items ≡ l.areas.size * l.t;
  kept : IsKept g.S.BlockSource.bytes g.S.BlockSource.bytes_len g.S.BlockSource.faults l.fn.src l.src;
  reads : g.S.BlockSource.reads l.src ≤ g.S.BlockSource.reads l.fn.src + l.t;
}
