use Rattle.std.proofs.Common.{◌≡◌, ◌≤◌, ◌+◌, ◌*◌, List, ℕ, Some, length}
use Rattle.apfs_model.specs.Kept.{IsKept}
use Rattle.nx_ring.specs.Objects.{mapped_part}
use Rattle.nx_ring.specs.Sums.{words_after, IsSumOf}
use Rattle.nx_ring.proofs.known.is_summed.Given as goal

abbrev pub invariant-parts : goal.invariant-parts
invariant-parts g l = record {
  sum : (image : List ℕ) → g.S.BlockSource.bytes l.fn.src ≡ Some image → l.first ≡ mapped_part image l.areas l.m 1 → IsSumOf l.sum (words_after (mapped_part image l.areas l.m l.t) 8);
  long : (image : List ℕ) → g.S.BlockSource.bytes l.fn.src ≡ Some image → l.first ≡ mapped_part image l.areas l.m 1 → length (mapped_part image l.areas l.m l.t) ≡ l.areas.size * l.t;
  kept : IsKept g.S.BlockSource.bytes g.S.BlockSource.bytes_len g.S.BlockSource.faults l.fn.src l.src;
  reads : g.S.BlockSource.reads l.src + 1 ≤ g.S.BlockSource.reads l.fn.src + l.t;
}
