use Rattle.std.proofs.Common.{◌≡◌, ◌≤◌, ◌+◌, ◌*◌, ℕ, List, Some, length}
use Rattle.std.specs.List.{flat_map}
use Rattle.apfs_model.specs.Blocks.{block_of}
use Rattle.apfs_model.specs.Kept.{IsKept}
use Rattle.space_pool.specs.Bits.{first_indexes}
use Rattle.space_pool.proofs.bits.read_bits.Given as goal

abbrev pub invariant-loop-i : goal.invariant-loop-i
invariant-loop-i g l = record {
  joined : (image : List ℕ) → g.S.BlockSource.bytes l.fn.src ≡ Some image → l.bits.items ≡ flat_map (λ index. block_of l.site.block_size image (l.ring_base + index)) (first_indexes l.manager l.i);
  long : length l.bits.items ≡ l.i * l.site.block_size;
  kept : IsKept g.S.BlockSource.bytes g.S.BlockSource.bytes_len g.S.BlockSource.faults l.fn.src l.src;
  reads : g.S.BlockSource.reads l.src ≤ g.S.BlockSource.reads l.fn.src + l.i;
}
