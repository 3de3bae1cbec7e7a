use Rattle.std.proofs.Common.{◌≡◌, ◌+◌, ◌<◌, ◌≤◌, ℕ, List, Some, length, drop}
use Rattle.apfs_model.specs.Kept.{IsKept}
use Rattle.space_map.specs.Geometry.{chunk_len}
use Rattle.space_map.specs.Stops.{known_of}
use Rattle.reach_rules.specs.Settled.{is_held}
use Rattle.own_settle.specs.Agreed.{first_of, IsChunkAgreed}
use Rattle.own_settle.specs.InOrder.{AreAlikeFrom}
use Rattle.own_settle.proofs.chunks.settle_chunks.Given as goal

abbrev pub invariant-each : goal.invariant-each
invariant-each g l = record {
  kept : IsKept g.S.BlockSource.bytes g.S.BlockSource.bytes_len g.S.BlockSource.faults l.fn.src l.src;
  reads : g.S.BlockSource.reads l.src ≤ g.S.BlockSource.reads l.fn.src + l.number;
  long : length l.bits ≡ l.space.site.block_size;
  blocks : l.ledger.blocks ≡ chunk_len l.space.site.block_size;
  done : l.done ≤ length l.ranges;
  left : AreAlikeFrom (first_of l.space l.number) (drop l.done l.ranges) l.ranges;
  agreed : (image : List ℕ) → g.S.BlockSource.bytes l.fn.src ≡ Some image → l.space ≡ known_of image l.space.site l.space.manager → (k : ℕ) → k < l.number → IsChunkAgreed image l.space (is_held l.ranges) k;
}
