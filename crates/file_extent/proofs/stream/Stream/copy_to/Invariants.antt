-- The bytes before the next piece were put.
use Rattle.std.proofs.Common.{◌≡◌, ◌≤◌, ◌-◌, ℕ, List, Some}
use Rattle.apfs_model.specs.Kept.{IsKept}
use Rattle.file_extent.specs.Streams.{bytes_from}
use Rattle.file_extent.specs.Copied.{CopiedWhole}
use Rattle.file_extent.proofs.stream.Stream.copy_to.Given as goal

abbrev pub invariant-pieces : goal.invariant-pieces
invariant-pieces g l = record {
  bound : l.at ≤ l.self.size;
  kept : IsKept g.S.BlockSource.bytes g.S.BlockSource.bytes_len g.S.BlockSource.faults l.initial.src l.src;
  later : g.W.Sink.faults l.initial.out ≤ g.W.Sink.faults l.out;
  put : CopiedWhole (g.W.Sink.contents l.initial.out) (g.W.Sink.contents l.out) (g.S.BlockSource.bytes l.initial.src) (λ image. bytes_from l.self.site.block_size image l.self.extents 0 l.at);
}

abbrev pub decreases-pieces : goal.decreases-pieces
decreases-pieces g l = l.self.size - l.at
