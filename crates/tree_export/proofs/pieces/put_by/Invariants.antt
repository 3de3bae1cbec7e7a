-- The bytes before the next piece were put.
use Rattle.std.proofs.Common.{◌≡◌, ◌≤◌, ◌<◌, ◌-◌, true, length}
use Rattle.apfs_model.specs.Kept.{IsKept}
use Rattle.file_extent.specs.Streams.{bytes_from}
use Rattle.tree_export.specs.Parts.{AppendedWhole}
use Rattle.tree_export.proofs.pieces.put_by.Given as goal

abbrev pub invariant-pieces : goal.invariant-pieces
invariant-pieces g l = record {
  bound : l.at ≤ l.stream.size;
  room : 0 < length l.piece;
  writes : g.F.Folder.writing l.folder ≡ true;
  kept : IsKept g.S.BlockSource.bytes g.S.BlockSource.bytes_len g.S.BlockSource.faults l.initial.src l.src;
  later : g.F.Folder.faults l.initial.folder ≤ g.F.Folder.faults l.folder;
  put : AppendedWhole (g.F.Folder.contents l.initial.folder) (g.F.Folder.contents l.folder) (g.S.BlockSource.bytes l.initial.src) (λ image. bytes_from l.stream.site.block_size image l.stream.extents 0 l.at);
}

abbrev pub decreases-pieces : goal.decreases-pieces
decreases-pieces g l = l.stream.size - l.at
