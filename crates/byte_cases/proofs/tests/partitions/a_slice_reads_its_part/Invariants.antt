-- The source that is handed in.
use Rattle.std.proofs.Common.{Some, length}
use Rattle.byte_cases.proofs.tests.partitions.a_slice_reads_its_part.Given as goal

abbrev pub ghosts-through : goal.ghosts-through
ghosts-through g a = record { size = length a.source.bytes; bytes = Some a.source.bytes }
