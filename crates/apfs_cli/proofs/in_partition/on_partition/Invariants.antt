-- The disk that is handed over.
use Rattle.apfs_cli.proofs.in_partition.on_partition.Given as goal

abbrev pub ghosts-on_slice : goal.ghosts-on_slice
ghosts-on_slice g a = record { size = g.S.BlockSource.bytes_len a.src; bytes = g.S.BlockSource.bytes a.src }
