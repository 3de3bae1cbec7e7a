-- The disk that is handed over.
use Rattle.apfs_cli.proofs.in_partition.fill_partition.Given as goal

abbrev pub ghosts-fill_slice : goal.ghosts-fill_slice
ghosts-fill_slice g a = record { size = g.S.BlockSource.bytes_len a.src; bytes = g.S.BlockSource.bytes a.src }
