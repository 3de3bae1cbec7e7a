-- The block sizes of the containers that are read.
use Rattle.std.specs.Prelude.{ℕ, Bool, ◌==◌, ◌||◌}

-- a block size is accepted: 4,096, 8,192, 16,384, 32,768 or 65,536 bytes (Container, nx_block_size)
abbrev pub is_accepted : ℕ → Bool
is_accepted size = (size == 4096) || ((size == 8192) || ((size == 16384) || ((size == 32768) || (size == 65536))))
