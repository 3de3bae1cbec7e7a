-- The blocks that are kept of an image while a command runs.
use Rattle.std.specs.Prelude.{ℕ, nat_lt, List, length, slice_range, unwrap_or, if◌then◌else◌}
use Rattle.nx_block.specs.Read.{size_of}

-- the size of the blocks in bytes: the block size that the image's first bytes tell, and 4,096 where it has fewer or they tell none
abbrev pub kept_size : List ℕ → ℕ
kept_size image = if nat_lt (length image) 4096 then 4096 else unwrap_or (size_of (slice_range image 0 4096)) 4096
