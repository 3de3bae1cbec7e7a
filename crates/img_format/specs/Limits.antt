-- How long the name of a new volume may be, and how many blocks a new container may have.
use Rattle.std.specs.Prelude.{ℕ}

-- the longest name
abbrev pub most_name : ℕ
most_name = 255

-- the least and the greatest number of blocks: the first has room for all that is used, and one chunk holds the second
abbrev pub least_blocks : ℕ
least_blocks = 256

abbrev pub most_blocks : ℕ
most_blocks = 32768
