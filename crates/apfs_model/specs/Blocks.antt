-- Blocks of an image, and ranges of blocks.
use Rattle.std.specs.Prelude.{ℕ, ◌+◌, ◌-◌, ◌*◌, ◌/◌, ◌^◌, Bool, ◌&&◌, ◌==◌, nat_lt, nat_le, List, slice_range, Option, None, Some, if◌then◌else◌}

-- block k of an image with blocks of a size (General-Purpose Types, paddr_t)
unfoldable pub block_of : ℕ → List ℕ → ℕ → List ℕ
block_of size image k = slice_range image (size * k) (size * k + size)

-- a range wholly in the first so many blocks; a first block of 2^63 or more is a negative one (General-Purpose Types, prange_t)
abbrev pub is_inside : ℕ → ℕ → ℕ → Bool
is_inside first len blocks = nat_lt first (2 ^ 63) && nat_le (first + len) blocks

-- a range wholly in another
abbrev pub is_within : ℕ → ℕ → ℕ → ℕ → Bool
is_within first len outer outer_len = nat_le outer first && nat_le (first + len) (outer + outer_len)

-- a block of a range
abbrev pub is_in : ℕ → ℕ → ℕ → Bool
is_in block first len = nat_le first block && nat_lt block (first + len)

-- how many whole units hold so many things
abbrev pub rounded_up : ℕ → ℕ → ℕ
rounded_up n unit = (n + (unit - 1)) / unit

-- a number is a multiple of a unit
abbrev pub is_multiple : ℕ → ℕ → Bool
is_multiple n unit = unit * (n / unit) == n

-- a block above 0 and below the container's end
abbrev pub in_container : ℕ → ℕ → Option ℕ
in_container blocks block = if nat_lt 0 block && nat_lt block blocks then Some block else None
