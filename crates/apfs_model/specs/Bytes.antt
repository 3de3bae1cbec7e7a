-- Numbers in bytes, the lowest byte first.
use Rattle.std.specs.Prelude.{ℕ, zero, suc, ◌+◌, ◌-◌, ◌*◌, ◌/◌, ◌%◌, ◌^◌, ℤ, pos, negsuc, Bool, ◌==◌, nat_lt, List, slice_index, slice_range, bit_and, if◌then◌else◌}

-- the number in the n bytes from a place on
abbrev pub number_at : ℕ → List ℕ → ℕ → ℕ
number_at zero bytes at = 0
number_at (suc n) bytes at = slice_index bytes at + 256 * number_at n bytes (suc at)

-- the number of 16 bits at a place
unfoldable pub u16_at : List ℕ → ℕ → ℕ
u16_at bytes at = number_at 2 bytes at

-- the number of 32 bits at a place
unfoldable pub u32_at : List ℕ → ℕ → ℕ
u32_at bytes at = number_at 4 bytes at

-- the number of 64 bits at a place
unfoldable pub u64_at : List ℕ → ℕ → ℕ
u64_at bytes at = number_at 8 bytes at

-- the signed number of 32 bits at a place, in two's complement
unfoldable pub i32_at : List ℕ → ℕ → ℤ
i32_at bytes at = if nat_lt (u32_at bytes at) (2 ^ 31) then pos (u32_at bytes at) else negsuc (2 ^ 32 - 1 - u32_at bytes at)

-- so many bytes from a place on
abbrev pub part_at : List ℕ → ℕ → ℕ → List ℕ
part_at bytes at len = slice_range bytes at (at + len)

-- all bits of a flag are set in a word
abbrev pub has_flag : ℕ → ℕ → Bool
has_flag word flag = bit_and word flag == flag

-- bit i of a number, the lowest being bit 0
abbrev pub has_bit : ℕ → ℕ → Bool
has_bit number i = (number / 2 ^ i) % 2 == 1

-- bit i of a run of bytes, the lowest bit of the first byte being bit 0
unfoldable pub bit_at : List ℕ → ℕ → Bool
bit_at bytes i = has_bit (slice_index bytes (i / 8)) (i % 8)
