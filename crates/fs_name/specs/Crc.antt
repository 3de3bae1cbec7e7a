-- CRC-32C, the cyclic redundancy check by Castagnoli's polynomial, over bits (RFC 3720, section 12.1).
use Rattle.std.specs.Prelude.{ℕ, zero, suc, ◌-◌, ◌/◌, ◌%◌, ◌^◌, ◌==◌, bit_xor, List, fold, if◌then◌else◌}
use Rattle.std.specs.Int.{w32, bit_not}

-- the polynomial, its bits reflected
abbrev pub polynomial : ℕ
polynomial = 0x82F63B78

-- 32 bits that are set
abbrev pub ones : ℕ
ones = 2 ^ 32 - 1

-- a remainder after one more bit, which leaves at the low end
abbrev pub after_bit : ℕ → ℕ
after_bit remainder = if remainder % 2 == 1 then bit_xor (remainder / 2) polynomial else remainder / 2

-- a remainder after so many more bits
unfoldable pub after_bits : ℕ → ℕ → ℕ
after_bits zero remainder = remainder
after_bits (suc n) remainder = after_bits n (after_bit remainder)

-- a remainder after one more byte
unfoldable pub after_byte : ℕ → ℕ → ℕ
after_byte remainder byte = after_bits 8 (bit_xor remainder byte)

-- a remainder after more bytes
abbrev pub after_bytes : ℕ → List ℕ → ℕ
after_bytes remainder bytes = fold after_byte remainder bytes

-- the CRC-32C of some bytes: started with all bits set, and complemented at its end
unfoldable pub crc32c_of : List ℕ → ℕ
crc32c_of bytes = bit_not w32 (after_bytes ones bytes)
