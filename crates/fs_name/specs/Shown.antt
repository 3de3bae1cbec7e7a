-- How names are shown.
use Rattle.std.specs.Prelude.{ℕ, ◌+◌, ◌/◌, ◌%◌, Bool, ◌||◌, ◌==◌, nat_lt, List, [], ◌∷◌, if◌then◌else◌}
use Rattle.std.specs.List.{flat_map}

-- a hexadecimal digit, in lower case
abbrev pub hex_digit : ℕ → ℕ
hex_digit n = if nat_lt n 10 then 48 + n else 87 + n

-- the bytes that aren't shown as they are: those below 0x20, 0x7f, the slash and the backslash
abbrev pub is_hidden : ℕ → Bool
is_hidden byte = (nat_lt byte 0x20 || (byte == 0x7f)) || ((byte == 0x2f) || (byte == 0x5c))

-- a byte as it is shown: itself, or `\x` and its two digits
abbrev pub shown_byte : ℕ → List ℕ
shown_byte byte = if is_hidden byte then 0x5c ∷ 0x78 ∷ hex_digit (byte / 16) ∷ hex_digit (byte % 16) ∷ [] else byte ∷ []

-- a name as it is shown
abbrev pub shown_name : List ℕ → List ℕ
shown_name name = flat_map shown_byte name
