-- Steps of the normal form and of the hash, and the name that stored bytes have.
use Rattle.std.specs.Prelude.{ℕ, if◌then◌else◌, List, Option, Some, None}
use Rattle.fs_name.specs.Text.{is_name, name_in}
use Rattle.std.specs.Char.{to_ascii_lowercase}
use Rattle.fs_name.specs.declared.naming.Names.{Names}
use Rattle.fs_name.specs.declared.naming.Names.TheVariants.{Exact, Normal, Folded}
use Rattle.std.specs.Int.{w32, to_le_bytes}
use Rattle.fs_name.specs.Crc.{after_bytes}

-- the name that a stored name has, where it is one
unfoldable pub name_of : List ℕ → Option (List ℕ)
name_of raw = if is_name raw then Some (name_in raw) else None

-- the normal form of an ASCII letter
abbrev pub letter_of : Names → ℕ → ℕ
letter_of Exact c = c
letter_of Normal c = c
letter_of Folded c = to_ascii_lowercase c

-- a remainder after one more character
abbrev pub after_char : ℕ → ℕ → ℕ
after_char remainder c = after_bytes remainder (to_le_bytes w32 c)
