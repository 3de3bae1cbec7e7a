-- Runs of bits, by place.
use Rattle.std.specs.Prelude.{◌≡◌, ℕ, ◌<◌, ◌≤◌, Bool, true, false, ◌&&◌, nat_lt, nat_le, List, Option, None, Some}
use Rattle.apfs_model.specs.Bytes.{bit_at}

-- a place from one up to another
abbrev pub is_from : ℕ → ℕ → ℕ → Bool
is_from from to place = nat_le from place && nat_lt place to

-- no bit is set from a place up to another
abbrev pub AreClear : List ℕ → ℕ → ℕ → Type 0
AreClear bits from to = (place : ℕ) → from ≤ place → place < to → bit_at bits place ≡ false

-- the least bit that is set, from a place up to another
pub record IsLeastSet (bits : List ℕ) (from to place : ℕ) : Type 0 where
  pub above : from ≤ place
  pub below : place < to
  pub is_set : bit_at bits place ≡ true
  pub least : AreClear bits from place

-- the answer of a search for the least bit that is set
abbrev pub IsSearched : List ℕ → ℕ → ℕ → Option ℕ → Type 0
IsSearched bits from to None = AreClear bits from to
IsSearched bits from to (Some place) = IsLeastSet bits from to place
