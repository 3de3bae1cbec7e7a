-- Bits of runs of bytes, one by one.
use Rattle.std.specs.Prelude.{◌≡◌, ◌≢◌, ℕ, ◌*◌, ◌<◌, true, List, length, count_by}
use Rattle.std.specs.List.{range_with_len}
use Rattle.apfs_model.specs.Bytes.{has_bit, bit_at}

-- how many of the first n bits are set
abbrev pub ones_below : List ℕ → ℕ → ℕ
ones_below bytes n = count_by (bit_at bytes) (range_with_len 0 n)

-- how many bits are set
unfoldable pub ones_of : List ℕ → ℕ
ones_of bytes = ones_below bytes (8 * length bytes)

-- bit t is the lowest at which two bytes differ
pub record IsLowestApart (x y t : ℕ) : Type 0 where
  pub inside : t < 8
  pub differs : has_bit x t ≢ has_bit y t
  pub least : (k : ℕ) → k < t → has_bit x k ≡ has_bit y k

-- two runs have the same bits below bit i
abbrev pub AgreeBelow : List ℕ → List ℕ → ℕ → Type 0
AgreeBelow a b i = (k : ℕ) → k < i → bit_at a k ≡ bit_at b k

-- bit i is the least bit at which two runs differ
pub record IsFirstDifference (a b : List ℕ) (i : ℕ) : Type 0 where
  pub inside : i < 8 * length a
  pub differs : bit_at a i ≢ bit_at b i
  pub least : AgreeBelow a b i

-- some bit is set in both runs
abbrev pub ShareBit : List ℕ → List ℕ → Type 0
ShareBit a b = (k : ℕ) × ((bit_at a k ≡ true) × (bit_at b k ≡ true))
