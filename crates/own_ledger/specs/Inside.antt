-- How a ledger keeps its blocks: one bit each, from the first on.
use Rattle.std.specs.Prelude.{◌≡◌, ℕ, ◌+◌, ◌^◌, ◌<◌, ◌≤◌, Bool, false, List, length, map}
use Rattle.std.specs.List.{range_with_len}
use Rattle.apfs_model.specs.Bytes.{bit_at}
use Rattle.apfs_model.specs.Blocks.{rounded_up}

-- the marks of so many blocks
unfoldable pub marks_of : List ℕ → ℕ → List Bool
marks_of bits blocks = map (bit_at bits) (range_with_len 0 blocks)

-- the range ends in 64 bits, and there are as many bytes as its blocks need, with no bit past them
pub record IsSound (first blocks : ℕ) (bits : List ℕ) : Type 0 where
  pub ends : first + blocks < 2 ^ 64
  pub long : length bits ≡ rounded_up blocks 8
  pub rest : (place : ℕ) → blocks ≤ place → bit_at bits place ≡ false
