-- Ranges that a ledger has claimed, one after the other.
use Rattle.std.specs.Prelude.{◌≡◌, ℕ, ◌<◌, true, false, List}
use Rattle.apfs_model.specs.Blocks.{is_in, is_within}
use Rattle.apfs_model.specs.Lists.{In}
use Rattle.own_ledger.specs.Held.{HeldBlocks, holds, lies_in}
use Rattle.own_ledger.specs.declared.held.ClaimFault.{ClaimFault}
use Rattle.own_ledger.specs.declared.held.ClaimFault.TheVariants as claims
use Rattle.reach_rules.specs.Settled.{is_held, AreApart, IsHeldTwice}

-- a ledger of which no block was held has claimed some ranges: it holds the blocks in them, no block lies in two, and each that has a block lies in the ledger's range
pub record AreClaimed (old new : HeldBlocks) (ranges : List (ℕ × ℕ)) : Type 0 where
  pub same_first : new.first ≡ old.first
  pub same_blocks : new.blocks ≡ old.blocks
  pub held : (block : ℕ) → holds new block ≡ is_held ranges block
  pub inside : (range : ℕ × ℕ) → In range ranges → 0 < range.1 → lies_in old range.0 range.1 ≡ true
  pub apart : AreApart ranges

-- a range that has a block begins at this one, and doesn't lie in so many blocks from a first on
pub record HasLeaving (first blocks : ℕ) (ranges : List (ℕ × ℕ)) (block : ℕ) : Type 0 where
  pub range : ℕ × ℕ
  pub one : In range ranges
  pub some : 0 < range.1
  pub leaves : is_within range.0 range.1 first blocks ≡ false
  pub at : block ≡ range.0

-- one of so many blocks from a first on lies in two ranges
pub record HasTwice (first blocks : ℕ) (ranges : List (ℕ × ℕ)) (block : ℕ) : Type 0 where
  pub low : is_in block first blocks ≡ true
  pub twice : IsHeldTwice ranges block

-- what a refused claim of so many blocks from a first on says of all ranges
abbrev pub IsRangeFault : ℕ → ℕ → List (ℕ × ℕ) → ClaimFault → Type 0
IsRangeFault first blocks ranges (claims.Outside block) = HasLeaving first blocks ranges block
IsRangeFault first blocks ranges (claims.Twice block) = HasTwice first blocks ranges block
