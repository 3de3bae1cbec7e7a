-- Blocks of a range, of which some are held.
use Rattle.std.specs.Prelude.{◌≡◌, ℕ, ◌+◌, ◌-◌, ◌<◌, Bool, true, false, not, ◌&&◌, ◌||◌, List, slice_index_or, count_by}
use Rattle.std.specs.List.{range_with_len}
use Rattle.apfs_model.specs.Blocks.{is_in, is_within}
use Rattle.apfs_model.specs.Bytes.{bit_at}
use Rattle.own_ledger.specs.declared.held.ClaimFault.{ClaimFault}
use Rattle.own_ledger.specs.declared.held.ClaimFault.TheVariants.{Outside, Twice}
use Rattle.own_ledger.specs.declared.held.Difference.{Difference}

-- a range of blocks, and which of them are held, each by its place in the range
pub record HeldBlocks : Type 0 where
  pub first : ℕ
  pub blocks : ℕ
  pub marks : List Bool

-- a block is held: it is one of the range, and its mark says so
unfoldable pub holds : HeldBlocks → ℕ → Bool
holds ledger block = is_in block ledger.first ledger.blocks && slice_index_or ledger.marks (block - ledger.first) false

-- how many blocks are held
unfoldable pub held_count : HeldBlocks → ℕ
held_count ledger = count_by (holds ledger) (range_with_len ledger.first ledger.blocks)

-- a ledger of a range, of which no block is held
pub record IsEmpty (ledger : HeldBlocks) (first blocks : ℕ) : Type 0 where
  pub first_is : ledger.first ≡ first
  pub blocks_is : ledger.blocks ≡ blocks
  pub free : (block : ℕ) → holds ledger block ≡ false

-- a range lies wholly in that of a ledger
abbrev pub lies_in : HeldBlocks → ℕ → ℕ → Bool
lies_in ledger first length = is_within first length ledger.first ledger.blocks

-- a range can be claimed: it lies in the ledger's where it has a block, and none of its blocks is held
pub record CanClaim (ledger : HeldBlocks) (first length : ℕ) : Type 0 where
  pub inside : 0 < length → lies_in ledger first length ≡ true
  pub free : (block : ℕ) → is_in block first length ≡ true → holds ledger block ≡ false

-- a range was added, and nothing else has changed
pub record AddsRange (old new : HeldBlocks) (first length : ℕ) : Type 0 where
  pub same_first : new.first ≡ old.first
  pub same_blocks : new.blocks ≡ old.blocks
  pub held : (block : ℕ) → holds new block ≡ (holds old block || is_in block first length)

-- the blocks of a range that lie in the ledger's were added, and nothing else has changed
pub record AddsPart (old new : HeldBlocks) (first length : ℕ) : Type 0 where
  pub same_first : new.first ≡ old.first
  pub same_blocks : new.blocks ≡ old.blocks
  pub held : (block : ℕ) → is_in block old.first old.blocks ≡ true → holds new block ≡ (holds old block || is_in block first length)

-- Outside: the range has a block, begins at this one, and doesn't lie wholly in the ledger's
pub record IsOutside (ledger : HeldBlocks) (first length block : ℕ) : Type 0 where
  pub at : block ≡ first
  pub some : 0 < length
  pub leaves : lies_in ledger first length ≡ false

-- Twice: the range lies wholly in the ledger's, and this is the least of its blocks that is held
pub record IsTwice (ledger : HeldBlocks) (first length block : ℕ) : Type 0 where
  pub inside : lies_in ledger first length ≡ true
  pub one : is_in block first length ≡ true
  pub held : holds ledger block ≡ true
  pub least : (lower : ℕ) → is_in lower first length ≡ true → lower < block → holds ledger lower ≡ false

-- what a refused claim says
abbrev pub IsClaimFault : HeldBlocks → ℕ → ℕ → ClaimFault → Type 0
IsClaimFault ledger first length (Outside block) = IsOutside ledger first length block
IsClaimFault ledger first length (Twice block) = IsTwice ledger first length block

-- the first so many blocks of a range are held exactly where bits are set, by place
abbrev pub Agrees : HeldBlocks → ℕ → List ℕ → ℕ → Type 0
Agrees ledger first bits count = (place : ℕ) → place < count → holds ledger (first + place) ≡ bit_at bits place

-- the least block of a range of so many that is held where its bit isn't set, or isn't where it is
pub record IsLeastDifference (ledger : HeldBlocks) (first blocks : ℕ) (bits : List ℕ) (difference : Difference) : Type 0 where
  pub place : ℕ
  pub low : place < blocks
  pub at : difference.block ≡ first + place
  pub held : holds ledger (first + place) ≡ difference.held
  pub bit : bit_at bits place ≡ not difference.held
  pub least : Agrees ledger first bits place
