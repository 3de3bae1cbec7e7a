-- What an edit of bytes writes, and what it leaves as it was.
use Rattle.std.specs.Prelude.{◌≡◌, ◌≢◌, ℕ, ◌+◌, ◌*◌, ◌/◌, ◌≤◌, List, ◌++◌, length, take, drop}
use Rattle.apfs_model.specs.Bytes.{u64_at}
use Rattle.apfs_model.specs.Blocks.{block_of}
use Rattle.apfs_model.specs.Object.{sum_field}
use Rattle.apfs_model.specs.Sum.{sum_of}

-- the bytes with others in the place of those from a place on
abbrev pub put_at : ℕ → List ℕ → List ℕ → List ℕ
put_at at part bytes = take at bytes ++ (part ++ drop (at + length part) bytes)

-- the bytes before a place, and those from another on, stay as they were
pub record IsSameAround (start end : ℕ) (old new : List ℕ) : Type 0 where
  pub before : take start new ≡ take start old
  pub after : drop end new ≡ drop end old

-- an image has a block
abbrev pub HasBlock : ℕ → ℕ → List ℕ → Type 0
HasBlock size block image = size * block + size ≤ length image

-- a block of an image has the bytes and the sum that belong to them: all bytes but those of the stored sum are these
pub record IsSealedAs (size block : ℕ) (image bytes : List ℕ) : Type 0 where
  pub sum : sum_field (block_of size image block) ≡ sum_of (block_of size image block)
  pub rest : drop 8 (block_of size image block) ≡ drop 8 bytes

-- the block of the bitmap of a block's chunk, as the chunk-info block in block 43 has it
abbrev pub bitmap_of : ℕ → ℕ → List ℕ → ℕ
bitmap_of size block image = u64_at (block_of size image 43) (40 + 32 * (block / (8 * size)) + 24)

-- all blocks stay but the space manager, the chunk-info block, and the bitmap of a block's chunk
abbrev pub OthersStay : ℕ → ℕ → List ℕ → List ℕ → Type 0
OthersStay size block old new = (k : ℕ) → k ≢ 9 → k ≢ 43 → k ≢ bitmap_of size block old → block_of size new k ≡ block_of size old k
