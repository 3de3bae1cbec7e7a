-- Which blocks a cache keeps, and what they hold.
use Rattle.std.specs.Prelude.{◌≡◌, ◌⊎◌, ℕ, ◌+◌, ◌-◌, ◌*◌, ◌/◌, ◌<◌, ◌≤◌, Bool, true, min, List, length, Option, Some, Contains, is_some, nat_eq, Vec}
use Rattle.std.specs.Map.{lookup}
use Rattle.std.specs.declared.alloc.Global.{Global}
use Rattle.apfs_model.specs.Blocks.{block_of}
use Rattle.obj_base.specs.BlockSize.{is_accepted}
use Rattle.blk_cache.specs.declared.store.Store.{Store}

-- a block is kept
abbrev pub keeps : Store → ℕ → Bool
keeps store block = is_some (lookup (nat_eq block) store.blocks.entries)

-- a cache has as many blocks as it may have
abbrev pub IsFull : Store → Type 0
IsFull store = length store.blocks.entries ≡ store.blocks.cap

-- a read of so many bytes from a place on touches a block of a size
abbrev pub Touches : ℕ → ℕ → ℕ → ℕ → Type 0
Touches size at len block = (at < size * block + size) × (size * block < at + len)

-- the last block that such a read touches
abbrev pub last_touched : ℕ → ℕ → ℕ → ℕ
last_touched size at len = (at + len - 1) / size

-- how many blocks such a read touches, where it has a byte or more
abbrev pub touched_count : ℕ → ℕ → ℕ → ℕ
touched_count size at len = last_touched size at len - at / size + 1

-- a block that is kept lies before the source's end, and has the bytes of the source, as far as it goes on, where they are told
pub record IsCopy {S : Type 0} (bytes : S → Option (List ℕ)) (bytes_len : S → ℕ) (inner : S) (size : ℕ) (entry : ℕ × Vec ℕ Global) : Type 0 where
  pub inside : size * entry.0 < bytes_len inner
  pub long : length entry.1.items ≡ min size (bytes_len inner - size * entry.0)
  pub same : (image : List ℕ) → bytes inner ≡ Some image → entry.1.items ≡ block_of size image entry.0

-- what is kept of a source
pub record IsCache {S : Type 0} (bytes : S → Option (List ℕ)) (bytes_len : S → ℕ) (inner : S) (store : Store) : Type 0 where
  pub accepted : is_accepted store.size ≡ true
  pub room : 0 < store.blocks.cap
  pub fits : length store.blocks.entries ≤ store.blocks.cap
  pub copies : (entry : ℕ × Vec ℕ Global) → Contains store.blocks.entries entry → IsCopy bytes bytes_len inner store.size entry

-- a block that was kept is kept, or the cache is full; the count of lost blocks never falls
pub record Grows (old new : Store) : Type 0 where
  pub same_size : new.size ≡ old.size
  pub same_cap : new.blocks.cap ≡ old.blocks.cap
  pub longer : length old.blocks.entries ≤ length new.blocks.entries
  pub stays : (block : ℕ) → keeps old block ≡ true → (keeps new block ≡ true) ⊎ IsFull new
  pub lost_later : old.lost ≤ new.lost

-- the same blocks are kept, and none was lost
pub record IsSame (old new : Store) : Type 0 where
  pub same_blocks : (block : ℕ) → keeps new block ≡ keeps old block
  pub same_lost : new.lost ≡ old.lost

-- the same blocks are kept, maybe in another order
pub record IsReordered (old new : Store) : Type 0 where
  pub same_size : new.size ≡ old.size
  pub same_cap : new.blocks.cap ≡ old.blocks.cap
  pub same_length : length new.blocks.entries ≡ length old.blocks.entries
  pub same_blocks : (block : ℕ) → keeps new block ≡ keeps old block
  pub within : (entry : ℕ × Vec ℕ Global) → Contains new.blocks.entries entry → Contains old.blocks.entries entry
  pub same_lost : new.lost ≡ old.lost
