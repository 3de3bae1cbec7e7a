-- Whether the bits of a part of the container mark the blocks that are held, and a free count says what the bits do.
use Rattle.std.specs.Prelude.{◌≡◌, ℕ, ◌+◌, ◌*◌, ◌<◌, Bool, true, false, not, List, length, filter, if◌then◌else◌}
use Rattle.std.specs.List.{range_with_len}
use Rattle.space_map.specs.Geometry.{chunk_len}
use Rattle.space_map.specs.Chunks.{chunk_at}
use Rattle.space_map.specs.Marks.{is_marked_in}
use Rattle.space_map.specs.Tests.{share}
use Rattle.space_map.specs.Stops.{Known}
use Rattle.own_ledger.specs.declared.held.Difference.{Difference}
use Rattle.reach_rules.specs.declared.fault.ReachFault.{ReachFault}
use Rattle.reach_rules.specs.declared.fault.ReachFault.TheVariants.{Unsound, Unnamed, NamedTwice, OwnedTwice, Outside, UnusedMapping, Leaked, Missing, PoolLeaked, PoolMissing, FreeCount, Space, Pool, Tree, Value}

-- how many of the first so many blocks aren't marked
unfoldable pub unmarked : (ℕ → Bool) → ℕ → ℕ
unmarked mark blocks = length (filter (λ place. not (mark place)) (range_with_len 0 blocks))

-- so many blocks from a first on are held exactly where they are marked, by place, and a free count is the number of those that aren't
pub record IsAgreed (mark held : ℕ → Bool) (first blocks free : ℕ) : Type 0 where
  pub marks : (place : ℕ) → place < blocks → mark place ≡ held (first + place)
  pub count : free ≡ unmarked mark blocks

-- a block among so many from a first on has a mark, and is held or not
pub record HasMarkAt (mark held : ℕ → Bool) (first blocks block : ℕ) (is_marked is_held : Bool) : Type 0 where
  pub place : ℕ
  pub low : place < blocks
  pub at : block ≡ first + place
  pub mark_is : mark place ≡ is_marked
  pub held_is : held (first + place) ≡ is_held

-- the free count of a chunk of a number is another than that of the blocks that aren't marked
pub record HasWrongCount (mark : ℕ → Bool) (number blocks free chunk : ℕ) : Type 0 where
  pub same : chunk ≡ number
  pub wrong : free ≡ unmarked mark blocks → ⊥

-- what is named where they don't agree is there
abbrev pub IsAgreeFault : (ℕ → Bool) → (ℕ → Bool) → ℕ → ℕ → ℕ → ℕ → ReachFault → Type 0
IsAgreeFault mark held number first blocks free (Unsound block why) = ⊥
IsAgreeFault mark held number first blocks free (Unnamed within oid xid) = ⊥
IsAgreeFault mark held number first blocks free (NamedTwice within oid xid) = ⊥
IsAgreeFault mark held number first blocks free (OwnedTwice block) = ⊥
IsAgreeFault mark held number first blocks free (Outside block) = ⊥
IsAgreeFault mark held number first blocks free (UnusedMapping within oid xid) = ⊥
IsAgreeFault mark held number first blocks free (Leaked block) = HasMarkAt mark held first blocks block true false
IsAgreeFault mark held number first blocks free (Missing block) = HasMarkAt mark held first blocks block false true
IsAgreeFault mark held number first blocks free (PoolLeaked block) = ⊥
IsAgreeFault mark held number first blocks free (PoolMissing block) = ⊥
IsAgreeFault mark held number first blocks free (FreeCount chunk) = HasWrongCount mark number blocks free chunk
IsAgreeFault mark held number first blocks free (Space fault) = ⊥
IsAgreeFault mark held number first blocks free (Pool fault) = ⊥
IsAgreeFault mark held number first blocks free (Tree root item) = ⊥
IsAgreeFault mark held number first blocks free (Value root item) = ⊥

-- what a difference of a ledger and the bits says of a block
abbrev pub told_of : Difference → ReachFault
told_of difference = if difference.held then Missing difference.block else Leaked difference.block

-- the marks of a chunk, by place
abbrev pub marks_in : List ℕ → Known → ℕ → ℕ → Bool
marks_in image space k = is_marked_in space.site.block_size image (chunk_at space.site.block_size image space.manager k)

-- the first block of a chunk by its place, and the number of its blocks
abbrev pub first_of : Known → ℕ → ℕ
first_of space k = k * chunk_len space.site.block_size

abbrev pub count_of : Known → ℕ → ℕ
count_of space k = share space.site.blocks (chunk_len space.site.block_size) k

-- the free count of a chunk
abbrev pub free_at : List ℕ → Known → ℕ → ℕ
free_at image space k = (chunk_at space.site.block_size image space.manager k).free

-- a chunk agrees with the blocks that are held
abbrev pub IsChunkAgreed : List ℕ → Known → (ℕ → Bool) → ℕ → Type 0
IsChunkAgreed image space held k = IsAgreed (marks_in image space k) held (first_of space k) (count_of space k) (free_at image space k)

-- a fault of a chunk is there
abbrev pub IsChunkFault : List ℕ → Known → (ℕ → Bool) → ℕ → ReachFault → Type 0
IsChunkFault image space held k fault = IsAgreeFault (marks_in image space k) held k (first_of space k) (count_of space k) (free_at image space k) fault

-- a fault of one of the chunks is there
pub record IsOfChunk (image : List ℕ) (space : Known) (held : ℕ → Bool) (fault : ReachFault) : Type 0 where
  pub chunk : ℕ
  pub low : chunk < length space.chunks
  pub present : IsChunkFault image space held chunk fault
