-- What is known of areas, candidates, objects and checkpoints while they are read.
use Rattle.std.specs.Prelude.{◌≡◌, ℕ, ◌+◌, ◌*◌, ◌%◌, ◌^◌, ◌≤◌, ◌<◌, true, ◌==◌, List, length, Result, Ok, Err, if◌then◌else◌, map, Some, All}
use Rattle.obj_base.specs.BlockSize.{is_accepted}
use Rattle.obj_base.specs.declared.stop.Stop.{Stop}
use Rattle.obj_base.specs.declared.stop.Stop.TheVariants.{Found}
use Rattle.nx_block.specs.Super.{block_size_of, block_count_of}
use Rattle.nx_ring.specs.declared.areas.Areas.{Areas}
use Rattle.nx_ring.specs.declared.fault.RingFault.{RingFault}
use Rattle.nx_ring.specs.declared.fault.RingFault.TheVariants.{BlockZero}
use Rattle.nx_ring.specs.Zero.{areas_of, has_zero, is_whole, size_in, where_whole, zero_of}
use Rattle.nx_ring.specs.Objects.{Place}
use Rattle.nx_ring.specs.declared.line.RingLine.{RingLine}
use Rattle.nx_ring.specs.Candidates.{candidate}
use Rattle.nx_ring.specs.Checkpoint.{Seen}
use Rattle.nx_ring.specs.Valid.{is_valid, mappings_of, blocks_of}

-- block 0, where it lies wholly in the image
unfoldable pub zero_in : List ℕ → Result (List ℕ) (Stop RingFault)
zero_in image = if has_zero image then Ok (zero_of image) else Err (Found BlockZero)

-- the areas that block 0 names in an image of so many bytes, or the first of the tests that fails
unfoldable pub areas_in : ℕ → List ℕ → Result Areas (Stop RingFault)
areas_in len zero = if is_whole zero then where_whole len zero (Ok (areas_of zero)) else Err (Found BlockZero)

-- how many reads block 0 takes: one for the first bytes, and one more where it is larger
unfoldable pub zero_reads : List ℕ → ℕ
zero_reads image = if size_in image == 4096 then 1 else 2

-- areas of one block or more, contiguous, in an image of so many bytes
pub record Fits (areas : Areas) (len : ℕ) : Type 0 where
  pub accepted : is_accepted areas.size ≡ true
  pub some_desc : 0 < areas.desc_blocks
  pub some_data : 0 < areas.data_blocks
  pub few_desc : areas.desc_blocks < 2 ^ 31
  pub few_data : areas.data_blocks < 2 ^ 31
  pub small_desc : areas.desc_base + areas.desc_blocks < 2 ^ 64
  pub small_data : areas.data_base + areas.data_blocks < 2 ^ 64
  pub desc : areas.size * (areas.desc_base + areas.desc_blocks) ≤ len
  pub «data» : areas.size * (areas.data_base + areas.data_blocks) ≤ len

-- the length of an object of whole blocks, each of 4,096 bytes or a multiple
pub record HasWholeBlocks (bytes : List ℕ) : Type 0 where
  pub long : 4096 ≤ length bytes
  pub even : length bytes % 4 ≡ 0

-- each line is the candidate at its index
abbrev pub AreCandidates : List ℕ → Areas → List RingLine → Type 0
AreCandidates image areas lines = All (λ line. candidate image areas line.index ≡ Some line) lines

-- the oids of the ephemeral map
unfoldable pub eph_ids : Seen → List ℕ
eph_ids seen = map (λ (p : Place). p.oid) seen.mapped

-- how many blocks of objects are loaded for a line: all where it is valid, otherwise none
abbrev pub loaded : List ℕ → Areas → RingLine → ℕ
loaded image areas line = if is_valid image areas line then length (blocks_of areas (mappings_of image areas line)) else 0

-- a checkpoint, with the candidates before which it stands
abbrev pub passing : Seen → List (ℕ × ℕ) → Seen
passing seen skipped = record { line = seen.line; nx = seen.nx; mapped = seen.mapped; skipped = skipped }

-- a superblock's container lies in an image of so many bytes
abbrev pub IsHeld : List ℕ → ℕ → Type 0
IsHeld nx len = block_count_of nx * block_size_of nx ≤ len
