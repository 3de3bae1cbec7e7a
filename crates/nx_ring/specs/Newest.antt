-- The newest checkpoint.
use Rattle.std.specs.Prelude.{◌≡◌, ◌⊎◌, ℕ, nat_lt, List, map, filter, Option, None, Some, option_map, Result, Ok, Err}
use Rattle.apfs_model.specs.Lists.{greatest, In}
use Rattle.obj_base.specs.declared.stop.Feature.{Feature}
use Rattle.obj_base.specs.declared.stop.Stop.{Stop}
use Rattle.obj_base.specs.declared.stop.Stop.TheVariants.{Found, Unsupported}
use Rattle.nx_ring.specs.declared.areas.Areas.{Areas}
use Rattle.nx_ring.specs.declared.line.RingLine.{RingLine}
use Rattle.nx_ring.specs.declared.fault.RingFault.{RingFault}
use Rattle.nx_ring.specs.declared.fault.RingFault.TheVariants.{NoCheckpoint}
use Rattle.nx_ring.specs.Zero.{zero_of, areas_of, after_zero}
use Rattle.nx_ring.specs.Candidates.{all_candidates, ring_block}
use Rattle.nx_ring.specs.Objects.{place_at}
use Rattle.nx_ring.specs.Valid.{is_valid, mappings_of}
use Rattle.nx_ring.specs.Checkpoint.{Seen}
use Rattle.nx_ring.specs.Features.{container_features}

-- of some candidates, the valid one of the greatest transaction, and the first of them on a tie
abbrev pub newest_among : List ℕ → Areas → List RingLine → Option RingLine
newest_among image areas lines = greatest (λ (line : RingLine). line.xid) (filter (is_valid image areas) lines)

-- the valid candidate of the greatest transaction, and of the least index on a tie
unfoldable pub newest_line : List ℕ → Areas → Option RingLine
newest_line image areas = newest_among image areas (all_candidates image areas)

-- the candidates of a greater transaction, by index and transaction
unfoldable pub skipped_of : List RingLine → ℕ → List (ℕ × ℕ)
skipped_of lines xid = map (λ (line : RingLine). (line.index, line.xid)) (filter (λ (line : RingLine). nat_lt xid line.xid) lines)

-- the checkpoint of a line, before which these candidates stand
unfoldable pub seen_of : List ℕ → Areas → List (ℕ × ℕ) → RingLine → Seen
seen_of image areas skipped line = record {
  line = line;
  nx = ring_block image areas line.index;
  mapped = map (place_at image areas) (mappings_of image areas line);
  skipped = skipped;
}

-- the checkpoint of a line
unfoldable pub checkpoint_of : List ℕ → Areas → RingLine → Seen
checkpoint_of image areas line = seen_of image areas (skipped_of (all_candidates image areas) line.xid) line

-- the newest checkpoint, where there is one
abbrev pub checkpoint_or : Option Seen → Result Seen (Stop RingFault)
checkpoint_or None = Err (Found NoCheckpoint)
checkpoint_or (Some seen) = Ok seen

-- the newest checkpoint, or the first of the four tests that fails
unfoldable pub newest_of : List ℕ → Result Seen (Stop RingFault)
newest_of image =
    let areas = areas_of (zero_of image) in
    after_zero image (checkpoint_or (option_map (checkpoint_of image areas) (newest_line image areas)))

-- NoCheckpoint: no candidate is valid
abbrev pub HasNoCheckpoint : List ℕ → Type 0
HasNoCheckpoint image = newest_line image (areas_of (zero_of image)) ≡ None

-- a feature of a checkpoint's container, in the block of its superblock
abbrev pub IsFeatureOf : Seen → Feature → ℕ → Type 0
IsFeatureOf seen name block = In name (container_features seen.nx) × (block ≡ seen.line.block)

-- a feature of the container, by its newest checkpoint
abbrev pub IsContainerFeature : List ℕ → Feature → ℕ → Type 0
IsContainerFeature image name block = (seen : Seen) × ((newest_of image ≡ Ok seen) × IsFeatureOf seen name block)

-- the fault is the one of the first of the four tests that fails
abbrev pub IsFault : List ℕ → RingFault → Type 0
IsFault image fault = newest_of image ≡ Err (Found fault)

-- the feature is that of the third test, or one of the container
abbrev pub IsFeature : List ℕ → Feature → ℕ → Type 0
IsFeature image name block = (newest_of image ≡ Err (Unsupported name block)) ⊎ IsContainerFeature image name block
