-- The features of an object map, of its snapshots, and of the mappings that are used.
use Rattle.std.specs.Prelude.{ℕ, Bool, not, ◌||◌, ◌==◌, List, []}
use Rattle.std.specs.List.{list_any}
use Rattle.obj_base.specs.Features.{with_feature}
use Rattle.obj_base.specs.declared.stop.Feature.{Feature}
use Rattle.obj_base.specs.declared.stop.Feature.TheVariants.{Revert, SnapshotState, ContainerSnapshots, Encrypted, NoHeader, Size}
use Rattle.omap_map.specs.Fields.{revert_min_of, revert_max_of}
use Rattle.omap_map.specs.Records.{maps_encrypted, maps_headless}

-- Revert: a revert of the map to a snapshot is pending
unfoldable pub is_reverting : List ℕ → Bool
is_reverting bytes = not (revert_min_of bytes == 0) || not (revert_max_of bytes == 0)

-- the features of a map by its fields; the block is the map's
abbrev pub map_features : List ℕ → List Feature
map_features bytes = with_feature (is_reverting bytes) Revert []

-- SnapshotState: a snapshot of the map is being deleted or reverted to
abbrev pub has_snapshot_state : List (ℕ × ℕ) → Bool
has_snapshot_state snapshots = list_any (λ s. not (s.1 == 0)) snapshots

-- the features of a map's snapshots; the block is the map's
abbrev pub snapshot_features : List (ℕ × ℕ) → List Feature
snapshot_features snapshots = with_feature (has_snapshot_state snapshots) SnapshotState []

-- ContainerSnapshots: the container's map counts snapshots; the block is the map's
abbrev pub container_features : ℕ → List Feature
container_features snap_count = with_feature (not (snap_count == 0)) ContainerSnapshots []

-- the features of a used mapping, by its flags and its size; the block is the one that the mapping gives
abbrev pub mapping_features : ℕ → ℕ → ℕ → List Feature
mapping_features block_size flags size =
    with_feature (maps_encrypted flags) Encrypted
    (with_feature (maps_headless flags) NoHeader
    (with_feature (not (size == block_size)) Size []))
