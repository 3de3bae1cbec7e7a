-- What is there where the heads of a container can't be loaded, and what holds where they can.
use Rattle.std.specs.Prelude.{◌≡◌, ◌⊎◌, ℕ, ◌<◌, true, false, ◌==◌, List, [], None, Some, is_ok, Err}
use Rattle.apfs_model.specs.Blocks.{in_container}
use Rattle.apfs_model.specs.Lists.{In}
use Rattle.obj_base.specs.declared.stop.Bad.TheVariants.{Found, Unsupported}
use Rattle.obj_base.specs.declared.stop.Feature.{Feature}
use Rattle.obj_base.specs.declared.stop.Within.TheVariants.{Physical, Ephemeral, Container, Volume}
use Rattle.nx_block.specs.Super.{omap_oid_of, fs_oid_of, slots}
use Rattle.nx_ring.specs.Checkpoint.{Seen, site_of}
use Rattle.omap_map.specs.Fields.{snap_count_of}
use Rattle.omap_map.specs.Features.{is_reverting, container_features, snapshot_features, mapping_features}
use Rattle.omap_map.specs.Maps.{map_in, map_snapshots, is_map_object, is_whole_map, IsMapFault, IsMapFeature}
use Rattle.omap_map.specs.declared.records.Place.{Place}
use Rattle.vol_view.specs.Heads.{super_in, super_test, has_magic, is_super, volume_place, volume_block, heads_of}
use Rattle.vol_view.specs.declared.head.VolHead.{VolHead}
use Rattle.vol_view.specs.declared.stop.VolStop.{VolStop}
use Rattle.vol_view.specs.declared.stop.VolStop.TheVariants.{Head, Magic, Unnamed, Omap, Walk, SnapRecord, SnapCount, SnapName, OmapSnaps}

-- a slot names a volume
pub record IsNamed (seen : Seen) (oid : ℕ) : Type 0 where
  pub slot : ℕ
  pub low : slot < slots
  pub same : fs_oid_of seen.nx slot ≡ oid
  pub some : (oid == 0) ≡ false

-- a slot names a volume, which its record puts into a block of the container
pub record IsNamedIn (image : List ℕ) (seen : Seen) (oid : ℕ) (place : Place) : Type 0 where
  pub named : IsNamed seen oid
  pub at : volume_place image seen oid ≡ Some place
  pub inside : in_container (site_of seen).blocks place.block ≡ Some place.block

-- what `heads` names is there: of the container's map, or of a volume that a slot names
abbrev pub IsHeadsStop : List ℕ → Seen → VolStop → Type 0
IsHeadsStop image seen (Head block why) = (oid : ℕ) × (place : Place) × IsNamedIn image seen oid place × (block ≡ place.block) × (super_test image (site_of seen) (Some oid) block ≡ Err (Found why))
IsHeadsStop image seen (Magic block) = (oid : ℕ) × (place : Place) × IsNamedIn image seen oid place × (block ≡ place.block) × (is_ok (super_test image (site_of seen) (Some oid) block) ≡ true) × (has_magic (super_in image (site_of seen) block) ≡ false)
IsHeadsStop image seen (Unnamed Physical oid) = (oid ≡ omap_oid_of seen.nx) × (in_container (site_of seen).blocks oid ≡ None)
IsHeadsStop image seen (Unnamed Container oid) = IsNamed seen oid × (volume_block image seen oid ≡ None)
IsHeadsStop image seen (Unnamed Ephemeral oid) = ⊥
IsHeadsStop image seen (Unnamed (Volume slot) oid) = ⊥
IsHeadsStop image seen (Omap fault) = IsMapFault image (site_of seen) (omap_oid_of seen.nx) fault
IsHeadsStop image seen (Walk root why) = ⊥
IsHeadsStop image seen (SnapRecord slot) = ⊥
IsHeadsStop image seen (SnapCount slot) = ⊥
IsHeadsStop image seen (SnapName slot) = ⊥
IsHeadsStop image seen (OmapSnaps slot) = ⊥

-- a feature of the container's map is there, in the map's block: it counts snapshots, or one of them is being deleted or reverted to
abbrev pub IsContainerMapFeature : List ℕ → Seen → Feature → ℕ → Type 0
IsContainerMapFeature image seen feature block =
    (block ≡ omap_oid_of seen.nx)
    × ((is_map_object image (site_of seen) (omap_oid_of seen.nx) ≡ true)
    × (In feature (container_features (snap_count_of (map_in image (site_of seen) (omap_oid_of seen.nx)))) ⊎ In feature (snapshot_features (map_snapshots image (site_of seen) (omap_oid_of seen.nx)))))

-- a feature of a volume that a slot names is there, in the volume's block: of the record that gives the block, or of the superblock's header
abbrev pub IsVolumeFeature : List ℕ → Seen → Feature → ℕ → Type 0
IsVolumeFeature image seen feature block =
    (oid : ℕ) × (place : Place) × IsNamedIn image seen oid place × (block ≡ place.block)
    × (In feature (mapping_features (site_of seen).block_size place.flags place.size) ⊎ (super_test image (site_of seen) (Some oid) block ≡ Err (Unsupported feature)))

-- a feature that `heads` names is there
abbrev pub IsHeadsFeature : List ℕ → Seen → Feature → ℕ → Type 0
IsHeadsFeature image seen feature block =
    IsMapFeature image (site_of seen) (omap_oid_of seen.nx) feature block
    ⊎ (IsContainerMapFeature image seen feature block ⊎ IsVolumeFeature image seen feature block)

-- the container's map is whole, and it has no feature
pub record IsPlainMap (image : List ℕ) (seen : Seen) : Type 0 where
  pub whole : is_whole_map image (site_of seen) (omap_oid_of seen.nx) ≡ true
  pub settled : is_reverting (map_in image (site_of seen) (omap_oid_of seen.nx)) ≡ false
  pub plain : container_features (snap_count_of (map_in image (site_of seen) (omap_oid_of seen.nx))) ≡ []
  pub unmarked : snapshot_features (map_snapshots image (site_of seen) (omap_oid_of seen.nx)) ≡ []

-- an oid names a sound superblock, through a record without a feature
pub record IsVolume (image : List ℕ) (seen : Seen) (oid : ℕ) : Type 0 where
  pub place : Place
  pub at : volume_place image seen oid ≡ Some place
  pub inside : in_container (site_of seen).blocks place.block ≡ Some place.block
  pub plain : mapping_features (site_of seen).block_size place.flags place.size ≡ []
  pub super : is_super image (site_of seen) (Some oid) place.block ≡ true

-- nothing that `heads` could name is there
pub record AreRight (image : List ℕ) (seen : Seen) : Type 0 where
  pub map : IsPlainMap image seen
  pub volumes : (slot : ℕ) → slot < slots → (fs_oid_of seen.nx slot == 0) ≡ false → IsVolume image seen (fs_oid_of seen.nx slot)

-- nothing that `heads` could name is there, and these are the heads
pub record AreHeads (image : List ℕ) (seen : Seen) (heads : List VolHead) : Type 0 where
  pub right : AreRight image seen
  pub same : heads ≡ heads_of image seen
