-- What the views of volumes name, which is left to the sweep over all views.
use Rattle.std.specs.Prelude.{◌≡◌, ℕ, suc, Bool, List, [], ◌∷◌, ◌++◌, map, flat_map, slice_get, Some}
use Rattle.apfs_model.specs.Lists.{In}
use Rattle.fs_name.specs.Normal.{are_hashed}
use Rattle.nx_ring.specs.Checkpoint.{Seen, site_of}
use Rattle.omap_map.specs.Maps.{contents_of}
use Rattle.vol_view.specs.Volumes.{Loaded}
use Rattle.vol_view.specs.declared.volume.Snapshot.{Snapshot}
use Rattle.reach_rules.specs.declared.naming.ViewAt.{ViewAt}
use Rattle.reach_rules.specs.declared.naming.Object.TheVariants.{InBlock}
use Rattle.reach_rules.specs.declared.naming.Namer.{Namer}
use Rattle.reach_rules.specs.declared.naming.Namer.TheVariants.{Whole}
use Rattle.reach_rules.specs.declared.naming.Naming.{Naming}
use Rattle.reach_rules.specs.Next.{next}
use Rattle.reach_gather.specs.Namings.{IsPlainNaming}
use Rattle.reach_gather.specs.Volumes.Parts.{IsMapPart, HasWholeMetadata, IsVolumePart, volume_namer}
use Rattle.reach_gather.specs.Volumes.Told.{head_naming, past_at, live_at, map_of, map_in_volume, super_in_view, told_view}

-- what the superblock of a snapshot names in its view
abbrev pub past_view_namings : ViewAt → Snapshot → List Naming
past_view_namings view snapshot = told_view (Whole (InBlock snapshot.super_block)) view snapshot.root_oid snapshot.meta_ext

-- the superblock of a snapshot is plain, and leads to what is told of its view
pub record IsSuperPart (image : List ℕ) (seen : Seen) (view : ViewAt) (snapshot : Snapshot) : Type 0 where
  pub plain : IsPlainNaming image seen (super_in_view view snapshot)
  pub leads : next image seen (super_in_view view snapshot) ≡ past_view_namings view snapshot

-- so it is of each snapshot of a volume whose object map stands in a block
abbrev pub AreSuperParts : List ℕ → Seen → Loaded → ℕ → Type 0
AreSuperParts image seen volume map =
    (i : ℕ) (snapshot : Snapshot) → slice_get volume.snaps i ≡ Some snapshot → IsSuperPart image seen (past_at volume.head.slot map (are_hashed volume.names) i snapshot) snapshot

-- what the superblocks of a volume's snapshots name, the first of them having place i
abbrev pub pasts_namings : ℕ → ℕ → Bool → ℕ → List Snapshot → List Naming
pasts_namings slot map hashed i [] = []
pasts_namings slot map hashed i (snapshot ∷ snapshots) = past_view_namings (past_at slot map hashed i snapshot) snapshot ++ pasts_namings slot map hashed (suc i) snapshots

-- what the views of a volume name, by the object of its superblock
abbrev pub volume_views : Seen → Namer → Loaded → List Naming
volume_views seen namer volume =
    told_view namer (live_at seen volume.head.slot (map_of volume) (are_hashed volume.names)) volume.root_oid volume.meta_ext
    ++ pasts_namings volume.head.slot (map_of volume) (are_hashed volume.names) 0 volume.snaps

-- the map of a volume is right, and is what was loaded of it; and so are the superblocks of its snapshots, and its snapshot metadata
pub record AreVolumeParts (image : List ℕ) (seen : Seen) (namer : Namer) (volume : Loaded) : Type 0 where
  pub map : IsMapPart image seen (map_in_volume namer (map_of volume))
  pub contents : volume.omap ≡ contents_of image (site_of seen) (map_of volume)
  pub snapshots : AreSuperParts image seen volume (map_of volume)
  pub metadata : HasWholeMetadata image seen volume

-- each of some volumes is right, and the object of its superblock is known
abbrev pub AreNamedParts : List ℕ → Seen → (Loaded → Namer) → List Loaded → Type 0
AreNamedParts image seen namer volumes =
    (volume : Loaded) → In volume volumes → (part : IsVolumePart image seen volume.head volume) × (namer volume ≡ volume_namer seen part.mapping)

-- the namings of some volumes by their slots
abbrev pub slots_namings : List Loaded → List Naming
slots_namings volumes = map (λ (volume : Loaded). head_naming volume.head) volumes

-- what the views of some volumes name
abbrev pub loaded_views : Seen → (Loaded → Namer) → List Loaded → List Naming
loaded_views seen namer volumes = flat_map (λ (volume : Loaded). volume_views seen (namer volume) volume) volumes
