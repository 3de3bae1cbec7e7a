-- What loaded volumes name, told from what was loaded of them.
use Rattle.std.specs.Prelude.{ℕ, suc, ◌+◌, ◌*◌, Bool, List, [], ◌∷◌, ◌++◌}
use Rattle.nx_ring.specs.Checkpoint.{Seen}
use Rattle.fs_name.specs.Normal.{are_hashed}
use Rattle.vol_view.specs.Volumes.{Loaded}
use Rattle.vol_view.specs.declared.head.VolHead.{VolHead}
use Rattle.vol_view.specs.declared.volume.Snapshot.{Snapshot}
use Rattle.reach_rules.specs.declared.naming.ViewAt.{ViewAt}
use Rattle.reach_rules.specs.declared.naming.LookUp.TheVariants.{ByBlock, InContainer, InView}
use Rattle.reach_rules.specs.declared.naming.Object.TheVariants.{Newest}
use Rattle.reach_rules.specs.declared.naming.Namer.{Namer}
use Rattle.reach_rules.specs.declared.naming.Namer.TheVariants.{Whole, Kept}
use Rattle.reach_rules.specs.declared.naming.TreeKind.TheVariants.{ExtentRefs, SnapMetadata, Files}
use Rattle.reach_rules.specs.declared.naming.Expected.TheVariants.{VolumeIn, VolumeMap, ExtendedMetadata, SnapshotSuper, TreeRoot}
use Rattle.reach_rules.specs.declared.naming.Naming.{Naming}
use Rattle.reach_rules.specs.Naming.{naming}
use Rattle.reach_rules.specs.Next.{unless_zero}

-- the newest superblock names the volume of a head
abbrev pub head_naming : VolHead → Naming
head_naming head = naming (Whole Newest) (184 + 8 * head.slot) (VolumeIn head.slot) InContainer head.oid

-- the block of a loaded volume's object map
abbrev pub map_of : Loaded → ℕ
map_of volume = volume.omap.block

-- the live view of a volume, by its slot, the block of its map, and whether its names are hashed
abbrev pub live_at : Seen → ℕ → ℕ → Bool → ViewAt
live_at seen slot map hashed = record { slot = slot; place = 0; xid = seen.line.xid; map = map; hashed = hashed }

-- the view of its snapshot i
abbrev pub past_at : ℕ → ℕ → Bool → ℕ → Snapshot → ViewAt
past_at slot map hashed i snapshot = record { slot = slot; place = suc i; xid = snapshot.xid; map = map; hashed = hashed }

-- a view's superblock names the root of the view's files and the extended metadata
abbrev pub told_view : Namer → ViewAt → ℕ → ℕ → List Naming
told_view namer view root meta =
    naming namer 136 (TreeRoot (Files view.hashed)) (InView view) root
    ∷ unless_zero namer 1000 ExtendedMetadata (InView view) meta

-- the record of a snapshot names the snapshot's superblock
abbrev pub super_in_view : ViewAt → Snapshot → Naming
super_in_view view snapshot = naming (Kept view) 8 (SnapshotSuper view) ByBlock snapshot.super_block

-- and the root of its extent references
abbrev pub told_snapshot : ViewAt → Snapshot → List Naming
told_snapshot view snapshot = super_in_view view snapshot ∷ unless_zero (Kept view) 0 (TreeRoot ExtentRefs) ByBlock snapshot.extents_root

-- what the records of a volume's snapshots name, the first of them having place i
abbrev pub told_snapshots : ℕ → ℕ → Bool → ℕ → List Snapshot → List Naming
told_snapshots slot map hashed i [] = []
told_snapshots slot map hashed i (snapshot ∷ snapshots) = told_snapshot (past_at slot map hashed i snapshot) snapshot ++ told_snapshots slot map hashed (suc i) snapshots

-- a volume's superblock names the volume's object map
abbrev pub map_in_volume : Namer → ℕ → Naming
map_in_volume namer map = naming namer 128 VolumeMap ByBlock map

-- what a loaded volume names, its object map standing in a block
abbrev pub told_with : Seen → Namer → Loaded → ℕ → List Naming
told_with seen namer volume map =
    map_in_volume namer map
    ∷ told_view namer (live_at seen volume.head.slot map (are_hashed volume.names)) volume.root_oid volume.meta_ext
    ++ (unless_zero namer 144 (TreeRoot ExtentRefs) ByBlock volume.extents_root
    ++ (unless_zero namer 152 (TreeRoot SnapMetadata) ByBlock volume.snaps_root
    ++ told_snapshots volume.head.slot map (are_hashed volume.names) 0 volume.snaps))

-- what a loaded volume names: its object map, what its superblock names in its live view, the roots of its physical trees, and what the records of its snapshots name
abbrev pub told_volume : Seen → Namer → Loaded → List Naming
told_volume seen namer volume = told_with seen namer volume (map_of volume)

-- the view of snapshot i of a loaded volume
abbrev pub past_view_of : Loaded → ℕ → Snapshot → ViewAt
past_view_of volume i snapshot = past_at volume.head.slot (map_of volume) (are_hashed volume.names) i snapshot

-- the naming of the superblock of snapshot i of a loaded volume
abbrev pub super_naming : Loaded → ℕ → Snapshot → Naming
super_naming volume i snapshot = super_in_view (past_view_of volume i snapshot) snapshot
