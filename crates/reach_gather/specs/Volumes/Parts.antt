-- What holds of the namings of what `heads` and `load` have tested.
use Rattle.std.specs.Prelude.{◌≡◌, ℕ, true, false, ◌==◌, List, Some, slice_get}
use Rattle.nx_block.specs.Super.{omap_oid_of}
use Rattle.nx_ring.specs.Checkpoint.{Seen, site_of}
use Rattle.omap_map.specs.Fields as maps
use Rattle.omap_map.specs.Features.{is_reverting}
use Rattle.omap_map.specs.Maps.{map_in, contents_of, has_no_snapshots, is_whole_map, resolved_in}
use Rattle.omap_map.specs.declared.records.OmapRecord.{OmapRecord}
use Rattle.vol_view.specs.Volumes.{Loaded}
use Rattle.vol_view.specs.declared.head.VolHead.{VolHead}
use Rattle.vol_view.specs.declared.volume.Snapshot.{Snapshot}
use Rattle.reach_rules.specs.declared.naming.LookUp.TheVariants.{ByBlock}
use Rattle.reach_rules.specs.declared.naming.Object.TheVariants.{Newest, InBlock, OfRecord}
use Rattle.reach_rules.specs.declared.naming.Namer.{Namer}
use Rattle.reach_rules.specs.declared.naming.Namer.TheVariants.{Whole}
use Rattle.reach_rules.specs.declared.naming.TreeKind.TheVariants.{MapRecords, MapSnapshots, SnapMetadata}
use Rattle.reach_rules.specs.declared.naming.Expected.TheVariants.{ContainerMap}
use Rattle.reach_rules.specs.declared.naming.Naming.{Naming}
use Rattle.reach_rules.specs.Naming.{naming}
use Rattle.reach_rules.specs.Resolved.{standing, resolved}
use Rattle.reach_rules.specs.Next.{map_namings, next}
use Rattle.reach_rules.specs.Maps.{GivesMap}
use Rattle.reach_gather.specs.Namings.{tree_steps, IsPlainNaming}
use Rattle.reach_gather.specs.Walked.{IsWholeTree}
use Rattle.reach_gather.specs.Volumes.Told.{head_naming, map_of, told_view, map_in_volume, told_volume, past_view_of, super_naming}

-- the naming of an object map is plain, it leads to the namings of the map's two trees, the map and these trees are whole, and no
-- revert of the map is pending
pub record IsMapPart (image : List ℕ) (seen : Seen) (n : Naming) : Type 0 where
  pub plain : IsPlainNaming image seen n
  pub leads : next image seen n ≡ map_namings (Whole (InBlock n.oid)) (map_in image (site_of seen) n.oid)
  pub whole : is_whole_map image (site_of seen) n.oid ≡ true
  pub settled : is_reverting (map_in image (site_of seen) n.oid) ≡ false
  pub records : IsWholeTree image seen MapRecords (maps.tree_of (map_in image (site_of seen) n.oid))
  pub snapshots : has_no_snapshots (map_in image (site_of seen) n.oid) ≡ false → IsWholeTree image seen MapSnapshots (maps.snap_tree_of (map_in image (site_of seen) n.oid))

-- the naming of the superblock of a snapshot is plain, and leads to what is told of the snapshot's view
pub record IsSnapshotPart (image : List ℕ) (seen : Seen) (volume : Loaded) (i : ℕ) (snapshot : Snapshot) : Type 0 where
  pub plain : IsPlainNaming image seen (super_naming volume i snapshot)
  pub leads : next image seen (super_naming volume i snapshot) ≡ told_view (Whole (InBlock snapshot.super_block)) (past_view_of volume i snapshot) snapshot.root_oid snapshot.meta_ext

-- the tree of a volume's snapshot metadata is whole, where it has one, and the steps that were loaded are those of that tree
pub record HasWholeMetadata (image : List ℕ) (seen : Seen) (volume : Loaded) : Type 0 where
  pub whole : (volume.snaps_root == 0) ≡ false → IsWholeTree image seen SnapMetadata volume.snaps_root
  pub steps : (volume.snaps_root == 0) ≡ false → volume.snaps_steps ≡ tree_steps image seen SnapMetadata volume.snaps_root

-- the object of a volume, by the record of the container's map that gives it
abbrev pub volume_namer : Seen → OmapRecord → Namer
volume_namer seen r = Whole (OfRecord (omap_oid_of seen.nx) r)

-- the naming of a volume resolves by a record of the container's map, is plain, and leads to what the loaded volume tells; the
-- volume's map, the superblocks of its snapshots and its snapshot metadata are right, and what was loaded of its map is what that has
pub record IsVolumePart (image : List ℕ) (seen : Seen) (head : VolHead) (volume : Loaded) : Type 0 where
  pub mapping : OmapRecord
  pub mapped : resolved_in image (site_of seen) (omap_oid_of seen.nx) head.oid seen.line.xid ≡ Some mapping
  pub found : resolved image seen (head_naming head) ≡ Some (standing image (site_of seen) (OfRecord (omap_oid_of seen.nx) mapping) head.block)
  pub plain : IsPlainNaming image seen (head_naming head)
  pub leads : next image seen (head_naming head) ≡ told_volume seen (volume_namer seen mapping) volume
  pub map : IsMapPart image seen (map_in_volume (volume_namer seen mapping) (map_of volume))
  pub contents : volume.omap ≡ contents_of image (site_of seen) (map_of volume)
  pub snapshots : (i : ℕ) (snapshot : Snapshot) → slice_get volume.snaps i ≡ Some snapshot → IsSnapshotPart image seen volume i snapshot
  pub metadata : HasWholeMetadata image seen volume
  pub gives : GivesMap image seen head.slot (map_of volume)

-- the newest superblock names the container's object map
abbrev pub container_map : Seen → Naming
container_map seen = naming (Whole Newest) 160 ContainerMap ByBlock (omap_oid_of seen.nx)
