-- How many reads the check of a container takes at most, where it finds it well-formed. A node counts as often as it is met.
use Rattle.std.specs.Prelude.{ℕ, ◌+◌, ◌*◌, List, ◌∷◌, length, map, sum, if◌then◌else◌}
use Rattle.obj_base.specs.declared.site.Site.{Site}
use Rattle.nx_block.specs.Super.{desc_blocks_of, data_blocks_of}
use Rattle.nx_ring.specs.Checkpoint.{Seen, site_of}
use Rattle.nx_ring.specs.Reading.{zero_reads}
use Rattle.nx_ring.specs.Zero.{zero_of}
use Rattle.vol_view.specs.Heads.{heads_of}
use Rattle.vol_view.specs.Placed.{view_nodes}
use Rattle.vol_view.specs.ReadBound.{heads_reads, load_reads}
use Rattle.vol_view.specs.Views.{views_of}
use Rattle.vol_view.specs.Volumes.{Loaded}
use Rattle.vol_view.specs.declared.volume.View.{View}
use Rattle.ext_ref.specs.Ranges.{node_blocks_of}
use Rattle.reach_rules.specs.Bound.{account_reads}
use Rattle.apfs_check.specs.Data.{has_no_snapshots}
use Rattle.apfs_check.specs.Steps.{snapshot_root}
use Rattle.apfs_check.specs.Volumes.{volume_of}

-- for the newest checkpoint: block 0, the descriptor area, and for each of its blocks at most so many as both areas have
unfoldable pub newest_reads : List ℕ → ℕ
newest_reads image = zero_reads image + desc_blocks_of (zero_of image) + desc_blocks_of (zero_of image) * (desc_blocks_of (zero_of image) + data_blocks_of (zero_of image))

-- to load a volume: its superblock, its map, its snapshot metadata tree, and the superblock of each of its snapshots
abbrev pub loading_reads : List ℕ → Site → Loaded → ℕ
loading_reads image site volume = load_reads image site volume.head volume.snaps

-- for the new ranges of a root: the nodes of its extent reference tree
abbrev pub root_reads : List ℕ → Site → ℕ → ℕ
root_reads image site root = length (node_blocks_of image site root)

-- for the new ranges of a volume: its own, and those of each of its snapshots
abbrev pub ranges_reads : List ℕ → Site → Loaded → ℕ
ranges_reads image site volume = sum (map (root_reads image site) (volume.extents_root ∷ map snapshot_root volume.snaps))

-- for a view: the nodes of its tree, and where the volume has snapshots twice as many
abbrev pub view_reads : List ℕ → Site → Loaded → View → ℕ
view_reads image site volume view = if has_no_snapshots volume then length (view_nodes image site volume view) else 2 * length (view_nodes image site volume view)

-- for a volume that is loaded: its new ranges, and each of its views
abbrev pub volume_reads : List ℕ → Seen → Loaded → ℕ
volume_reads image seen volume = ranges_reads image (site_of seen) volume + sum (map (view_reads image (site_of seen) volume) (views_of volume seen))

-- the volumes of a container
abbrev pub volumes_in : List ℕ → Seen → List Loaded
volumes_in image seen = map (volume_of image seen) (heads_of image seen)

-- for all, in this order: the newest checkpoint, the volumes' superblocks, each volume's loading, the account of blocks, and each volume
unfoldable pub check_reads : List ℕ → Seen → List ℕ → ℕ → ℕ
check_reads image seen manager objects =
    newest_reads image
    + heads_reads image seen (heads_of image seen)
    + sum (map (loading_reads image (site_of seen)) (volumes_in image seen))
    + account_reads objects manager
    + sum (map (volume_reads image seen) (volumes_in image seen))
