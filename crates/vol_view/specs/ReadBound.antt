-- How many reads the volumes of a container, and a volume whole, take at most.
use Rattle.std.specs.Prelude.{ℕ, ◌+◌, ◌==◌, List, length, if◌then◌else◌}
use Rattle.obj_base.specs.declared.site.Site.{Site}
use Rattle.nx_block.specs.Super as super_block
use Rattle.nx_ring.specs.Checkpoint.{Seen, site_of}
use Rattle.bt_cursor.specs.Met.{nodes_of}
use Rattle.omap_map.specs.Loading.{map_nodes}
use Rattle.vol_view.specs.declared.head.VolHead.{VolHead}
use Rattle.vol_view.specs.declared.volume.Snapshot.{Snapshot}
use Rattle.vol_view.specs.Fields.{omap_oid_of, snaps_root_of}
use Rattle.vol_view.specs.SnapRecords.{metadata_tree}
use Rattle.vol_view.specs.Volumes.{super_of}

-- how many nodes the snapshot metadata tree of a root has, each counted as often as it is met; none where the root is 0
unfoldable pub metadata_nodes : List ℕ → Site → ℕ → ℕ
metadata_nodes image site root = if root == 0 then 0 else length (nodes_of (metadata_tree image site) root)

-- for the volumes: the container's map with the nodes of its trees, and each volume's superblock
unfoldable pub heads_reads : List ℕ → Seen → List VolHead → ℕ
heads_reads image seen heads = 1 + map_nodes image (site_of seen) (super_block.omap_oid_of seen.nx) + length heads

-- for a volume whole: its superblock, its map with the nodes of the map's trees, the nodes of its snapshot metadata tree, and each snapshot's superblock
unfoldable pub load_reads : List ℕ → Site → VolHead → List Snapshot → ℕ
load_reads image site head snaps =
    2 + map_nodes image site (omap_oid_of (super_of image site head)) + metadata_nodes image site (snaps_root_of (super_of image site head)) + length snaps
