-- Trees that are whole, by their roots.
use Rattle.std.specs.Prelude.{◌≡◌, ℕ, true, Bool, List}
use Rattle.bt_cursor.specs.Met.{is_walkable}
use Rattle.nx_ring.specs.Checkpoint.{Seen, site_of}
use Rattle.omap_map.specs.Maps.{record_tree, snapshot_tree}
use Rattle.vol_view.specs.SnapRecords.{metadata_tree}
use Rattle.ext_ref.specs.Ranges.{ext_tree}
use Rattle.space_pool.specs.Queues.{queue_tree}
use Rattle.reach_rules.specs.declared.naming.TreeKind.{TreeKind}
use Rattle.reach_rules.specs.declared.naming.TreeKind.TheVariants.{MapRecords, MapSnapshots, ExtentRefs, SnapMetadata, FreeQueue, Files}
use Rattle.reach_rules.specs.Trees.{IsRightTree}

-- each place that is met in the tree of a root has a node; a view's is not looked at here
unfoldable pub has_all_nodes : List ℕ → Seen → TreeKind → ℕ → Bool
has_all_nodes image seen MapRecords root = is_walkable (record_tree image (site_of seen)) root
has_all_nodes image seen MapSnapshots root = is_walkable (snapshot_tree image (site_of seen)) root
has_all_nodes image seen ExtentRefs root = is_walkable (ext_tree image (site_of seen)) root
has_all_nodes image seen SnapMetadata root = is_walkable (metadata_tree image (site_of seen)) root
has_all_nodes image seen (FreeQueue which) root = is_walkable (queue_tree image seen) root
has_all_nodes image seen (Files hashed) root = true

-- the tree of a root has all its nodes, is in order and counted, and no value in it is too short
pub record IsWholeTree (image : List ℕ) (seen : Seen) (kind : TreeKind) (root : ℕ) : Type 0 where
  pub nodes : has_all_nodes image seen kind root ≡ true
  pub right : IsRightTree image seen kind root
