-- The fields of an object map (Object Maps, omap_phys_t).
use Rattle.std.specs.Prelude.{ℕ, List}
use Rattle.apfs_model.specs.Bytes.{u32_at, u64_at}

-- how many snapshots the map counts (om_snap_count)
unfoldable pub snap_count_of : List ℕ → ℕ
snap_count_of bytes = u32_at bytes 36

-- the root of the tree of the map's records, a physical oid (om_tree_oid)
unfoldable pub tree_of : List ℕ → ℕ
tree_of bytes = u64_at bytes 48

-- the root of the tree of the map's snapshots, a physical oid, 0 where there is none (om_snapshot_tree_oid)
unfoldable pub snap_tree_of : List ℕ → ℕ
snap_tree_of bytes = u64_at bytes 56

-- the least and the greatest transaction of a pending revert, both 0 where none is pending (om_pending_revert_min, om_pending_revert_max)
unfoldable pub revert_min_of : List ℕ → ℕ
revert_min_of bytes = u64_at bytes 72

unfoldable pub revert_max_of : List ℕ → ℕ
revert_max_of bytes = u64_at bytes 80
