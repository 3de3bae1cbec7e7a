-- What the parts of a check tell, as faults of the container.
use Rattle.std.specs.Prelude.{ℕ, None, Some}
use Rattle.obj_base.specs.declared.stop.Within.{Within}
use Rattle.obj_base.specs.declared.stop.Within.TheVariants as withins
use Rattle.bt_node.specs.declared.fault.NodeFault.TheVariants.{Head}
use Rattle.bt_cursor.specs.declared.fault.WalkFault.{WalkFault}
use Rattle.bt_cursor.specs.declared.fault.WalkFault.TheVariants as walks
use Rattle.nx_ring.specs.declared.fault.RingFault.{RingFault}
use Rattle.nx_ring.specs.declared.fault.RingFault.TheVariants as rings
use Rattle.omap_map.specs.declared.fault.OmapFault.{OmapFault}
use Rattle.omap_map.specs.declared.fault.OmapFault.TheVariants as maps
use Rattle.vol_view.specs.declared.stop.VolStop.{VolStop}
use Rattle.vol_view.specs.declared.stop.VolStop.TheVariants as volumes
use Rattle.ext_ref.specs.declared.stop.ExtStop.{ExtStop}
use Rattle.ext_ref.specs.declared.stop.ExtStop.TheVariants as extents
use Rattle.space_map.specs.declared.fault.SpaceFault.TheVariants as spaces
use Rattle.space_pool.specs.declared.fault.PoolFault.TheVariants as pools
use Rattle.reach_rules.specs.declared.fault.Why.TheVariants.{Node, Magic}
use Rattle.reach_rules.specs.declared.fault.ReachFault.{ReachFault}
use Rattle.reach_rules.specs.declared.fault.ReachFault.TheVariants as sweeps
use Rattle.view_rules.specs.declared.fault.TreeFault.{TreeFault}
use Rattle.view_rules.specs.declared.fault.TreeFault.TheVariants as trees
use Rattle.apfs_check.specs.declared.fault.Fault.{Fault}
use Rattle.apfs_check.specs.declared.fault.Fault.TheVariants.{BlockZero, Truncated, NoCheckpoint, Unsound, Unnamed, NamedTwice, OwnedTwice, Outside, UnusedMapping, Leaked, Missing, PoolLeaked, PoolMissing, SpaceGeometry, SpaceCab, SpaceCib, SpaceIndex, SpacePlace, SpaceFreeCount, SpaceFreeTotal, PoolCount, PoolIndex, PoolPlace, SnapRecord, SnapCount, SnapName, OmapSnaps, TreeOrder, TreeCounts, Order, Counts, TreeRecord, Record, DupName, Hash, NoParent, NoInode, KindMismatch, DirNames, Unreached, Children, Links, SiblingLost, ExtentOrder, ExtentPlace, ExtentUncovered, LinkTarget, Stream, AttrOwner, NameHash}

-- a fault of block 0, or of the candidates
abbrev pub of_ring : RingFault → Fault
of_ring rings.BlockZero = BlockZero
of_ring (rings.Truncated have need) = Truncated have need
of_ring rings.NoCheckpoint = NoCheckpoint

-- a fault of the tree whose root stands in a block, whose ids are looked up in a space at a transaction
abbrev pub of_walk : Within → ℕ → ℕ → WalkFault → Fault
of_walk within xid root (walks.Unsound block why) = Unsound block (Node why)
of_walk within xid root (walks.Unnamed oid) = Unnamed within oid xid
of_walk within xid root (walks.Order item) = TreeOrder root item
of_walk within xid root walks.Counts = TreeCounts root

-- a fault of an object map, at the checkpoint's transaction
abbrev pub of_map : ℕ → OmapFault → Fault
of_map xid (maps.Head block why) = Unsound block (Node (Head why))
of_map xid (maps.Tree root why) = of_walk withins.Physical xid root why

-- a fault of the volumes, or of one of them, at the checkpoint's transaction
abbrev pub of_volume : ℕ → VolStop → Fault
of_volume xid (volumes.Head block why) = Unsound block (Node (Head why))
of_volume xid (volumes.Magic block) = Unsound block Magic
of_volume xid (volumes.Unnamed within oid) = Unnamed within oid xid
of_volume xid (volumes.Omap fault) = of_map xid fault
of_volume xid (volumes.Walk root why) = of_walk withins.Physical xid root why
of_volume xid (volumes.SnapRecord slot) = SnapRecord slot
of_volume xid (volumes.SnapCount slot) = SnapCount slot
of_volume xid (volumes.SnapName slot) = SnapName slot
of_volume xid (volumes.OmapSnaps slot) = OmapSnaps slot

-- a fault of the extent reference tree of a root, which is its block, at the checkpoint's transaction
abbrev pub of_extents : ℕ → ℕ → ExtStop → Fault
of_extents xid root (extents.Walk why) = of_walk withins.Physical xid root why
of_extents xid root (extents.Value item) = TreeRecord root item

-- a fault of named objects, or of the account of blocks, at the checkpoint's transaction
abbrev pub of_sweep : ℕ → ReachFault → Fault
of_sweep xid (sweeps.Unsound block why) = Unsound block why
of_sweep xid (sweeps.Unnamed within oid at) = Unnamed within oid at
of_sweep xid (sweeps.NamedTwice within oid at) = NamedTwice within oid at
of_sweep xid (sweeps.OwnedTwice block) = OwnedTwice block
of_sweep xid (sweeps.Outside block) = Outside block
of_sweep xid (sweeps.UnusedMapping within oid at) = UnusedMapping within oid at
of_sweep xid (sweeps.Leaked block) = Leaked block
of_sweep xid (sweeps.Missing block) = Missing block
of_sweep xid (sweeps.PoolLeaked block) = PoolLeaked block
of_sweep xid (sweeps.PoolMissing block) = PoolMissing block
of_sweep xid (sweeps.FreeCount chunk) = SpaceFreeCount chunk
of_sweep xid (sweeps.Space (spaces.Unnamed within oid)) = Unnamed within oid xid
of_sweep xid (sweeps.Space (spaces.Unsound block why)) = Unsound block (Node (Head why))
of_sweep xid (sweeps.Space spaces.Geometry) = SpaceGeometry
of_sweep xid (sweeps.Space (spaces.Cab i)) = SpaceCab i
of_sweep xid (sweeps.Space (spaces.Cib i)) = SpaceCib i
of_sweep xid (sweeps.Space (spaces.Index k)) = SpaceIndex k
of_sweep xid (sweeps.Space (spaces.Place block)) = SpacePlace block
of_sweep xid (sweeps.Space spaces.FreeTotal) = SpaceFreeTotal
of_sweep xid (sweeps.Pool (pools.Index i)) = PoolIndex i
of_sweep xid (sweeps.Pool pools.Count) = PoolCount
of_sweep xid (sweeps.Pool (pools.Place block)) = PoolPlace block
of_sweep xid (sweeps.Pool (pools.Unnamed oid)) = Unnamed withins.Ephemeral oid xid
of_sweep xid (sweeps.Pool (pools.Walk root why)) = of_walk withins.Ephemeral xid root why
of_sweep xid (sweeps.Pool (pools.Value root item)) = TreeRecord root item
of_sweep xid (sweeps.Tree root (Some item)) = TreeOrder root item
of_sweep xid (sweeps.Tree root None) = TreeCounts root
of_sweep xid (sweeps.Value root item) = TreeRecord root item

-- a fault of a view
abbrev pub of_view : TreeFault → Fault
of_view (trees.Unsound block why) = Unsound block (Node why)
of_view (trees.Unnamed slot oid xid) = Unnamed (withins.Volume slot) oid xid
of_view (trees.Order slot xid item) = Order slot xid item
of_view (trees.Counts slot xid) = Counts slot xid
of_view (trees.Record slot xid item why) = Record slot xid item why
of_view (trees.DupName at) = DupName at
of_view (trees.Hash at) = Hash at
of_view (trees.NoParent at) = NoParent at
of_view (trees.NoInode slot xid id name) = NoInode slot xid id name
of_view (trees.KindMismatch at) = KindMismatch at
of_view (trees.DirNames at) = DirNames at
of_view (trees.Unreached at) = Unreached at
of_view (trees.Children at) = Children at
of_view (trees.Links at) = Links at
of_view (trees.SiblingLost at) = SiblingLost at
of_view (trees.ExtentOrder at) = ExtentOrder at
of_view (trees.ExtentPlace at) = ExtentPlace at
of_view (trees.ExtentUncovered at) = ExtentUncovered at
of_view (trees.LinkTarget at) = LinkTarget at
of_view (trees.Stream at) = Stream at
of_view (trees.AttrOwner at) = AttrOwner at
of_view (trees.NameHash at) = NameHash at
