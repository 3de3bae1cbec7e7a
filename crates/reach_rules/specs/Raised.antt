-- What the parts of a container tell, said of the account.
use Rattle.std.specs.Prelude.{ℕ, Some, None}
use Rattle.obj_base.specs.declared.stop.Within.{Within}
use Rattle.obj_base.specs.declared.stop.Within.TheVariants.{Physical, Ephemeral}
use Rattle.bt_node.specs.declared.fault.NodeFault.TheVariants.{Head}
use Rattle.bt_cursor.specs.declared.fault.WalkFault.{WalkFault}
use Rattle.bt_cursor.specs.declared.fault.WalkFault.TheVariants as walks
use Rattle.nx_ring.specs.Checkpoint.{Seen}
use Rattle.omap_map.specs.declared.fault.OmapFault.{OmapFault}
use Rattle.omap_map.specs.declared.fault.OmapFault.TheVariants as omaps
use Rattle.space_map.specs.declared.fault.SpaceFault.{SpaceFault}
use Rattle.space_map.specs.declared.fault.SpaceFault.TheVariants as spaces
use Rattle.space_pool.specs.declared.fault.PoolFault.{PoolFault}
use Rattle.space_pool.specs.declared.fault.PoolFault.TheVariants as pools
use Rattle.ext_ref.specs.declared.stop.ExtStop.{ExtStop}
use Rattle.ext_ref.specs.declared.stop.ExtStop.TheVariants as exts
use Rattle.reach_rules.specs.declared.fault.Why.TheVariants.{Node}
use Rattle.reach_rules.specs.declared.fault.ReachFault.{ReachFault}
use Rattle.reach_rules.specs.declared.fault.ReachFault.TheVariants.{Unsound, Unnamed, Space, Pool, Tree, Value}

-- a fault of the space: an id that doesn't resolve and an object that isn't sound have faults of their own
abbrev pub of_space : Seen → SpaceFault → ReachFault
of_space seen (spaces.Unnamed within oid) = Unnamed within oid seen.line.xid
of_space seen (spaces.Unsound block why) = Unsound block (Node (Head why))
of_space seen spaces.Geometry = Space spaces.Geometry
of_space seen (spaces.Cab i) = Space (spaces.Cab i)
of_space seen (spaces.Cib i) = Space (spaces.Cib i)
of_space seen (spaces.Index k) = Space (spaces.Index k)
of_space seen (spaces.Place block) = Space (spaces.Place block)
of_space seen spaces.FreeTotal = Space spaces.FreeTotal

-- a fault of a walk over the tree whose root stands in a block, of ids that are looked up in a space at a transaction
abbrev pub of_walk : Within → ℕ → ℕ → WalkFault → ReachFault
of_walk within xid root (walks.Unsound block why) = Unsound block (Node why)
of_walk within xid root (walks.Unnamed oid) = Unnamed within oid xid
of_walk within xid root (walks.Order item) = Tree root (Some item)
of_walk within xid root walks.Counts = Tree root None

-- a fault of the pool's bitmap or of a free queue
abbrev pub of_pool : Seen → PoolFault → ReachFault
of_pool seen (pools.Index i) = Pool (pools.Index i)
of_pool seen pools.Count = Pool pools.Count
of_pool seen (pools.Place block) = Pool (pools.Place block)
of_pool seen (pools.Unnamed oid) = Unnamed Ephemeral oid seen.line.xid
of_pool seen (pools.Walk root why) = of_walk Ephemeral seen.line.xid root why
of_pool seen (pools.Value root item) = Value root item

-- a fault of an extent reference tree of a root, which is its block
abbrev pub of_extents : Seen → ℕ → ExtStop → ReachFault
of_extents seen root (exts.Walk why) = of_walk Physical seen.line.xid root why
of_extents seen root (exts.Value item) = Value root item

-- a fault of an object map
abbrev pub of_map : Seen → OmapFault → ReachFault
of_map seen (omaps.Head block why) = Unsound block (Node (Head why))
of_map seen (omaps.Tree root why) = of_walk Physical seen.line.xid root why
