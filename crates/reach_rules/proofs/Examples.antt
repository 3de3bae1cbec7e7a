-- Namings, owners and places, worked out.
use Rattle.std.specs.Prelude.{◌≡◌, ℕ, ◌-◌, ◌^◌, true, false, [], ◌∷◌, None, Ok, Err, refl}
use Rattle.apfs_model.specs.Blocks.{is_inside}
use Rattle.obj_base.specs.declared.stop.Bad.TheVariants.{Found, Unsupported}
use Rattle.obj_base.specs.declared.stop.Feature.TheVariants.{Sealed}
use Rattle.bt_node.specs.declared.fault.NodeFault.TheVariants.{Level}
use Rattle.nx_ring.specs.Checkpoint.{Seen}
use Rattle.omap_map.specs.declared.records.OmapRecord.{OmapRecord}
use Rattle.space_pool.specs.declared.fault.PoolFault.TheVariants as pools
use Rattle.space_pool.specs.declared.entry.Queue.TheVariants.{Main}
use Rattle.bt_cursor.specs.declared.fault.WalkFault.TheVariants as walks
use Rattle.obj_base.specs.declared.stop.Within.TheVariants.{Physical, Ephemeral, Volume}
use Rattle.reach_rules.specs.declared.fault.Why.TheVariants.{Node, Magic}
use Rattle.reach_rules.specs.declared.fault.ReachFault.TheVariants.{Unnamed, Tree}
use Rattle.reach_rules.specs.Naming.{ViewAt, ByBlock, ByMapping, InView, Newest, InBlock, OfId, OfRecord, Whole, FreeQueue, ExtentRefs, ReapList, AddressBlock, TreeRoot, TreeNode, VolumeMap, Naming, naming}
use Rattle.reach_rules.specs.Resolved.{is_node}
use Rattle.reach_rules.specs.Tested.{of_node, with_magic}
use Rattle.reach_rules.specs.Next.{unless_zero, node_namings}
use Rattle.reach_rules.specs.Owners.{owner, covers, KeyLocker, Named, object_owners}
use Rattle.reach_rules.specs.PoolOwners.{pool_object_owners}
use Rattle.reach_rules.specs.Faults.{within_of, xid_of, is_once}
use Rattle.reach_rules.specs.Raised.{of_walk, of_pool}
use Rattle.reach_rules.specs.Settled.{is_held}

-- a field of 0 names nothing, another names
zero_names_nothing : unless_zero (Whole Newest) 168 ReapList ByMapping 0 ≡ []
zero_names_nothing = refl

other_names : unless_zero (Whole Newest) 168 ReapList ByMapping 7 ≡ naming (Whole Newest) 168 ReapList ByMapping 7 ∷ []
other_names = refl

-- a leaf names no children; a node above it names each, one level lower, looked up as it was
leaf_names_nothing : node_namings (Whole (InBlock 5)) ExtentRefs ByBlock 0 (8 ∷ 9 ∷ []) ≡ []
leaf_names_nothing = refl

children_named : node_namings (Whole (InBlock 5)) ExtentRefs ByBlock 2 (8 ∷ 9 ∷ []) ≡ naming (Whole (InBlock 5)) 0 (TreeNode ExtentRefs 1) ByBlock 8 ∷ naming (Whole (InBlock 5)) 1 (TreeNode ExtentRefs 1) ByBlock 9 ∷ []
children_named = refl

-- a node of a queue must be one block, a list of the reaper may be more
queue_node : is_node (TreeRoot (FreeQueue Main)) ≡ true
queue_node = refl

reap_list : is_node ReapList ≡ false
reap_list = refl

-- an owner without blocks has none; one that begins before the container isn't inside
no_blocks : covers (owner KeyLocker 5 0) 5 ≡ false
no_blocks = refl

negative_first : is_inside (2 ^ 64 - 1) 1 256 ≡ false
negative_first = refl

past_the_end : is_inside 255 2 256 ≡ false
past_the_end = refl

last_block : is_inside 255 1 256 ≡ true
last_block = refl

-- a named block that tells of chunks is the pool's, another is the container's
cab_owner : object_owners (naming (Whole (OfId 1024)) 2528 (AddressBlock 0) ByBlock 43) (InBlock 43) ≡ []
cab_owner = refl

cab_pool_owner : pool_object_owners (naming (Whole (OfId 1024)) 2528 (AddressBlock 0) ByBlock 43) (InBlock 43) ≡ owner (Named (naming (Whole (OfId 1024)) 2528 (AddressBlock 0) ByBlock 43)) 43 1 ∷ []
cab_pool_owner = refl

map_owner : object_owners (naming (Whole (InBlock 51)) 128 VolumeMap ByBlock 52) (InBlock 52) ≡ owner (Named (naming (Whole (InBlock 51)) 128 VolumeMap ByBlock 52)) 52 1 ∷ []
map_owner = refl

-- the record of an object map is owned once, whatever names it; a block is owned for each naming
one_owner : (m n : Naming) (map : ℕ) (r : OmapRecord) → object_owners m (OfRecord map r) ≡ object_owners n (OfRecord map r)
one_owner m n map r = refl

owner_each : object_owners (naming (Whole (InBlock 51)) 144 (TreeRoot ExtentRefs) ByBlock 55) (InBlock 55) ≡ owner (Named (naming (Whole (InBlock 51)) 144 (TreeRoot ExtentRefs) ByBlock 55)) 55 1 ∷ []
owner_each = refl

-- an ephemeral object owns nothing of its own
ephemeral_owner : object_owners (naming (Whole Newest) 168 ReapList ByMapping 7) (OfId 7) ≡ []
ephemeral_owner = refl

-- blocks alone may be named twice without a fault of their ids
blocks_twice : is_once ByBlock ≡ false
blocks_twice = refl

-- how ids are shown: a view's transaction stands for its ids alone
shown_view : (seen : Seen) (view : ViewAt) → xid_of seen (InView view) ≡ view.xid
shown_view seen view = refl

shown_physical : (seen : Seen) → xid_of seen ByBlock ≡ seen.line.xid
shown_physical seen = refl

shown_space : (view : ViewAt) → within_of (InView view) ≡ Volume view.slot
shown_space view = refl

-- a feature that is the first test to fail is no fault; a magic is tested after the header
first_feature : of_node (Err (Unsupported Sealed)) ≡ Err (Unsupported Sealed)
first_feature = refl

magic_after : with_magic (λ _. false) (Err (Found (Node Level))) ≡ Err (Found (Node Level))
magic_after = refl

magic_fails : with_magic (λ _. false) (Ok (1 ∷ [])) ≡ Err (Found Magic)
magic_fails = refl

-- walks over queues are told of ephemeral ids
queue_unnamed : (seen : Seen) → of_pool seen (pools.Walk 11 (walks.Unnamed 1031)) ≡ Unnamed Ephemeral 1031 seen.line.xid
queue_unnamed seen = refl

counts_told : of_walk Physical 1 55 walks.Counts ≡ Tree 55 None
counts_told = refl

-- ranges hold the blocks from their first on
held_block : is_held ((57, 1) ∷ (60, 3) ∷ []) 62 ≡ true
held_block = refl

free_block : is_held ((57, 1) ∷ (60, 3) ∷ []) 63 ≡ false
free_block = refl
