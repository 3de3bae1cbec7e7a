-- What walks over extent references and over free queues tell.
use Rattle.std.proofs.Common.{◌≡◌, ℕ, suc, ◌+◌, ◌≤◌, Bool, false, true, List, [], length, refl, ap, sym, ◌∙◌, subst}
use Rattle.std.specs.Prelude.{◌==◌, ◌&&◌, if◌then◌else◌}
use Rattle.std.specs.List.{list_any}
use Rattle.std.proofs.lemmas.List.{length-map}
use Rattle.apfs_model.specs.Blocks.{in_container}
use Rattle.apfs_model.proofs.BoolTests.{left-true, right-true, other-true, not-true}
use Rattle.obj_base.specs.declared.stop.Stop.{Stop}
use Rattle.obj_base.specs.declared.stop.Stop.TheVariants.{Found, Unsupported, ReadFault, NoMemory}
use Rattle.obj_base.specs.Stops.{Tells, raised}
use Rattle.bt_node.specs.declared.node.NodeAt.{NodeAt}
use Rattle.bt_keys.specs.Shapes.{ext_shape, queue_shape}
use Rattle.bt_keys.specs.declared.number_key.QueueKey.{QueueKey}
use Rattle.bt_keys.specs.declared.record_key.ExtKey.{ExtKey}
use Rattle.bt_cursor.specs.Tree.{Tree}
use Rattle.bt_cursor.specs.Line.{line_of}
use Rattle.bt_cursor.specs.Met.{nodes_of}
use Rattle.bt_cursor.specs.Whole.{is_whole}
use Rattle.bt_cursor.specs.Steps.{steps_of}
use Rattle.bt_cursor.specs.declared.step.Step.{Step}
use Rattle.bt_cursor.specs.declared.fault.WalkFault.TheVariants as walks
use Rattle.bt_cursor.proofs.Wholes.{whole_means}
use Rattle.nx_ring.specs.Checkpoint.{Seen, site_of}
use Rattle.ext_ref.specs.Ranges.{ext_tree, oids_of, node_blocks_of}
use Rattle.ext_ref.specs.Scanned.{ext_steps}
use Rattle.ext_ref.specs.Scanned as scans
use Rattle.ext_ref.specs.Stops.{is_short_item as is_short_extent, IsExtStop}
use Rattle.ext_ref.specs.declared.range.NewRange.{NewRange}
use Rattle.ext_ref.specs.declared.stop.ExtStop.{ExtStop}
use Rattle.ext_ref.specs.declared.stop.ExtStop.TheVariants as exts
use Rattle.space_map.specs.Stops.{Known, IsSpaceOf}
use Rattle.space_pool.specs.Queues.{ephemeral_named, queue_root, queue_tree, queue_steps, is_short_item}
use Rattle.space_pool.specs.Stops as queues
use Rattle.space_pool.specs.declared.entry.Queue.{Queue}
use Rattle.space_pool.specs.declared.entry.QueueEntry.{QueueEntry}
use Rattle.space_pool.specs.declared.fault.PoolFault.{PoolFault}
use Rattle.space_pool.specs.declared.fault.PoolFault.TheVariants as pools
use Rattle.reach_rules.specs.declared.naming.LookUp.TheVariants.{ByBlock, ByMapping}
use Rattle.reach_rules.specs.declared.naming.Object.TheVariants.{InBlock, OfId}
use Rattle.reach_rules.specs.declared.naming.TreeKind.TheVariants.{ExtentRefs, FreeQueue}
use Rattle.reach_rules.specs.declared.naming.Expected.TheVariants.{TreeRoot}
use Rattle.reach_rules.specs.declared.naming.Naming.{Naming}
use Rattle.reach_rules.specs.Faults.{Present}
use Rattle.reach_rules.specs.Features.{HasFeature}
use Rattle.reach_rules.specs.Raised.{of_extents, of_pool}
use Rattle.reach_rules.specs.Reached.{IsReachedFault}
use Rattle.reach_rules.proofs.Walks.{IsRootNaming, gap-told}
use Rattle.reach_rules.proofs.Looks.{extents-walk}
use Rattle.reach_rules.proofs.TreesLifted.{extents-present}
use Rattle.reach_rules.proofs.QueuesLifted.{queue-present, queue-root, queue-walk}
use Rattle.reach_gather.specs.Namings.{tree_steps, tree_namings, AreNamingsOf}
use Rattle.reach_gather.specs.Walked.{IsWholeTree}
use Rattle.reach_gather.proofs.OfKinds.{extents-kind, queue-kind}
use Rattle.reach_gather.proofs.Walking.{whole-from, whole-namings, nodes-count}

-- ---- extent references
-- a tree that was scanned is whole
pub scanned-whole : (image : List ℕ) (seen : Seen) (root : ℕ) (steps : List Step) (ranges : List NewRange) → (root == 0) ≡ false → scans.IsScanned image (site_of seen) root steps ranges → IsWholeTree image seen ExtentRefs root
unfolding scans.is_right_tree scans.has_long_values
scanned-whole image seen root steps ranges some s =
    let tree : Tree ExtKey = ext_tree image (site_of seen) in
    let both = other-true (root == 0) (is_whole tree root && scans.has_long_values image (site_of seen) root) some s.right in
    whole-from (extents-kind image seen) root is_short_extent (λ item. refl) (whole_means tree root (left-true (is_whole tree root) (scans.has_long_values image (site_of seen) root) both))
    (not-true (list_any is_short_extent (line_of tree root)) (right-true (is_whole tree root) (scans.has_long_values image (site_of seen) root) both))

-- what its root's naming leads to is told by its steps
pub scanned-namings : (image : List ℕ) (seen : Seen) (root : Naming) (steps : List Step) (ranges : List NewRange) → (root.oid == 0) ≡ false → root.how ≡ ByBlock → root.expected ≡ TreeRoot ExtentRefs → scans.IsScanned image (site_of seen) root.oid steps ranges →
    AreNamingsOf image seen root (tree_namings InBlock ExtentRefs root steps)
unfolding ext_steps tree_steps
scanned-namings image seen root steps ranges some how is s =
    whole-namings (extents-kind image seen) root.oid steps (scanned-whole image seen root.oid steps ranges some s)
    (s.steps_are ∙ ap (λ (b : Bool). if b then [] else steps_of (ext_tree image (site_of seen)) root.oid) some) root is how refl

-- a read for its root, and one for each of its steps
pub scanned-reads : (image : List ℕ) (seen : Seen) (root : ℕ) (steps : List Step) (ranges : List NewRange) (old new : ℕ) → (root == 0) ≡ false → scans.IsScanned image (site_of seen) root steps ranges →
    new ≤ old + length (node_blocks_of image (site_of seen) root) → new ≤ old + suc (length steps)
unfolding scans.is_right_tree ext_steps node_blocks_of
scanned-reads image seen root steps ranges old new some s few =
    let tree : Tree ExtKey = ext_tree image (site_of seen) in
    let whole : is_whole tree root ≡ true = left-true (is_whole tree root) (scans.has_long_values image (site_of seen) root) (other-true (root == 0) (is_whole tree root && scans.has_long_values image (site_of seen) root) some s.right) in
    let taken : steps ≡ steps_of tree root = s.steps_are ∙ ap (λ (b : Bool). if b then [] else steps_of tree root) some in
    let nodes : length (node_blocks_of image (site_of seen) root) ≡ length (nodes_of tree root) = ap (λ (b : Bool). length (if b then [] else oids_of (nodes_of tree root))) some ∙ length-map (nodes_of tree root) (λ (at : NodeAt). at.oid) in
    subst (λ n. new ≤ old + n) (nodes ∙ (nodes-count tree root (whole_means tree root whole).walkable ∙ ap (λ (xs : List Step). suc (length xs)) (sym taken))) few

extents-reached : (image : List ℕ) (seen : Seen) (root : ℕ) (fault : ExtStop) → Present image seen (of_extents seen root fault) → IsReachedFault image seen (of_extents seen root fault)
extents-reached image seen root (exts.Walk (walks.Unsound block why)) p = p
extents-reached image seen root (exts.Walk (walks.Unnamed oid)) p = p
extents-reached image seen root (exts.Walk (walks.Order item)) p = p
extents-reached image seen root (exts.Walk walks.Counts) p = p
extents-reached image seen root (exts.Value item) p = p

-- what stops a scan is there
pub extents-tells : (image : List ℕ) (seen : Seen) (root : ℕ) → IsRootNaming image seen ExtentRefs ByBlock root → (stop : Stop ExtStop) → Tells (IsExtStop image (site_of seen) root) (scans.IsExtFeature image (site_of seen) root) stop →
    Tells (IsReachedFault image seen) (HasFeature image seen) (raised (of_extents seen root) stop)
extents-tells image seen root r (Found fault) t = extents-reached image seen root fault (extents-present image seen root r fault t)
extents-tells image seen root r (Unsupported feature block) (some, gap) = gap-told image seen ExtentRefs ByBlock ext_shape (in_container (site_of seen).blocks) (extents-walk image seen) root r (Unsupported feature block) gap
extents-tells image seen root r ReadFault t = t
extents-tells image seen root r NoMemory t = t

-- ---- free queues
pub queued-whole : (image : List ℕ) (seen : Seen) (which : Queue) (manager : List ℕ) (entries : List QueueEntry) → (queue_root which manager == 0) ≡ false → queues.AreQueued image seen manager which entries → IsWholeTree image seen (FreeQueue which) (queue_root which manager)
unfolding queues.is_right_tree queues.has_long_values
queued-whole image seen which manager entries some q =
    let root : ℕ = queue_root which manager in
    let tree : Tree QueueKey = queue_tree image seen in
    let both = other-true (root == 0) (is_whole tree root && queues.has_long_values image seen root) some q.right in
    whole-from (queue-kind image seen which) root is_short_item (λ item. refl) (whole_means tree root (left-true (is_whole tree root) (queues.has_long_values image seen root) both))
    (not-true (list_any is_short_item (line_of tree root)) (right-true (is_whole tree root) (queues.has_long_values image seen root) both))

pub queued-namings : (image : List ℕ) (seen : Seen) (which : Queue) (manager : List ℕ) (root : Naming) (steps : List Step) (entries : List QueueEntry) → (queue_root which manager == 0) ≡ false → root.how ≡ ByMapping → root.expected ≡ TreeRoot (FreeQueue which) → root.oid ≡ queue_root which manager
    → queues.AreQueued image seen manager which entries → steps ≡ queue_steps image seen (queue_root which manager) → AreNamingsOf image seen root (tree_namings OfId (FreeQueue which) root steps)
unfolding queue_steps tree_steps
queued-namings image seen which manager root steps entries some how is at q taken =
    whole-namings (queue-kind image seen which) (queue_root which manager) steps (queued-whole image seen which manager entries some q)
    (taken ∙ ap (λ (b : Bool). if b then [] else steps_of (queue_tree image seen) (queue_root which manager)) some) root is how at

queue-reached : (image : List ℕ) (seen : Seen) (fault : PoolFault) → Present image seen (of_pool seen fault) → IsReachedFault image seen (of_pool seen fault)
queue-reached image seen (pools.Index i) p = p
queue-reached image seen pools.Count p = p
queue-reached image seen (pools.Place block) p = p
queue-reached image seen (pools.Unnamed oid) p = p
queue-reached image seen (pools.Walk root (walks.Unsound block why)) p = p
queue-reached image seen (pools.Walk root (walks.Unnamed oid)) p = p
queue-reached image seen (pools.Walk root (walks.Order item)) p = p
queue-reached image seen (pools.Walk root walks.Counts) p = p
queue-reached image seen (pools.Value root item) p = p

-- what stops the walk over a queue is there
pub queue-tells : (image : List ℕ) (seen : Seen) (space : Known) (which : Queue) → IsSpaceOf image seen space → (stop : Stop PoolFault) → Tells (queues.IsQueueFault image seen space.manager which) (queues.IsQueueFeature image seen space.manager which) stop →
    Tells (IsReachedFault image seen) (HasFeature image seen) (raised (of_pool seen) stop)
queue-tells image seen space which is (Found fault) t = queue-reached image seen fault (queue-present image seen space.manager is.block is.manager which fault t)
queue-tells image seen space which is (Unsupported feature block) (some, gap) =
    gap-told image seen (FreeQueue which) ByMapping queue_shape (ephemeral_named seen) (queue-walk image seen which) (queue_root which space.manager) (queue-root image seen space.manager is.block is.manager which some) (Unsupported feature block) gap
queue-tells image seen space which is ReadFault t = t
queue-tells image seen space which is NoMemory t = t
