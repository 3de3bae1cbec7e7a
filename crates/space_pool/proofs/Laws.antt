-- Where the pool's bitmap and a queue are right, nothing that could be named of them is there.
use Rattle.std.specs.Prelude.{◌≡◌, ℕ, ◌<◌, Bool, true, false, ◌&&◌, ◌==◌, nat_lt, List, [], ◌∷◌}
use Rattle.std.specs.List.{range_with_len, list_all}
use Rattle.std.proofs.Common.{arith, subst, sym, inl, inr}
use Rattle.std.proofs.lemmas.Grind.{common_steps}
use Rattle.apfs_model.specs.Lists.{In}
use Rattle.apfs_model.proofs.BoolTests.{clash, denied, left-true, right-true, former-true, latter-true}
use Rattle.apfs_model.proofs.Searches.{any-passes}
use Rattle.apfs_model.proofs.Ranges.{all_fails}
use Rattle.obj_base.specs.declared.stop.Feature.{Feature}
use Rattle.obj_base.specs.declared.stop.Stop.TheVariants.{Found, Unsupported}
use Rattle.bt_keys.specs.Shapes.{queue_shape}
use Rattle.bt_cursor.specs.Line.{line_of}
use Rattle.bt_cursor.specs.WholeTree.{IsWhole}
use Rattle.bt_cursor.specs.declared.fault.WalkFault.TheVariants as walks
use Rattle.bt_cursor.proofs.Places.{whole-world, tree-levelled}
use Rattle.bt_cursor.proofs.Wholes.{whole_means}
use Rattle.nx_ring.specs.Checkpoint.{Seen, site_of}
use Rattle.space_map.specs.Fields.{pool_bitmap_blocks_of}
use Rattle.space_pool.specs.Bits.{has_index, is_pool_index, is_pool_shaped}
use Rattle.space_pool.specs.Queues.{queue_root, queue_tree, ephemeral_named, is_queued_in_pool, is_short_item}
use Rattle.space_pool.specs.Stops.{IsPoolFault, HasShortItem, IsQueueFault, IsQueueFeature, has_long_values, is_right_tree, AreQueued}
use Rattle.space_pool.specs.declared.entry.Queue.{Queue}
use Rattle.space_pool.specs.declared.entry.Queue.TheVariants.{Pool, Main}
use Rattle.space_pool.specs.declared.entry.QueueEntry.{QueueEntry}
use Rattle.space_pool.specs.declared.fault.PoolFault.{PoolFault}
use Rattle.space_pool.specs.declared.fault.PoolFault.TheVariants.{Index, Count, Place, Unnamed, Walk, Value}

-- each item of a list of which all pass does
all-in : {X : Type 0} (test : X → Bool) (xs : List X) (x : X) → In x xs → list_all test xs ≡ true → test x ≡ true
all-in test [] x h all = absurd h
all-in test (y ∷ ys) x (inl e) all = subst (λ z. test z ≡ true) (sym e) (left-true (test y) (list_all test ys) all)
all-in test (y ∷ ys) x (inr h) all = all-in test ys x h (right-true (test y) (list_all test ys) all)

lower : (m n : ℕ) (b : Bool) → (nat_lt m n && b) ≡ true → m < n
lower m n b e = grind (arith, common_steps)

index-low : (manager : List ℕ) (i : ℕ) → has_index manager i ≡ true → i < pool_bitmap_blocks_of manager
unfolding has_index
index-low manager i e = lower i (pool_bitmap_blocks_of manager) _ e

-- where the pool's bitmap can be read, no fault of it is there
pub pool-refutes : (seen : Seen) (manager : List ℕ) (fault : PoolFault) → is_pool_shaped (site_of seen) manager ≡ true → IsPoolFault seen manager fault → ⊥
unfolding is_pool_shaped
pool-refutes seen manager (Index i) shaped (some, wrong) =
    clash (list_all (is_pool_index manager) (range_with_len 0 (pool_bitmap_blocks_of manager))) (right-true _ _ shaped) (all_fails (is_pool_index manager) (pool_bitmap_blocks_of manager) i (index-low manager i some) wrong)
pool-refutes seen manager Count shaped wrong = clash _ (left-true _ _ shaped) wrong
pool-refutes seen manager (Place block) shaped h = h
pool-refutes seen manager (Unnamed oid) shaped h = h
pool-refutes seen manager (Walk root why) shaped h = h
pool-refutes seen manager (Value root item) shaped h = h

tree-whole : (image : List ℕ) (seen : Seen) (root : ℕ) → (root == 0) ≡ false → is_right_tree image seen root ≡ true → IsWhole (queue_tree image seen) root
unfolding is_right_tree
tree-whole image seen root some right = whole_means (queue_tree image seen) root (former-true _ _ _ some right)

tree-values : (image : List ℕ) (seen : Seen) (root : ℕ) → (root == 0) ≡ false → is_right_tree image seen root ≡ true → has_long_values image seen root ≡ true
unfolding is_right_tree
tree-values image seen root some right = latter-true _ _ _ some right

no-short : (image : List ℕ) (seen : Seen) (root item : ℕ) → has_long_values image seen root ≡ true → HasShortItem image seen root item → ⊥
unfolding has_long_values
no-short image seen root item long short = denied _ (any-passes is_short_item (line_of (queue_tree image seen) root) short.number short.short) long

-- where a queue can be read, no fault of it is there
pub queue-refutes : (image : List ℕ) (seen : Seen) (manager : List ℕ) (which : Queue) (entries : List QueueEntry) (fault : PoolFault) → AreQueued image seen manager which entries → IsQueueFault image seen manager which fault → ⊥
queue-refutes image seen manager which entries (Index i) queued h = h
queue-refutes image seen manager which entries Count queued h = h
queue-refutes image seen manager Main entries (Place block) queued (pool, outside) = absurd (cc)
queue-refutes image seen manager Pool entries (Place block) queued (pool, outside) =
    clash _ (all-in (is_queued_in_pool manager) entries outside.entry (subst (λ es. In outside.entry es) (sym queued.same) outside.one) queued.placed) outside.outside
queue-refutes image seen manager which entries (Unnamed oid) queued (some, gap) =
    whole-world (queue_tree image seen) (queue_root which manager) (Found (walks.Unnamed oid)) (tree-levelled queue_shape (site_of seen) (ephemeral_named seen) image) (tree-whole image seen (queue_root which manager) some queued.right) gap
queue-refutes image seen manager which entries (Walk root why) queued (at, fault) =
    whole-world (queue_tree image seen) (queue_root which manager) (Found why) (tree-levelled queue_shape (site_of seen) (ephemeral_named seen) image) (tree-whole image seen (queue_root which manager) at.some queued.right) fault
queue-refutes image seen manager which entries (Value root item) queued (at, short) =
    no-short image seen (queue_root which manager) item (tree-values image seen (queue_root which manager) at.some queued.right) short

-- where a queue can be read, no feature of it is there
pub queue-plain : (image : List ℕ) (seen : Seen) (manager : List ℕ) (which : Queue) (entries : List QueueEntry) (feature : Feature) (block : ℕ) → AreQueued image seen manager which entries → IsQueueFeature image seen manager which feature block → ⊥
queue-plain image seen manager which entries feature block queued (some, has) =
    whole-world (queue_tree image seen) (queue_root which manager) (Unsupported feature block) (tree-levelled queue_shape (site_of seen) (ephemeral_named seen) image) (tree-whole image seen (queue_root which manager) some queued.right) has
