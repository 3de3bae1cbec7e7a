-- What is told of the pool's bitmap and of the free queues is present in the container.
use Rattle.std.proofs.Common.{◌≡◌, ℕ, Bool, true, false, ◌==◌, List, [], length, Option, Some, None, inl, refl, ap, sym, subst, if◌then◌else◌}
use Rattle.std.specs.Prelude.{option_map, option_and_then}
use Rattle.apfs_model.specs.Blocks.{in_container}
use Rattle.apfs_model.specs.Lists.{In}
use Rattle.obj_base.specs.declared.site.Site.{Site}
use Rattle.bt_keys.specs.Shapes.{queue_shape}
use Rattle.bt_cursor.specs.Faults.{IsWalkFault}
use Rattle.bt_cursor.specs.declared.fault.WalkFault.{WalkFault}
use Rattle.bt_cursor.specs.declared.fault.WalkFault.TheVariants as walks
use Rattle.nx_block.specs.Super.{space_oid_of}
use Rattle.nx_ring.specs.Objects.{Place}
use Rattle.nx_ring.specs.Checkpoint.{Seen, site_of, eph}
use Rattle.space_map.specs.Fields.{pool_queue_of, main_queue_of}
use Rattle.space_map.specs.Stops.{HasManager}
use Rattle.space_pool.specs.Queues.{one_block, ephemeral_named, queue_root, queue_tree, is_short_item}
use Rattle.space_pool.specs.Stops.{IsPoolFault, HasTree, HasRoot, HasShortItem, IsQueueFault}
use Rattle.space_pool.specs.declared.entry.Queue.{Queue}
use Rattle.space_pool.specs.declared.entry.Queue.TheVariants.{Pool as PoolQueue, Main}
use Rattle.space_pool.specs.declared.fault.PoolFault.{PoolFault}
use Rattle.space_pool.specs.declared.fault.PoolFault.TheVariants as pools
use Rattle.reach_rules.specs.Naming.{ByMapping, OfId, Namer, Whole, FreeQueue, Expected, TreeRoot, Naming, naming}
use Rattle.reach_rules.specs.Resolved.{Found, resolved, standing, is_node, mapped, mapped_node}
use Rattle.reach_rules.specs.Next.{unless_zero, manager_namings}
use Rattle.reach_rules.specs.Live.{led, IsLive}
use Rattle.reach_rules.specs.Trees.{tree_line, misplaced, has_counts, NamesRoot}
use Rattle.reach_rules.specs.Faults.{Present}
use Rattle.reach_rules.specs.Raised.{of_pool}
use Rattle.apfs_model.proofs.Searches.{in-left, in-right, passing-below}
use Rattle.reach_rules.proofs.Nexts.{in-next}
use Rattle.reach_rules.proofs.Sounds.{manager_naming}
use Rattle.reach_rules.proofs.SpaceDecided.{in-if-false}
use Rattle.reach_rules.proofs.SpaceLifted.{there, manager-sound}
use Rattle.reach_rules.proofs.Walks.{Matches, IsWalkOf, IsRootNaming, walk-present}
use Rattle.reach_rules.proofs.Looks.{block-match}

-- a block of a node is found once and again
one-match : (image : List ℕ) (site : Site) (oid : ℕ) (place : Place) → Matches image site (mapped_node image site oid place) (option_and_then (in_container site.blocks) (one_block site place))
one-match image site oid place =
    let Goal : Bool → Type 0 = λ b. Matches image site (option_map (standing image site (OfId oid)) (if b then in_container site.blocks place.block else None)) (option_and_then (in_container site.blocks) (if b then in_container site.blocks place.block else None)) in
    elim (length place.bytes == site.block_size) as (λ b. Goal b) [
      | true ↦ block-match image site (λ b. OfId oid) place.block
      | false ↦ tt
    ]

-- a node's mapping is found as it is named
mapped-match : (image : List ℕ) (site : Site) (e : Expected) (oid : ℕ) → is_node e ≡ true → (o : Option Place) →
    Matches image site (option_and_then (λ (place : Place). if is_node e then mapped_node image site oid place else mapped site oid place) o) (option_and_then (in_container site.blocks) (option_and_then (one_block site) o))
mapped-match image site e oid node None = tt
mapped-match image site e oid node (Some place) =
    subst (λ b. Matches image site (if b then mapped_node image site oid place else mapped site oid place) (option_and_then (in_container site.blocks) (one_block site place))) (sym node) (one-match image site oid place)

-- the trees of free queues are walked as they are named
pub queue-walk : (image : List ℕ) (seen : Seen) (which : Queue) → IsWalkOf image seen (FreeQueue which) ByMapping queue_shape (ephemeral_named seen)
unfolding ephemeral_named
queue-walk image seen which = record { answer = λ at bytes. refl; kids = λ bytes. refl; found = λ e oid node. mapped-match image (site_of seen) e oid node (eph seen oid) }

found-node : (image : List ℕ) (seen : Seen) (oid b : ℕ) (o : Option Place) → option_and_then (one_block (site_of seen)) o ≡ Some b → (f : Found) × ((option_and_then (λ (place : Place). mapped_node image (site_of seen) oid place) o ≡ Some f) × (f.block ≡ b))
found-node image seen oid b None h = absurd (let z : ◌≡◌ {A = Option ℕ} None (Some b) = h in let q : ⊥ = cc in q)
found-node image seen oid b (Some place) h = (standing image (site_of seen) (OfId oid) b, (ap (λ (x : Option ℕ). option_map (standing image (site_of seen) (OfId oid)) x) h, refl))

-- the naming of a queue's root
abbrev queue_at : Queue → ℕ
queue_at PoolQueue = 208
queue_at Main = 248

abbrev queue_naming : Seen → List ℕ → Queue → Naming
queue_naming seen manager which = naming (Whole (OfId (space_oid_of seen.nx))) (queue_at which) (TreeRoot (FreeQueue which)) ByMapping (queue_root which manager)

in-queues : (me : Namer) (manager : List ℕ) (which : Queue) → HasTree manager which → In (naming me (queue_at which) (TreeRoot (FreeQueue which)) ByMapping (queue_root which manager)) (manager_namings me manager)
in-queues me manager PoolQueue some = in-left _ (unless_zero me 208 (TreeRoot (FreeQueue PoolQueue)) ByMapping (pool_queue_of manager)) _ (in-if-false _ (pool_queue_of manager == 0) [] _ some (inl refl))
in-queues me manager Main some = in-right _ (unless_zero me 208 (TreeRoot (FreeQueue PoolQueue)) ByMapping (pool_queue_of manager)) _ (in-left _ (unless_zero me 248 (TreeRoot (FreeQueue Main)) ByMapping (main_queue_of manager)) _ (in-if-false _ (main_queue_of manager == 0) [] _ some (inl refl)))

queue-live : (image : List ℕ) (seen : Seen) (manager : List ℕ) (b : ℕ) → HasManager seen manager b → (which : Queue) → HasTree manager which → IsLive image seen (queue_naming seen manager which)
unfolding there
queue-live image seen manager b h which some =
    let s = manager-sound image seen manager b h in
    led (manager_naming seen) (queue_naming seen manager which) s.names.live (in-next image seen (manager_naming seen) (queue_naming seen manager which) (record { object = there seen manager b; found = s.names.found; sound = s.sound; names = in-queues (Whole (OfId (space_oid_of seen.nx))) manager which some }))

-- it is that of a root
pub queue-root : (image : List ℕ) (seen : Seen) (manager : List ℕ) (b : ℕ) → HasManager seen manager b → (which : Queue) → HasTree manager which → IsRootNaming image seen (FreeQueue which) ByMapping (queue_root which manager)
queue-root image seen manager b h which some = record { naming = queue_naming seen manager which; live = queue-live image seen manager b h which some; expected_is = refl; how_is = refl; oid_is = refl }

queue-rooted : (image : List ℕ) (seen : Seen) (manager : List ℕ) (b : ℕ) → HasManager seen manager b → (which : Queue) (block : ℕ) → HasRoot seen manager which block → NamesRoot image seen (FreeQueue which) (queue_naming seen manager which) block
unfolding resolved ephemeral_named
queue-rooted image seen manager b h which block r =
    let f = found-node image seen (queue_root which manager) block (eph seen (queue_root which manager)) r.at in
    record { object = f.0; names = record { live = queue-live image seen manager b h which r.some; found = f.1.0 }; root = refl; at = sym f.1.1 }

walked : (image : List ℕ) (seen : Seen) (manager : List ℕ) (b : ℕ) → HasManager seen manager b → (which : Queue) (root : ℕ) (why : WalkFault) → HasRoot seen manager which root → IsWalkFault (queue_tree image seen) (queue_root which manager) why → Present image seen (of_pool seen (pools.Walk root why))
unfolding misplaced has_counts tree_line
walked image seen manager b h which root (walks.Unsound block w) r gap = walk-present image seen (FreeQueue which) ByMapping queue_shape (ephemeral_named seen) (queue-walk image seen which) (queue_root which manager) (queue-root image seen manager b h which r.some) root (walks.Unsound block w) gap
walked image seen manager b h which root (walks.Unnamed oid) r gap = walk-present image seen (FreeQueue which) ByMapping queue_shape (ephemeral_named seen) (queue-walk image seen which) (queue_root which manager) (queue-root image seen manager b h which r.some) root (walks.Unnamed oid) gap
walked image seen manager b h which root (walks.Order item) r o = record { kind = FreeQueue which; naming = queue_naming seen manager which; root = queue-rooted image seen manager b h which root r; number = o.number; first = o.first; same = o.same }
walked image seen manager b h which root walks.Counts r wrong = record { kind = FreeQueue which; naming = queue_naming seen manager which; root = queue-rooted image seen manager b h which root r; wrong = wrong }

short-there : (image : List ℕ) (seen : Seen) (manager : List ℕ) (b : ℕ) → HasManager seen manager b → (which : Queue) (root item : ℕ) → HasRoot seen manager which root → HasShortItem image seen (queue_root which manager) item → Present image seen (of_pool seen (pools.Value root item))
unfolding tree_line
short-there image seen manager b h which root item r s = record { kind = FreeQueue which; naming = queue_naming seen manager which; root = queue-rooted image seen manager b h which root r; number = s.number; low = passing-below is_short_item _ s.number s.short; short = s.short; same = s.same }

-- what is told of the pool's bitmap is present
pub pool-present : (image : List ℕ) (seen : Seen) (manager : List ℕ) (b : ℕ) → HasManager seen manager b → (fault : PoolFault) → IsPoolFault seen manager fault → Present image seen (of_pool seen fault)
pool-present image seen manager b h (pools.Index i) p = (manager, b, h, p)
pool-present image seen manager b h pools.Count p = (manager, b, h, p)
pool-present image seen manager b h (pools.Place block) p = absurd p
pool-present image seen manager b h (pools.Unnamed oid) p = absurd p
pool-present image seen manager b h (pools.Walk root why) p = absurd p
pool-present image seen manager b h (pools.Value root item) p = absurd p

-- what is told of a free queue is present
pub queue-present : (image : List ℕ) (seen : Seen) (manager : List ℕ) (b : ℕ) → HasManager seen manager b → (which : Queue) (fault : PoolFault) → IsQueueFault image seen manager which fault → Present image seen (of_pool seen fault)
queue-present image seen manager b h which (pools.Index i) p = absurd p
queue-present image seen manager b h which pools.Count p = absurd p
queue-present image seen manager b h which (pools.Place block) (w, p) = (manager, b, h, p)
queue-present image seen manager b h which (pools.Unnamed oid) (some, gap) = walk-present image seen (FreeQueue which) ByMapping queue_shape (ephemeral_named seen) (queue-walk image seen which) (queue_root which manager) (queue-root image seen manager b h which some) 0 (walks.Unnamed oid) gap
queue-present image seen manager b h which (pools.Walk root why) (r, p) = walked image seen manager b h which root why r p
queue-present image seen manager b h which (pools.Value root item) (r, p) = short-there image seen manager b h which root item r p
