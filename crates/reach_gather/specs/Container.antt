-- The parts of a container: what is live from its manager, its maps, its reaper, its volumes, and all of its roots.
use Rattle.std.specs.Prelude.{◌≡◌, ◌⊎◌, ℕ, suc, List, [], ◌∷◌, ◌++◌, flat_map, Some, if◌then◌else◌}
use Rattle.std.specs.List.{range_with_len}
use Rattle.apfs_model.specs.Blocks.{block_of, in_container}
use Rattle.apfs_model.specs.Lists.{In, through}
use Rattle.bt_node.specs.Entries.{Pair, bytes_in}
use Rattle.nx_block.specs.Super.{space_oid_of, omap_oid_of, reaper_oid_of, jumpstart_of, slots}
use Rattle.nx_ring.specs.Checkpoint.{Seen, site_of}
use Rattle.vol_view.specs.SnapRecords.{snap_super_of, is_snapshot_long}
use Rattle.space_map.specs.Fields.{pool_queue_of, main_queue_of}
use Rattle.space_pool.specs.declared.entry.Queue.TheVariants.{Pool, Main}
use Rattle.reach_rules.specs.declared.naming.ViewAt.{ViewAt}
use Rattle.reach_rules.specs.declared.naming.LookUp.TheVariants.{ByBlock, ByMapping}
use Rattle.reach_rules.specs.declared.naming.Object.TheVariants.{Newest, InBlock, OfId}
use Rattle.reach_rules.specs.declared.naming.Namer.{Namer}
use Rattle.reach_rules.specs.declared.naming.Namer.TheVariants.{Whole, Kept}
use Rattle.reach_rules.specs.declared.naming.TreeKind.TheVariants.{FreeQueue}
use Rattle.reach_rules.specs.declared.naming.Expected.{Expected}
use Rattle.reach_rules.specs.declared.naming.Expected.TheVariants.{SpaceManager, ContainerMap, ReaperObject, ReapList, Jumpstart, ExtendedMetadata, SnapshotSuper, InfoBlock, TreeRoot}
use Rattle.reach_rules.specs.declared.naming.Naming.{Naming}
use Rattle.reach_rules.specs.Naming.{naming}
use Rattle.reach_rules.specs.Resolved.{Found, resolved, standing}
use Rattle.reach_rules.specs.Next.{names, next, unless_zero, slot_namings, live_view, past_view, view_namings, records_of_snapshots, address_namings}
use Rattle.reach_rules.specs.Live.{IsSoundFor}
use Rattle.reach_rules.specs.Features.{used_features, field_features}
use Rattle.reach_gather.specs.Namings.{IsPlainNaming}
use Rattle.reach_gather.specs.Joined.{ArePart}

-- ---- what is named, field by field
-- the root of the pool's free queue, by the space manager
abbrev pub pool_queue_naming : Namer → List ℕ → List Naming
pool_queue_naming namer manager = unless_zero namer 208 (TreeRoot (FreeQueue Pool)) ByMapping (pool_queue_of manager)

-- the root of the main device's
abbrev pub main_queue_naming : Namer → List ℕ → List Naming
main_queue_naming namer manager = unless_zero namer 248 (TreeRoot (FreeQueue Main)) ByMapping (main_queue_of manager)

-- a block that tells of chunks, from its naming on: its own, and those of the blocks that it names
abbrev pub block_namings : List ℕ → Seen → Naming → List Naming
block_namings image seen n = n ∷ next image seen n

-- a snapshot's superblock, by its record
abbrev pub super_naming : ViewAt → List ℕ → Naming
super_naming view value = naming (Kept view) 8 (SnapshotSuper view) ByBlock (snap_super_of value)

-- the space manager of a container
abbrev pub manager_naming : List ℕ → Naming
manager_naming nx = naming (Whole Newest) 152 SpaceManager ByMapping (space_oid_of nx)

-- its object map
abbrev pub container_map_naming : List ℕ → Naming
container_map_naming nx = naming (Whole Newest) 160 ContainerMap ByBlock (omap_oid_of nx)

-- its reaper
abbrev pub reaper_naming : List ℕ → List Naming
reaper_naming nx = unless_zero (Whole Newest) 168 ReaperObject ByMapping (reaper_oid_of nx)

-- its jumpstart
abbrev pub jumpstart_naming : List ℕ → List Naming
jumpstart_naming nx = unless_zero (Whole Newest) 1272 Jumpstart ByBlock (jumpstart_of nx)

-- ---- the reaper's lists
-- the namings of lists of these ids, the first by a namer, and each other one by the list before it
abbrev pub reap_namings : Namer → ℕ → List ℕ → List Naming
reap_namings namer at [] = []
reap_namings namer at (oid ∷ oids) = naming namer at ReapList ByMapping oid ∷ reap_namings (Whole (OfId oid)) 32 oids

-- ---- snapshots
-- what the superblock of a snapshot names in its view, by the snapshot's record
abbrev pub past_namings : List ℕ → Seen → ViewAt → List ℕ → List Naming
past_namings image seen view value = view_namings (Whole (InBlock (snap_super_of value))) view (block_of (site_of seen).block_size image (snap_super_of value))

-- what is live from these records before the views: superblocks, and extent references
abbrev pub kept_namings : ℕ → List ℕ → (ℕ → List Naming) → ℕ → List Pair → List Naming
kept_namings slot bytes extents i [] = []
kept_namings slot bytes extents i (pair ∷ pairs) =
    (if is_snapshot_long pair then super_naming (past_view slot bytes i pair) (bytes_in pair.value) ∷ extents i else [])
    ++ kept_namings slot bytes extents (suc i) pairs

-- what the views of these records name
abbrev pub pasts_namings : List ℕ → Seen → ℕ → List ℕ → ℕ → List Pair → List Naming
pasts_namings image seen slot bytes i [] = []
pasts_namings image seen slot bytes i (pair ∷ pairs) =
    (if is_snapshot_long pair then past_namings image seen (past_view slot bytes i pair) (bytes_in pair.value) else [])
    ++ pasts_namings image seen slot bytes (suc i) pairs

-- ---- views
-- what all views of the volume in a slot name, by its superblock
abbrev pub views_namings : List ℕ → Seen → ℕ → Found → List Naming
views_namings image seen slot f =
    view_namings (Whole f.object) (live_view seen slot f.bytes) f.bytes
    ++ pasts_namings image seen slot f.bytes 0 (records_of_snapshots image (site_of seen) f.bytes)

-- of a naming of that volume, where it resolves
abbrev pub volume_views : List ℕ → Seen → ℕ → Naming → List Naming
volume_views image seen slot n = through (resolved image seen n) (views_namings image seen slot)

-- what the views of the volume in a slot name, where it has one
abbrev pub slot_views : List ℕ → Seen → ℕ → List Naming
slot_views image seen slot = flat_map (volume_views image seen slot) (slot_namings seen.nx slot)

-- what the views of all volumes name
unfoldable pub all_views : List ℕ → Seen → List Naming
all_views image seen = flat_map (slot_views image seen) (range_with_len 0 slots)

-- ---- the parts
-- a naming expects what names nothing
abbrev pub ExpectsNone : Expected → Type 0
ExpectsNone e = (e ≡ Jumpstart) ⊎ ((e ≡ ExtendedMetadata) ⊎ ((i : ℕ) × (e ≡ InfoBlock i)))

-- what a plain naming leads to, and to what it resolves; and which namings are plain
pub record PlainLeads (image : List ℕ) (seen : Seen) : Type 0 where
  pub leads : (n : Naming) (e : Expected) (p : IsPlainNaming image seen n) → n.expected ≡ e → next image seen n ≡ names image seen n.how e (Whole p.object.object) p.object.bytes
  pub block : (n : Naming) (p : IsPlainNaming image seen n) → n.how ≡ ByBlock → p.object ≡ standing image (site_of seen) (InBlock n.oid) n.oid
  pub id : (n : Naming) (p : IsPlainNaming image seen n) → n.how ≡ ByMapping → p.object.object ≡ OfId n.oid
  pub only : (n : Naming) (p q : IsPlainNaming image seen n) → p.object ≡ q.object
  pub by : (n : Naming) (f : Found) → resolved image seen n ≡ Some f → IsSoundFor seen n f → used_features (site_of seen) f.object ≡ [] → field_features image seen n.expected f.block f.bytes ≡ [] → IsPlainNaming image seen n
  pub stands : (n : Naming) → n.how ≡ ByBlock → in_container (site_of seen).blocks n.oid ≡ Some n.oid → resolved image seen n ≡ Some (standing image (site_of seen) (InBlock n.oid) n.oid)

-- what is live from the space manager: itself, the trees of its queues, and the blocks that tell of chunks
abbrev pub IsManagerPart : List ℕ → Seen → Type 0
IsManagerPart image seen =
    (n : Naming) (pool main blocks : List Naming) (p : IsPlainNaming image seen n)
    → n.expected ≡ SpaceManager
    → ArePart image seen (pool_queue_naming (Whole p.object.object) p.object.bytes) pool []
    → ArePart image seen (main_queue_naming (Whole p.object.object) p.object.bytes) main []
    → ArePart image seen (address_namings (Whole p.object.object) p.object.bytes) blocks []
    → ArePart image seen (n ∷ []) (n ∷ pool ++ (main ++ blocks)) []

-- what is live from what the manager's addresses name, where all that they name, and all that these name, is plain
abbrev pub AreBlocksPart : List ℕ → Seen → Type 0
AreBlocksPart image seen =
    (namer : Namer) (manager : List ℕ)
    → ((n : Naming) → In n (address_namings namer manager) → IsPlainNaming image seen n)
    → ((n m : Naming) → In n (address_namings namer manager) → In m (next image seen n) → IsPlainNaming image seen m)
    → ArePart image seen (address_namings namer manager) (flat_map (block_namings image seen) (address_namings namer manager)) []
