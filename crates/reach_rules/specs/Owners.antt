-- Who owns which blocks of the container.
use Rattle.std.specs.Prelude.{◌≡◌, ℕ, suc, Bool, true, false, List, [], ◌∷◌, ◌++◌, map, Ok, Err, if◌then◌else◌}
use Rattle.apfs_model.specs.Blocks.{is_in}
use Rattle.apfs_model.specs.Lists.{In, through}
use Rattle.nx_block.specs.Super.{desc_base_of, desc_blocks_of, data_base_of, data_blocks_of, locker_of, media_locker_of}
use Rattle.nx_block.specs.Jump.{jump_extents_of}
use Rattle.nx_ring.specs.Checkpoint.{Seen, site_of}
use Rattle.ext_ref.specs.Ranges.{ranges_of}
use Rattle.ext_ref.specs.declared.range.NewRange.{NewRange}
use Rattle.space_map.specs.Fields.{pool_base_of, pool_blocks_of, ring_base_of, ring_blocks_of}
use Rattle.space_pool.specs.Queues.{queue_entries}
use Rattle.space_pool.specs.declared.entry.Queue.TheVariants.{Pool, Main}
use Rattle.space_pool.specs.declared.entry.QueueEntry.{QueueEntry}
use Rattle.reach_rules.specs.Naming.{Object, Newest, InBlock, OfId, OfRecord, TreeKind, MapRecords, MapSnapshots, ExtentRefs, SnapMetadata, FreeQueue, Files, Expected, SpaceManager, ContainerMap, ReaperObject, ReapList, Jumpstart, VolumeIn, VolumeMap, ExtendedMetadata, SnapshotSuper, AddressBlock, InfoBlock, TreeRoot, TreeNode, Naming}
use Rattle.reach_rules.specs.Resolved.{Found, resolved}
use Rattle.reach_rules.specs.Tested.{Answer, tested}
use Rattle.reach_rules.specs.Live.{IsLive}
pub use Rattle.reach_rules.specs.declared.owner.Who.{Who}
pub use Rattle.reach_rules.specs.declared.owner.Who.TheVariants.{BlockZero, Descriptors, Checkpoints, KeyLocker, MediaLocker, InternalPool, PoolRing, Named, Recorded, Told, Bitmap}
pub use Rattle.reach_rules.specs.declared.owner.Owner.{Owner}

-- an owner by its parts
abbrev pub owner : Who → ℕ → ℕ → Owner
owner who first blocks = record { who = who; first = first; blocks = blocks }

-- an owner of a range that stands as its first block and its number of blocks
abbrev pub owner_of : Who → ℕ × ℕ → Owner
owner_of who range = owner who range.0 range.1

-- an owner has a block; one without blocks has none
abbrev pub covers : Owner → ℕ → Bool
covers a block = is_in block a.first a.blocks

-- the owners of which the newest superblock tells
unfoldable pub first_owners : List ℕ → List Owner
first_owners nx =
    owner BlockZero 0 1
    ∷ owner Descriptors (desc_base_of nx) (desc_blocks_of nx)
    ∷ owner Checkpoints (data_base_of nx) (data_blocks_of nx)
    ∷ owner_of KeyLocker (locker_of nx)
    ∷ owner_of MediaLocker (media_locker_of nx)
    ∷ []

-- ranges of which the object of a naming tells, the first of them having place i
abbrev pub told_from : Naming → ℕ → List (ℕ × ℕ) → List Owner
told_from n i [] = []
told_from n i (range ∷ ranges) = owner_of (Told n i) range ∷ told_from n (suc i) ranges

-- the new ranges of the extent reference tree of a root
abbrev pub new_ranges_of : List ℕ → Seen → ℕ → List (ℕ × ℕ)
new_ranges_of image seen root = map (λ (r : NewRange). (r.first, r.length)) (ranges_of image (site_of seen) root)

-- the ranges of the entries of the free queue of a root
abbrev pub queued_ranges_of : List ℕ → Seen → ℕ → List (ℕ × ℕ)
queued_ranges_of image seen root = map (λ (e : QueueEntry). (e.paddr, e.length)) (queue_entries image seen root)

-- a block that tells of chunks, which the pool accounts for
abbrev pub tells_of_chunks : Expected → Bool
tells_of_chunks (AddressBlock i) = true
tells_of_chunks (InfoBlock i) = true
tells_of_chunks SpaceManager = false
tells_of_chunks ContainerMap = false
tells_of_chunks ReaperObject = false
tells_of_chunks ReapList = false
tells_of_chunks Jumpstart = false
tells_of_chunks (VolumeIn slot) = false
tells_of_chunks VolumeMap = false
tells_of_chunks ExtendedMetadata = false
tells_of_chunks (SnapshotSuper view) = false
tells_of_chunks (TreeRoot kind) = false
tells_of_chunks (TreeNode kind level) = false

-- the owner that a named object is: a physical one that doesn't tell of chunks, for each naming, and a record, once
abbrev pub object_owners : Naming → Object → List Owner
object_owners n Newest = []
object_owners n (InBlock block) = if tells_of_chunks n.expected then [] else owner (Named n) block 1 ∷ []
object_owners n (OfId oid) = []
object_owners n (OfRecord map r) = owner (Recorded map r) r.paddr 1 ∷ []

-- the owners of the trees of which a sound root is expected: new ranges, and what the main device's queue keeps
abbrev pub tree_owners : List ℕ → Seen → Naming → TreeKind → List Owner
tree_owners image seen n MapRecords = []
tree_owners image seen n MapSnapshots = []
tree_owners image seen n ExtentRefs = told_from n 0 (new_ranges_of image seen n.oid)
tree_owners image seen n SnapMetadata = []
tree_owners image seen n (FreeQueue Pool) = []
tree_owners image seen n (FreeQueue Main) = told_from n 0 (queued_ranges_of image seen n.oid)
tree_owners image seen n (Files hashed) = []

-- the owners of which a sound object tells, by what was expected of it
abbrev pub told_owners : List ℕ → Seen → Naming → Expected → List ℕ → List Owner
told_owners image seen n SpaceManager bytes = owner InternalPool (pool_base_of bytes) (pool_blocks_of bytes) ∷ owner PoolRing (ring_base_of bytes) (ring_blocks_of bytes) ∷ []
told_owners image seen n ContainerMap bytes = []
told_owners image seen n ReaperObject bytes = []
told_owners image seen n ReapList bytes = []
told_owners image seen n Jumpstart bytes = told_from n 0 (jump_extents_of bytes)
told_owners image seen n (VolumeIn slot) bytes = []
told_owners image seen n VolumeMap bytes = []
told_owners image seen n ExtendedMetadata bytes = []
told_owners image seen n (SnapshotSuper view) bytes = []
told_owners image seen n (AddressBlock i) bytes = []
told_owners image seen n (InfoBlock i) bytes = []
told_owners image seen n (TreeRoot kind) bytes = tree_owners image seen n kind
told_owners image seen n (TreeNode kind level) bytes = []

-- of an object that isn't sound nothing is read
abbrev pub told_if : List ℕ → Seen → Naming → Found → Answer → List Owner
told_if image seen n f (Ok _) = told_owners image seen n n.expected f.bytes
told_if image seen n f (Err bad) = []

-- the owners through a naming, where it resolves
unfoldable pub owners_through : List ℕ → Seen → Naming → List Owner
owners_through image seen n = through (resolved image seen n) (λ (f : Found). object_owners n f.object ++ told_if image seen n f (tested (site_of seen) n.expected n.oid f.bytes))

-- an owner of the container: one of which the newest superblock tells, or one through a live naming
pub data IsOwner (image : List ℕ) (seen : Seen) (a : Owner) : Type 0 where
  first : In a (first_owners seen.nx) → IsOwner image seen a
  of : (n : Naming) → IsLive image seen n → In a (owners_through image seen n) → IsOwner image seen a

-- a block has an owner
pub record IsOwned (image : List ℕ) (seen : Seen) (block : ℕ) : Type 0 where
  pub who : Owner
  pub owner : IsOwner image seen who
  pub covers : covers who block ≡ true

-- a block has no owner
abbrev pub IsFree : List ℕ → Seen → ℕ → Type 0
IsFree image seen block = (a : Owner) → IsOwner image seen a → covers a block ≡ false
