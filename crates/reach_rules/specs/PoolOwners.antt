-- Who owns which blocks of the internal pool.
use Rattle.std.specs.Prelude.{◌≡◌, ℕ, ◌/◌, ◌%◌, Bool, true, false, not, ◌&&◌, ◌==◌, List, [], ◌∷◌, ◌++◌, map, filter, Ok, Err, if◌then◌else◌}
use Rattle.std.specs.List.{range_with_len}
use Rattle.apfs_model.specs.Lists.{In, through}
use Rattle.nx_ring.specs.Checkpoint.{Seen, site_of}
use Rattle.space_map.specs.Fields.{chunks_of, cib_chunks_of}
use Rattle.space_map.specs.Geometry.{has_chunk_place}
use Rattle.space_map.specs.Blocks.{manager_of}
use Rattle.space_map.specs.Chunks.{chunk_in}
use Rattle.space_map.specs.Marks.{lacks_bitmap}
use Rattle.space_pool.specs.declared.entry.Queue.TheVariants.{Pool, Main}
use Rattle.reach_rules.specs.Naming.{Object, Newest, InBlock, OfId, OfRecord, TreeKind, MapRecords, MapSnapshots, ExtentRefs, SnapMetadata, FreeQueue, Files, Expected, SpaceManager, ContainerMap, ReaperObject, ReapList, Jumpstart, VolumeIn, VolumeMap, ExtendedMetadata, SnapshotSuper, AddressBlock, InfoBlock, TreeRoot, TreeNode, Naming}
use Rattle.reach_rules.specs.Resolved.{Found, resolved}
use Rattle.reach_rules.specs.Tested.{Answer, tested}
use Rattle.reach_rules.specs.Live.{IsLive}
use Rattle.reach_rules.specs.Owners.{Owner, owner, Named, Bitmap, covers, told_from, queued_ranges_of, tells_of_chunks}

-- the owner of the pool that a named object is: one that tells of chunks, for each naming
abbrev pub pool_object_owners : Naming → Object → List Owner
pool_object_owners n Newest = []
pool_object_owners n (InBlock block) = if tells_of_chunks n.expected then owner (Named n) block 1 ∷ [] else []
pool_object_owners n (OfId oid) = []
pool_object_owners n (OfRecord map r) = []

-- chunk k has its place in chunk-info block i
abbrev pub is_chunk_of : ℕ → List ℕ → ℕ → ℕ → Bool
is_chunk_of block_size manager i k = (k / cib_chunks_of manager == i) && has_chunk_place block_size manager k

-- such a chunk with a bitmap
abbrev pub has_bitmap_in : List ℕ → List ℕ → ℕ → Bool
has_bitmap_in manager cib k = not (lacks_bitmap (chunk_in cib (k % cib_chunks_of manager)))

-- the chunks with a bitmap that have their places in chunk-info block i
abbrev pub bitmaps_in : ℕ → List ℕ → ℕ → List ℕ → List ℕ
bitmaps_in block_size manager i cib = filter (λ k. is_chunk_of block_size manager i k && has_bitmap_in manager cib k) (range_with_len 0 (chunks_of manager))

-- the bitmap of a chunk
abbrev pub bitmap_owner : List ℕ → List ℕ → ℕ → Owner
bitmap_owner manager cib k = owner (Bitmap k) (chunk_in cib (k % cib_chunks_of manager)).bitmap 1

-- the bitmaps of the chunks of which chunk-info block i tells
abbrev pub bitmap_owners : ℕ → List ℕ → ℕ → List ℕ → List Owner
bitmap_owners block_size manager i cib = map (bitmap_owner manager cib) (bitmaps_in block_size manager i cib)

-- what the pool's queue keeps
abbrev pub pool_tree_owners : List ℕ → Seen → Naming → TreeKind → List Owner
pool_tree_owners image seen n MapRecords = []
pool_tree_owners image seen n MapSnapshots = []
pool_tree_owners image seen n ExtentRefs = []
pool_tree_owners image seen n SnapMetadata = []
pool_tree_owners image seen n (FreeQueue Pool) = told_from n 0 (queued_ranges_of image seen n.oid)
pool_tree_owners image seen n (FreeQueue Main) = []
pool_tree_owners image seen n (Files hashed) = []

-- the owners of the pool of which a sound object tells, by what was expected of it
abbrev pub pool_told_owners : List ℕ → Seen → Naming → Expected → List ℕ → List Owner
pool_told_owners image seen n SpaceManager bytes = []
pool_told_owners image seen n ContainerMap bytes = []
pool_told_owners image seen n ReaperObject bytes = []
pool_told_owners image seen n ReapList bytes = []
pool_told_owners image seen n Jumpstart bytes = []
pool_told_owners image seen n (VolumeIn slot) bytes = []
pool_told_owners image seen n VolumeMap bytes = []
pool_told_owners image seen n ExtendedMetadata bytes = []
pool_told_owners image seen n (SnapshotSuper view) bytes = []
pool_told_owners image seen n (AddressBlock i) bytes = []
pool_told_owners image seen n (InfoBlock i) bytes = through (manager_of seen) (λ manager. bitmap_owners (site_of seen).block_size manager i bytes)
pool_told_owners image seen n (TreeRoot kind) bytes = pool_tree_owners image seen n kind
pool_told_owners image seen n (TreeNode kind level) bytes = []

-- of an object that isn't sound nothing is read
abbrev pub pool_told_if : List ℕ → Seen → Naming → Found → Answer → List Owner
pool_told_if image seen n f (Ok _) = pool_told_owners image seen n n.expected f.bytes
pool_told_if image seen n f (Err bad) = []

-- the owners of the pool through a naming, where it resolves
unfoldable pub pool_owners_through : List ℕ → Seen → Naming → List Owner
pool_owners_through image seen n = through (resolved image seen n) (λ (f : Found). pool_object_owners n f.object ++ pool_told_if image seen n f (tested (site_of seen) n.expected n.oid f.bytes))

-- an owner of the pool: one through a live naming
pub record IsPoolOwner (image : List ℕ) (seen : Seen) (a : Owner) : Type 0 where
  pub naming : Naming
  pub live : IsLive image seen naming
  pub one : In a (pool_owners_through image seen naming)

-- a block of the pool has an owner
pub record IsPoolOwned (image : List ℕ) (seen : Seen) (block : ℕ) : Type 0 where
  pub who : Owner
  pub owner : IsPoolOwner image seen who
  pub covers : covers who block ≡ true

-- a block of the pool has no owner
abbrev pub IsPoolFree : List ℕ → Seen → ℕ → Type 0
IsPoolFree image seen block = (a : Owner) → IsPoolOwner image seen a → covers a block ≡ false
