-- An accounted container.
use Rattle.std.specs.Prelude.{◌≡◌, ◌↔◌, ℕ, ◌<◌, true, false, ◌==◌, List, []}
use Rattle.apfs_model.specs.Lists.{In}
use Rattle.obj_base.specs.declared.stop.Within.{Within}
use Rattle.nx_ring.specs.Checkpoint.{Seen, site_of}
use Rattle.nx_ring.specs.Features.{container_features}
use Rattle.space_map.specs.Fields.{chunks_of}
use Rattle.space_map.specs.Chunks.{chunk_at}
use Rattle.space_map.specs.Marks.{is_marked}
use Rattle.space_map.specs.Tests.{is_free_count}
use Rattle.space_map.specs.Stops.{HasManager, IsRightSpace}
use Rattle.space_pool.specs.Bits.{is_pool_shaped, is_pool_marked}
use Rattle.space_pool.specs.Queues.{queue_of, is_queued_in_pool}
use Rattle.space_pool.specs.declared.entry.Queue.TheVariants.{Pool}
use Rattle.space_pool.specs.declared.entry.QueueEntry.{QueueEntry}
use Rattle.reach_rules.specs.Naming.{TreeKind, TreeRoot, Naming}
use Rattle.reach_rules.specs.Resolved.{Found}
use Rattle.reach_rules.specs.Live.{IsLive, NamesSound}
use Rattle.reach_rules.specs.Maps.{IsMapOf, AreUsed}
use Rattle.reach_rules.specs.Owners.{Owner, covers, IsOwner, IsOwned}
use Rattle.reach_rules.specs.PoolOwners.{IsPoolOwner, IsPoolOwned}
use Rattle.reach_rules.specs.Trees.{IsRightTree}
use Rattle.reach_rules.specs.Features.{features_through}
use Rattle.reach_rules.specs.Faults.{is_once, is_of_pool, lies_inside}

-- every live naming resolves to an object that is sound as it expects; no ephemeral id is named by two, and no virtual id by
-- two in one view; and every record of an object map that isn't marked deleted is used
pub record AreNamed (image : List ℕ) (seen : Seen) : Type 0 where
  pub named : (n : Naming) → IsLive image seen n → (f : Found) × NamesSound image seen n f
  pub once : (m n : Naming) → IsLive image seen m → IsLive image seen n → is_once m.how ≡ true → m.how ≡ n.how → m.oid ≡ n.oid → m ≡ n
  pub used : (within : Within) (map : ℕ) → IsMapOf image seen within map → AreUsed image seen map

-- the trees of object maps, their snapshots, extent references, snapshot metadata and free queues are in order and counted, with values that can be read
abbrev pub AreInOrder : List ℕ → Seen → Type 0
AreInOrder image seen = (n : Naming) (kind : TreeKind) → IsLive image seen n → n.expected ≡ TreeRoot kind → IsRightTree image seen kind n.oid

-- no feature is there
pub record IsPlain (image : List ℕ) (seen : Seen) : Type 0 where
  pub first : container_features seen.nx ≡ []
  pub all : (n : Naming) → IsLive image seen n → features_through image seen n ≡ []

-- the space manager, what tells of chunks, the pool's bitmap and its queue have their shape
pub record IsShaped (image : List ℕ) (seen : Seen) (manager : List ℕ) : Type 0 where
  pub space : IsRightSpace image (site_of seen) manager
  pub pool : is_pool_shaped (site_of seen) manager ≡ true
  pub queued : (e : QueueEntry) → In e (queue_of image seen manager Pool) → is_queued_in_pool manager e ≡ true

-- every owner lies in the container; every block of it has at most one owner, and is marked exactly where it has one; and each
-- chunk's free count is the number of its free blocks
pub record IsSettled (image : List ℕ) (seen : Seen) (manager : List ℕ) : Type 0 where
  pub inside : (a : Owner) → IsOwner image seen a → (a.blocks == 0) ≡ false → lies_inside seen a ≡ true
  pub apart : (block : ℕ) (a b : Owner) → block < (site_of seen).blocks → IsOwner image seen a → IsOwner image seen b → covers a block ≡ true → covers b block ≡ true → a ≡ b
  pub marked : (block : ℕ) → block < (site_of seen).blocks → (is_marked (site_of seen).block_size image manager block ≡ true) ↔ IsOwned image seen block
  pub counts : (k : ℕ) → k < chunks_of manager → is_free_count (site_of seen).block_size image (chunk_at (site_of seen).block_size image manager k) ≡ true

-- the same of the blocks of the pool, with the pool's owners and bits
pub record IsPoolSettled (image : List ℕ) (seen : Seen) (manager : List ℕ) : Type 0 where
  pub apart : (block : ℕ) (a b : Owner) → is_of_pool manager block ≡ true → IsPoolOwner image seen a → IsPoolOwner image seen b → covers a block ≡ true → covers b block ≡ true → a ≡ b
  pub marked : (block : ℕ) → is_of_pool manager block ≡ true → (is_pool_marked (site_of seen).block_size image manager block ≡ true) ↔ IsPoolOwned image seen block

-- an accounted container
pub record IsAccounted (image : List ℕ) (seen : Seen) : Type 0 where
  pub names : AreNamed image seen
  pub trees : AreInOrder image seen
  pub plain : IsPlain image seen
  pub manager : List ℕ
  pub block : ℕ
  pub managed : HasManager seen manager block
  pub shaped : IsShaped image seen manager
  pub settled : IsSettled image seen manager
  pub pool : IsPoolSettled image seen manager
