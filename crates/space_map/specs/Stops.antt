-- What is there where the space of a container can't be told, and what holds where it can.
use Rattle.std.specs.Prelude.{◌≡◌, ◌⊎◌, ℕ, ◌<◌, Bool, true, false, not, ◌||◌, ◌==◌, List, [], None, Some, is_ok, Err}
use Rattle.apfs_model.specs.Blocks.{block_of, in_container}
use Rattle.apfs_model.specs.Lists.{In}
use Rattle.apfs_model.specs.Object.{cab_kind, cib_kind}
use Rattle.obj_base.specs.Features.{with_feature}
use Rattle.obj_base.specs.declared.stop.Bad.TheVariants.{Found, Unsupported}
use Rattle.obj_base.specs.declared.stop.Feature.{Feature}
use Rattle.obj_base.specs.declared.stop.Feature.TheVariants.{Fusion}
use Rattle.obj_base.specs.declared.stop.Within.TheVariants.{Physical, Ephemeral, Container, Volume}
use Rattle.obj_base.specs.declared.site.Site.{Site}
use Rattle.nx_block.specs.Super.{space_oid_of}
use Rattle.nx_ring.specs.Checkpoint.{Seen, site_of}
use Rattle.space_map.specs.Fields.{cabs_of, cibs_of, chunks_of, second_blocks_of, tier_queue_of}
use Rattle.space_map.specs.Geometry.{is_shaped}
use Rattle.space_map.specs.Blocks.{manager_of, manager_block, manager_test, address_at, cab_blocks, cib_block, cib_blocks, info_test, is_info, is_cab_named, is_cib_named}
use Rattle.space_map.specs.Chunks.{chunk_at, chunks_in, is_told, are_told}
use Rattle.space_map.specs.Marks.{lacks_bitmap}
use Rattle.space_map.specs.Tests.{is_cab, is_cib, is_chunk, is_in_pool, is_free_total}
use Rattle.space_map.specs.declared.chunk.Chunk.{Chunk}
use Rattle.space_map.specs.declared.fault.SpaceFault.{SpaceFault}
use Rattle.space_map.specs.declared.fault.SpaceFault.TheVariants.{Unnamed, Unsound, Geometry, Cab, Cib, Index, Place, FreeTotal}

-- Fusion: there is a second device, or a free queue of the second tier
unfoldable pub is_fusion : List ℕ → Bool
is_fusion manager = not (second_blocks_of manager == 0) || not (tier_queue_of manager == 0)

-- the features of a space manager; the block is the manager's first
abbrev pub space_features : List ℕ → List Feature
space_features manager = with_feature (is_fusion manager) Fusion []

-- the space manager of a checkpoint is there, its first block is one of the container, and it is sound
pub record HasManager (seen : Seen) (manager : List ℕ) (block : ℕ) : Type 0 where
  pub some : manager_of seen ≡ Some manager
  pub at : manager_block seen ≡ Some block
  pub sound : is_ok (manager_test seen manager) ≡ true

-- a fact of the sound space manager of a checkpoint
abbrev pub OfManager : Seen → (List ℕ → Type 0) → Type 0
OfManager seen P = (manager : List ℕ) × (block : ℕ) × HasManager seen manager block × P manager

-- chunk-info address block i is named, and this is its block
pub record NamesCab (manager : List ℕ) (i block : ℕ) : Type 0 where
  pub named : is_cab_named manager i ≡ true
  pub same : block ≡ address_at manager i

-- chunk-info block i is named, and this is its block
pub record NamesCib (image : List ℕ) (site : Site) (manager : List ℕ) (i block : ℕ) : Type 0 where
  pub named : is_cib_named image site manager i ≡ true
  pub same : block ≡ cib_block site.block_size image manager i

-- a block is named as one of a kind that tells of chunks
abbrev pub NamesInfo : List ℕ → Site → List ℕ → ℕ → ℕ → Type 0
NamesInfo image site manager kind block =
    ((kind ≡ cab_kind) × ((i : ℕ) × NamesCab manager i block)) ⊎ ((kind ≡ cib_kind) × ((i : ℕ) × NamesCib image site manager i block))

-- a block is named as one that tells of chunks, and is one of the container
pub record NamesInside (image : List ℕ) (site : Site) (manager : List ℕ) (kind block : ℕ) : Type 0 where
  pub named : NamesInfo image site manager kind block
  pub inside : in_container site.blocks block ≡ Some block

-- a block is the bitmap of a chunk of which a sound chunk-info block tells
pub record IsBitmap (image : List ℕ) (site : Site) (manager : List ℕ) (block : ℕ) : Type 0 where
  pub chunk : ℕ
  pub told : is_told image site manager chunk ≡ true
  pub some : lacks_bitmap (chunk_at site.block_size image manager chunk) ≡ false
  pub same : block ≡ (chunk_at site.block_size image manager chunk).bitmap

-- a block must lie in the pool: one that is named as telling of chunks, or a chunk's bitmap
abbrev pub MustBeInPool : List ℕ → Site → List ℕ → ℕ → Type 0
MustBeInPool image site manager block = ((kind : ℕ) × NamesInfo image site manager kind block) ⊎ IsBitmap image site manager block

-- Unsound: the manager's header fails a test, in its first block
abbrev pub IsUnsoundManager : Seen → SpaceFault → Type 0
IsUnsoundManager seen (Unsound block why) = (manager : List ℕ) × (manager_of seen ≡ Some manager) × (manager_block seen ≡ Some block) × (manager_test seen manager ≡ Err (Found why))
IsUnsoundManager seen (Unnamed within oid) = ⊥
IsUnsoundManager seen Geometry = ⊥
IsUnsoundManager seen (Cab i) = ⊥
IsUnsoundManager seen (Cib i) = ⊥
IsUnsoundManager seen (Index k) = ⊥
IsUnsoundManager seen (Place block) = ⊥
IsUnsoundManager seen FreeTotal = ⊥

-- the fault of a sound manager, or of a block or a chunk below it, is there; each on its own, whether or not the geometry is right
abbrev pub IsFaultOf : List ℕ → Site → List ℕ → SpaceFault → Type 0
IsFaultOf image site manager (Unnamed Physical oid) = ((kind : ℕ) × NamesInfo image site manager kind oid) × (in_container site.blocks oid ≡ None)
IsFaultOf image site manager (Unnamed Ephemeral oid) = ⊥
IsFaultOf image site manager (Unnamed Container oid) = ⊥
IsFaultOf image site manager (Unnamed (Volume slot) oid) = ⊥
IsFaultOf image site manager (Unsound block why) = (kind : ℕ) × NamesInside image site manager kind block × (info_test image site kind block ≡ Err (Found why))
IsFaultOf image site manager Geometry = is_shaped site manager ≡ false
IsFaultOf image site manager (Cab i) = (is_cab_named manager i ≡ true) × (is_info image site cab_kind (address_at manager i) ≡ true) × (is_cab manager i (block_of site.block_size image (address_at manager i)) ≡ false)
IsFaultOf image site manager (Cib i) =
    (is_cib_named image site manager i ≡ true) × (is_info image site cib_kind (cib_block site.block_size image manager i) ≡ true)
    × (is_cib manager i (block_of site.block_size image (cib_block site.block_size image manager i)) ≡ false)
IsFaultOf image site manager (Index k) = (is_told image site manager k ≡ true) × (is_chunk site k (chunk_at site.block_size image manager k) ≡ false)
IsFaultOf image site manager (Place block) = MustBeInPool image site manager block × (is_in_pool site manager block ≡ false)
IsFaultOf image site manager FreeTotal = (are_told image site manager ≡ true) × (is_free_total site.block_size image manager ≡ false)

-- Unnamed: the superblock names a space manager that has no first block in the container
abbrev pub IsUnnamedManager : Seen → SpaceFault → Type 0
IsUnnamedManager seen (Unnamed Ephemeral oid) = (oid ≡ space_oid_of seen.nx) × (manager_block seen ≡ None)
IsUnnamedManager seen (Unnamed Physical oid) = ⊥
IsUnnamedManager seen (Unnamed Container oid) = ⊥
IsUnnamedManager seen (Unnamed (Volume slot) oid) = ⊥
IsUnnamedManager seen (Unsound block why) = ⊥
IsUnnamedManager seen Geometry = ⊥
IsUnnamedManager seen (Cab i) = ⊥
IsUnnamedManager seen (Cib i) = ⊥
IsUnnamedManager seen (Index k) = ⊥
IsUnnamedManager seen (Place block) = ⊥
IsUnnamedManager seen FreeTotal = ⊥

-- what is named of a container's space is there: of the manager, or of what stands below it
abbrev pub IsSpaceFault : List ℕ → Seen → SpaceFault → Type 0
IsSpaceFault image seen fault =
    IsUnnamedManager seen fault ⊎ (IsUnsoundManager seen fault ⊎ OfManager seen (λ manager. IsFaultOf image (site_of seen) manager fault))

-- a feature of the space manager is there, in its first block: of its header, or of a sound manager's fields
abbrev pub IsManagerFeature : Seen → Feature → ℕ → Type 0
IsManagerFeature seen feature block =
    (manager : List ℕ) × (manager_of seen ≡ Some manager) × (manager_block seen ≡ Some block)
    × ((manager_test seen manager ≡ Err (Unsupported feature)) ⊎ ((is_ok (manager_test seen manager) ≡ true) × In feature (space_features manager)))

-- a feature of the header of a block that tells of chunks is there
abbrev pub IsInfoFeature : List ℕ → Site → List ℕ → Feature → ℕ → Type 0
IsInfoFeature image site manager feature block = (kind : ℕ) × NamesInside image site manager kind block × (info_test image site kind block ≡ Err (Unsupported feature))

-- a feature of a container's space is there
abbrev pub IsSpaceFeature : List ℕ → Seen → Feature → ℕ → Type 0
IsSpaceFeature image seen feature block =
    IsManagerFeature seen feature block ⊎ OfManager seen (λ manager. IsInfoFeature image (site_of seen) manager feature block)

-- chunk-info address block i lies in the pool, is sound, and has its index and its count
pub record IsRightCab (image : List ℕ) (site : Site) (manager : List ℕ) (i : ℕ) : Type 0 where
  pub placed : is_in_pool site manager (address_at manager i) ≡ true
  pub sound : is_info image site cab_kind (address_at manager i) ≡ true
  pub right : is_cab manager i (block_of site.block_size image (address_at manager i)) ≡ true

-- chunk-info block i lies in the pool, is sound, and has its index and its count
pub record IsRightCib (image : List ℕ) (site : Site) (manager : List ℕ) (i : ℕ) : Type 0 where
  pub placed : is_in_pool site manager (cib_block site.block_size image manager i) ≡ true
  pub sound : is_info image site cib_kind (cib_block site.block_size image manager i) ≡ true
  pub right : is_cib manager i (block_of site.block_size image (cib_block site.block_size image manager i)) ≡ true

-- a chunk's bitmap, where it has one, lies in the pool
unfoldable pub is_bitmap_placed : Site → List ℕ → Chunk → Bool
is_bitmap_placed site manager chunk = lacks_bitmap chunk || is_in_pool site manager chunk.bitmap

-- nothing that could be named of a container's space is there
pub record IsRightSpace (image : List ℕ) (site : Site) (manager : List ℕ) : Type 0 where
  pub plain : space_features manager ≡ []
  pub shaped : is_shaped site manager ≡ true
  pub cabs : (i : ℕ) → i < cabs_of manager → IsRightCab image site manager i
  pub cibs : (i : ℕ) → i < cibs_of manager → IsRightCib image site manager i
  pub chunks : (k : ℕ) → k < chunks_of manager → is_chunk site k (chunk_at site.block_size image manager k) ≡ true
  pub bitmaps : (k : ℕ) → k < chunks_of manager → is_bitmap_placed site manager (chunk_at site.block_size image manager k) ≡ true
  pub total : is_free_total site.block_size image manager ≡ true

-- what is known of a container's space once it is loaded
pub record Known : Type 0 where
  pub site : Site
  pub manager : List ℕ
  pub cabs : List ℕ
  pub cibs : List ℕ
  pub chunks : List Chunk

-- the space of a container by its manager
unfoldable pub known_of : List ℕ → Site → List ℕ → Known
known_of image site manager = record {
  site = site;
  manager = manager;
  cabs = cab_blocks manager;
  cibs = cib_blocks site.block_size image manager;
  chunks = chunks_in site.block_size image manager;
}

-- the space of a checkpoint's container is right, and this is it
pub record IsSpaceOf (image : List ℕ) (seen : Seen) (space : Known) : Type 0 where
  pub block : ℕ
  pub manager : HasManager seen space.manager block
  pub right : IsRightSpace image (site_of seen) space.manager
  pub same : space ≡ known_of image (site_of seen) space.manager
