-- What the views of a container tell, by the records of object maps that they use; and the container with its views.
use Rattle.std.specs.Prelude.{◌≡◌, ◌⊎◌, ℕ, Bool, true, false, List, [], ◌∷◌, ◌++◌, map, flat_map, Some}
use Rattle.apfs_model.specs.Lists.{In, Lists}
use Rattle.bt_node.specs.Entries.{Pair}
use Rattle.bt_cursor.specs.declared.step.Step.{Step}
use Rattle.nx_ring.specs.Checkpoint.{Seen}
use Rattle.omap_map.specs.declared.records.OmapRecord.{OmapRecord}
use Rattle.reach_rules.specs.declared.naming.ViewAt.{ViewAt}
use Rattle.reach_rules.specs.declared.naming.LookUp.{LookUp}
use Rattle.reach_rules.specs.declared.naming.LookUp.TheVariants.{ByBlock, ByMapping, InContainer, InView}
use Rattle.reach_rules.specs.declared.naming.Object.{Object}
use Rattle.reach_rules.specs.declared.naming.Object.TheVariants.{Newest, OfRecord}
use Rattle.reach_rules.specs.declared.naming.Namer.{Namer}
use Rattle.reach_rules.specs.declared.naming.TreeKind.{TreeKind}
use Rattle.reach_rules.specs.declared.naming.TreeKind.TheVariants.{Files}
use Rattle.reach_rules.specs.declared.naming.Expected.{Expected}
use Rattle.reach_rules.specs.declared.naming.Expected.TheVariants.{ExtendedMetadata, TreeRoot, TreeNode}
use Rattle.reach_rules.specs.declared.naming.Naming.{Naming}
use Rattle.reach_rules.specs.Resolved.{Found, resolved}
use Rattle.reach_rules.specs.Next.{roots, next, unless_zero, address_namings}
use Rattle.reach_rules.specs.Live.{Live, IsLive, NamesSound, IsNamed}
use Rattle.reach_rules.specs.declared.owner.Who.TheVariants.{Recorded}
use Rattle.reach_rules.specs.declared.owner.Owner.{Owner}
use Rattle.reach_rules.specs.Owners.{owner, first_owners, owners_through, IsOwner}
use Rattle.reach_rules.specs.PoolOwners.{pool_owners_through, IsPoolOwner}
use Rattle.reach_rules.specs.Features.{features_through}
use Rattle.reach_rules.specs.Maps.{IsUsed, IsIdle}
use Rattle.reach_gather.specs.Namings.{tree_namings}
use Rattle.reach_gather.specs.Joined.{AreAllOf, HaveSame}
use Rattle.reach_gather.specs.Container.{block_namings, reap_namings, kept_namings, all_views}
use Rattle.reach_gather.specs.Tells.{objects_through, IsThrough, ArePlainFrom, AreOnce}

-- what is expected of an object of a view: the root of its files, a node of them, or the extended metadata
abbrev pub ExpectsOfView : Expected → Type 0
ExpectsOfView e =
    ((hashed : Bool) × (e ≡ TreeRoot (Files hashed)))
    ⊎ (((hashed : Bool) × ((level : ℕ) × (e ≡ TreeNode (Files hashed) level)))
    ⊎ (e ≡ ExtendedMetadata))

-- a naming of an object of a view, whose id is looked up in that view
pub record IsOfView (n : Naming) : Type 0 where
  pub view : ViewAt
  pub how_is : n.how ≡ InView view
  pub expects : ExpectsOfView n.expected

-- an id is looked up in a view
abbrev pub is_in_view : LookUp → Bool
is_in_view ByBlock = false
is_in_view ByMapping = false
is_in_view InContainer = false
is_in_view (InView view) = true

-- a record of the object map in a block, as an object
abbrev pub record_object : ℕ × OmapRecord → Object
record_object r = OfRecord r.0 r.1

-- and as an owner
abbrev pub record_owner : ℕ × OmapRecord → Owner
record_owner r = owner (Recorded r.0 r.1) r.1.paddr 1

-- a naming resolves to the object of a record
pub record ResolvesTo (image : List ℕ) (seen : Seen) (n : Naming) (r : ℕ × OmapRecord) : Type 0 where
  pub object : Found
  pub found : resolved image seen n ≡ Some object
  pub record_is : object.object ≡ record_object r

-- records are those to whose objects the namings resolve that are live from first ones
pub record AreRecordsOf (image : List ℕ) (seen : Seen) (first : List Naming) (records : List (ℕ × OmapRecord)) : Type 0 where
  pub each : (n : Naming) → Live first (next image seen) n → (r : ℕ × OmapRecord) × (In r records × ResolvesTo image seen n r)
  pub only : (r : ℕ × OmapRecord) → In r records → (n : Naming) × (Live first (next image seen) n × ResolvesTo image seen n r)

-- what the views of a container tell, by their records: an owner and an object of each, and no owner of the pool
pub record ViewsTell (image : List ℕ) (seen : Seen) : Type 0 where
  pub views : (n : Naming) → Live (all_views image seen) (next image seen) n → IsOfView n
  pub owners : (records : List (ℕ × OmapRecord)) → AreRecordsOf image seen (all_views image seen) records → Lists (map record_owner records) (IsThrough image seen (owners_through image seen) (all_views image seen))
  pub pool_owners : (records : List (ℕ × OmapRecord)) → AreRecordsOf image seen (all_views image seen) records → Lists [] (IsThrough image seen (pool_owners_through image seen) (all_views image seen))
  pub objects : (records : List (ℕ × OmapRecord)) → AreRecordsOf image seen (all_views image seen) records → Lists (map record_object records) (IsThrough image seen (objects_through image seen) (all_views image seen))

-- no naming of some is looked up in a view
abbrev pub AreOutside : List Naming → Type 0
AreOutside ns = (n : Naming) → In n ns → is_in_view n.how ≡ false

-- which lists are so
pub record OutsideViews (image : List ℕ) (seen : Seen) : Type 0 where
  pub none : AreOutside []
  pub one : (n : Naming) (ns : List Naming) → is_in_view n.how ≡ false → AreOutside ns → AreOutside (n ∷ ns)
  pub join : (ns ms : List Naming) → AreOutside ns → AreOutside ms → AreOutside (ns ++ ms)
  pub each : (f : ℕ → List Naming) (ks : List ℕ) → ((k : ℕ) → In k ks → AreOutside (f k)) → AreOutside (flat_map f ks)
  pub all : (f : Naming → List Naming) (ns : List Naming) → ((n : Naming) → In n ns → AreOutside (f n)) → AreOutside (flat_map f ns)
  pub unless : (namer : Namer) (at : ℕ) (e : Expected) (how : LookUp) (oid : ℕ) → is_in_view how ≡ false → AreOutside (unless_zero namer at e how oid)
  pub tree : (object : ℕ → Object) (kind : TreeKind) (root : Naming) (steps : List Step) → is_in_view root.how ≡ false → AreOutside (tree_namings object kind root steps)
  pub lists : (namer : Namer) (at : ℕ) (oids : List ℕ) → AreOutside (reap_namings namer at oids)
  pub kept : (slot : ℕ) (bytes : List ℕ) (extents : ℕ → List Naming) (i : ℕ) (pairs : List Pair) → ((k : ℕ) → AreOutside (extents k)) → AreOutside (kept_namings slot bytes extents i pairs)
  pub blocks : (namer : Namer) (manager : List ℕ) → AreOutside (flat_map (block_namings image seen) (address_namings namer manager))

-- of some namings that are looked up alike no two name one id
abbrev pub AreOnceAs : LookUp → List Naming → Type 0
AreOnceAs how ns = (m n : Naming) → In m ns → In n ns → m.how ≡ how → n.how ≡ how → m.oid ≡ n.oid → m ≡ n

-- a container and its views: the namings apart from those of views, each of which is looked up otherwise, and names an ephemeral id
-- or one in the container once; what the views name, in any order; and the records that they use, each of whose namings is plain and
-- names an id once
pub record AreJoined (image : List ℕ) (seen : Seen) (all views : List Naming) (records : List (ℕ × OmapRecord)) : Type 0 where
  pub part : AreAllOf image seen (roots seen.nx) all (all_views image seen)
  pub outside : AreOutside all
  pub mapped_once : AreOnceAs ByMapping all
  pub container_once : AreOnceAs InContainer all
  pub views_are : HaveSame (all_views image seen) views
  pub records_are : AreRecordsOf image seen views records
  pub views_plain : ArePlainFrom image seen views
  pub views_once : AreOnce (Live views (next image seen)) (Live views (next image seen))

-- what they tell of the account: of names, of owners, of named objects, and of the records that are used
pub record IsTold (image : List ℕ) (seen : Seen) (all : List Naming) (records : List (ℕ × OmapRecord)) : Type 0 where
  pub named : (n : Naming) → IsLive image seen n → (f : Found) × NamesSound image seen n f
  pub plain : (n : Naming) → IsLive image seen n → features_through image seen n ≡ []
  pub once : AreOnce (IsLive image seen) (IsLive image seen)
  pub owners : Lists (first_owners seen.nx ++ (flat_map (owners_through image seen) all ++ map record_owner records)) (IsOwner image seen)
  pub pool_owners : Lists (flat_map (pool_owners_through image seen) all) (IsPoolOwner image seen)
  pub objects : Lists (Newest ∷ flat_map (objects_through image seen) all ++ map record_object records) (IsNamed image seen)
  pub used : (r : ℕ × OmapRecord) → In r records → IsUsed image seen r.0 r.1
  pub used_by : (n : Naming) (r : ℕ × OmapRecord) → In n all → ResolvesTo image seen n r → IsUsed image seen r.0 r.1
  pub idle : (r : ℕ × OmapRecord) → (In r records → ⊥) → ((n : Naming) → In n all → ResolvesTo image seen n r → ⊥) → IsIdle image seen r.0 r.1

-- what a container with its views tells
abbrev pub JoinedTells : List ℕ → Seen → Type 0
JoinedTells image seen = (all views : List Naming) (records : List (ℕ × OmapRecord)) → AreJoined image seen all views records → IsTold image seen all records
