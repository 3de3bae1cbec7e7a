-- What is told of all that was gathered.
use Rattle.std.specs.Prelude.{◌≡◌, ◌⊎◌, ℕ, Bool, List, map}
use Rattle.apfs_model.specs.Apart.{Apart}
use Rattle.apfs_model.specs.Lists.{In, Lists}
use Rattle.omap_map.specs.declared.records.OmapRecord.{OmapRecord}
use Rattle.nx_ring.specs.Checkpoint.{Seen}
use Rattle.reach_rules.specs.declared.naming.LookUp.{LookUp}
use Rattle.reach_rules.specs.declared.naming.LookUp.TheVariants.{ByBlock, ByMapping, InContainer}
use Rattle.reach_rules.specs.declared.naming.Object.{Object}
use Rattle.reach_rules.specs.declared.naming.Object.TheVariants.{Newest, InBlock, OfId, OfRecord}
use Rattle.reach_rules.specs.declared.naming.Naming.{Naming}
use Rattle.reach_rules.specs.contracts.naming.LookUpPartialEq.TheImpl as of_look
use Rattle.reach_rules.specs.declared.owner.Owner.{Owner}
use Rattle.reach_rules.specs.Reached.{range_of}
use Rattle.reach_gather.specs.ViewParts.{ResolvesTo}

-- ranges are those of some owners, each of which is taken once
pub record AreRangesOnce (owners : List Owner) (ranges : List (ℕ × ℕ)) : Type 0 where
  pub each : List Owner
  pub lists : Lists each (λ a. In a owners)
  pub apart : Apart each
  pub same : ranges ≡ map range_of each

-- the first block of a range
abbrev pub first_of : ℕ × ℕ → ℕ
first_of r = r.0

-- two look-ups are one
abbrev pub is_look : LookUp → LookUp → Bool
is_look = of_look.ghosts.eq

-- the id of a naming
abbrev pub id_of : Naming → ℕ
id_of n = n.oid

-- of some namings no two name one id
abbrev pub AreOnceHere : List Naming → Type 0
AreOnceHere ns = (m n : Naming) → In m ns → In n ns → m.oid ≡ n.oid → m ≡ n

-- an id is that of one of some namings that are looked up so
pub record IsIdOf (how : LookUp) (namings : List Naming) (oid : ℕ) : Type 0 where
  pub naming : Naming
  pub one : In naming namings
  pub how_is : naming.how ≡ how
  pub oid_is : oid ≡ naming.oid

-- an object is the newest superblock, that of a block or of an ephemeral id that some namings name, or that of one of some records
abbrev pub IsObjectOf : List Naming → List (ℕ × OmapRecord) → Object → Type 0
IsObjectOf namings records Newest = Unit {0}
IsObjectOf namings records (InBlock block) = IsIdOf ByBlock namings block
IsObjectOf namings records (OfId oid) = IsIdOf ByMapping namings oid
IsObjectOf namings records (OfRecord map r) = In (map, r) records

-- records are those that views use, and those to which the namings resolve that are looked up in the container
pub record AreRecordsWith (image : List ℕ) (seen : Seen) (namings : List Naming) (used records : List (ℕ × OmapRecord)) : Type 0 where
  pub of_views : (r : ℕ × OmapRecord) → In r used → In r records
  pub of_namings : (n : Naming) → In n namings → n.how ≡ InContainer → (r : ℕ × OmapRecord) → ResolvesTo image seen n r → In r records
  pub only : (r : ℕ × OmapRecord) → In r records → In r used ⊎ ((n : Naming) × (In n namings × ResolvesTo image seen n r))
