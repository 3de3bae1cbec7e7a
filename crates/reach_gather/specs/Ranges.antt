-- The ranges of a container's owners, and the number of its named objects, by its parts and its views.
use Rattle.std.specs.Prelude.{ℕ, List, ◌∷◌, ◌++◌, length, map, flat_map}
use Rattle.apfs_model.specs.Apart.{Apart}
use Rattle.apfs_model.specs.Counts.{given}
use Rattle.apfs_model.specs.Lists.{In}
use Rattle.nx_ring.specs.Checkpoint.{Seen}
use Rattle.omap_map.specs.declared.records.OmapRecord.{OmapRecord}
use Rattle.reach_rules.specs.declared.naming.Object.{Object}
use Rattle.reach_rules.specs.declared.naming.Object.TheVariants.{Newest}
use Rattle.reach_rules.specs.declared.naming.Naming.{Naming}
use Rattle.reach_rules.specs.declared.owner.Owner.{Owner}
use Rattle.reach_rules.specs.Owners.{first_owners, owners_through}
use Rattle.reach_rules.specs.Tally.{IsObjectCount}
use Rattle.reach_gather.specs.Tells.{objects_through}
use Rattle.reach_gather.specs.ViewParts.{record_object, record_owner, AreJoined}

-- the owners of a container by its parts and its views
abbrev pub joined_owners : List ℕ → Seen → List Naming → List (ℕ × OmapRecord) → List Owner
joined_owners image seen all records = first_owners seen.nx ++ (flat_map (owners_through image seen) all ++ map record_owner records)

-- its named objects, one of them for each naming and each record
abbrev pub joined_objects : List ℕ → Seen → List Naming → List (ℕ × OmapRecord) → List Object
joined_objects image seen all records = Newest ∷ flat_map (objects_through image seen) all ++ map record_object records

-- what they tell of ranges and of numbers
pub record RangesTold (image : List ℕ) (seen : Seen) : Type 0 where
  pub objects : (all views : List Naming) (records : List (ℕ × OmapRecord)) (objects : List Object) → AreJoined image seen all views records → Apart objects → ((x : Object) → In x objects → In x (joined_objects image seen all records)) → ((x : Object) → In x (joined_objects image seen all records) → In x objects) → IsObjectCount image seen (given (length objects))
