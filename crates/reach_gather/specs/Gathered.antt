-- What is to be gathered of a container so that all of it is reached.
use Rattle.std.specs.Prelude.{◌≡◌, ℕ, false, ◌==◌, List, [], length, map, flat_map}
use Rattle.apfs_model.specs.Apart.{Apart}
use Rattle.apfs_model.specs.Counts.{given}
use Rattle.apfs_model.specs.Lists.{In}
use Rattle.nx_ring.specs.Checkpoint.{Seen}
use Rattle.nx_ring.specs.Features.{container_features}
use Rattle.omap_map.specs.declared.records.OmapRecord.{OmapRecord}
use Rattle.space_map.specs.Stops.{IsSpaceOf}
use Rattle.space_pool.specs.Stops.{ArePoolBits}
use Rattle.reach_rules.specs.declared.naming.Object.{Object}
use Rattle.reach_rules.specs.declared.naming.Naming.{Naming}
use Rattle.reach_rules.specs.declared.owner.Owner.{Owner}
use Rattle.reach_rules.specs.PoolOwners.{pool_owners_through}
use Rattle.reach_rules.specs.Accounted.{IsShaped}
use Rattle.reach_rules.specs.Reached.{Whole, range_of, AreInPool, IsReached}
use Rattle.reach_gather.specs.ViewParts.{AreJoined}
use Rattle.reach_gather.specs.Account.{AreCovered, AreRightTrees}
use Rattle.reach_gather.specs.Ranges.{joined_owners, joined_objects}

-- a list has the items of another, each once
pub record AreOnceOf {X : Type 0} (these those : List X) : Type 0 where
  pub apart : Apart these
  pub there : (x : X) → In x these → In x those
  pub all : (x : X) → In x those → In x these

-- a list has the owners of another that have a block, each once
pub record AreOwnersOf (these those : List Owner) : Type 0 where
  pub apart : Apart these
  pub there : (a : Owner) → In a these → In a those
  pub some : (a : Owner) → In a these → (a.blocks == 0) ≡ false
  pub all : (a : Owner) → In a those → (a.blocks == 0) ≡ false → In a these

-- what was gathered: the namings apart from those of views and the records that views use, the owners and the owners of the pool with
-- a block and the named objects, each once and in any order, and what is known of the space and of the pool
pub record IsGathered (image : List ℕ) (seen : Seen) (all views : List Naming) (records : List (ℕ × OmapRecord)) (owners pool_owners : List Owner) (objects : List Object) (whole : Whole) : Type 0 where
  pub joined : AreJoined image seen all views records
  pub covered : AreCovered image seen all records
  pub trees : AreRightTrees image seen all
  pub plain : container_features seen.nx ≡ []
  pub owners_are : AreOwnersOf owners (joined_owners image seen all records)
  pub pool_owners_are : AreOwnersOf pool_owners (flat_map (pool_owners_through image seen) all)
  pub objects_are : AreOnceOf objects (joined_objects image seen all records)
  pub shaped : IsShaped image seen whole.space.manager
  pub count : whole.objects ≡ given (length objects)
  pub ranges : whole.owners ≡ map range_of owners
  pub pool_ranges : whole.pool_owners ≡ map range_of pool_owners
  pub placed : AreInPool whole.space.manager whole.pool_owners
  pub space : IsSpaceOf image seen whole.space
  pub pool : ArePoolBits image seen whole.space.manager whole.pool

-- once that is gathered all is reached
abbrev pub GatheredReaches : List ℕ → Seen → Type 0
GatheredReaches image seen =
    (all views : List Naming) (records : List (ℕ × OmapRecord)) (owners pool_owners : List Owner) (objects : List Object) (whole : Whole)
    → IsGathered image seen all views records owners pool_owners objects whole
    → IsReached image seen whole
