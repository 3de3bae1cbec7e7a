-- Which records of object maps are used.
use Rattle.std.specs.Prelude.{◌≡◌, ℕ, true, false, List}
use Rattle.apfs_model.specs.Lists.{In}
use Rattle.obj_base.specs.declared.stop.Within.{Within}
use Rattle.nx_ring.specs.Checkpoint.{Seen, site_of}
use Rattle.omap_map.specs.Maps.{map_records, is_map_object}
use Rattle.omap_map.specs.Records.{is_deleted}
use Rattle.omap_map.specs.declared.records.OmapRecord.{OmapRecord}
use Rattle.reach_rules.specs.declared.fault.ReachFault.{ReachFault}
use Rattle.reach_rules.specs.declared.fault.ReachFault.TheVariants.{Unsound, Unnamed, NamedTwice, OwnedTwice, Outside, UnusedMapping, Leaked, Missing, PoolLeaked, PoolMissing, FreeCount, Space, Pool, Tree, Value}
use Rattle.reach_rules.specs.Maps.{IsMapOf, IsUsed}
use Rattle.view_sweep.specs.declared.used.Used.{Used}
use Rattle.view_sweep.specs.declared.idle.MapRecords.{MapRecords}

-- a record of the map in a block
abbrev pub used_in : ℕ → OmapRecord → Used
used_in map r = record { map = map; mapping = r }

-- each record of a map that isn't marked deleted is among some
abbrev pub AreUsedIn : MapRecords → List Used → Type 0
AreUsedIn m used = (r : OmapRecord) → In r m.records.now → is_deleted r.flags ≡ false → In (used_in m.map r) used

-- so it is of each of some maps
abbrev pub AreAllUsed : List MapRecords → List Used → Type 0
AreAllUsed maps used = (m : MapRecords) → In m maps → AreUsedIn m used

-- a record of a map isn't marked deleted, and isn't among some
pub record IsIdleOf (m : MapRecords) (used : List Used) (r : OmapRecord) : Type 0 where
  pub one : In r m.records.now
  pub kept : is_deleted r.flags ≡ false
  pub idle : In (used_in m.map r) used → ⊥

-- UnusedMapping: a record of one of some maps isn't marked deleted and isn't used
pub record HasIdle (maps : List MapRecords) (used : List Used) (within : Within) (oid xid : ℕ) : Type 0 where
  pub of : MapRecords
  pub listed : In of maps
  pub mapping : OmapRecord
  pub is : IsIdleOf of used mapping
  pub within_is : within ≡ of.within
  pub oid_is : oid ≡ mapping.oid
  pub xid_is : xid ≡ mapping.xid

-- a fault that is named of records is there
abbrev pub IsUnusedHere : List MapRecords → List Used → ReachFault → Type 0
IsUnusedHere maps used (UnusedMapping within oid xid) = HasIdle maps used within oid xid
IsUnusedHere maps used (Unsound block why) = ⊥
IsUnusedHere maps used (Unnamed within oid xid) = ⊥
IsUnusedHere maps used (NamedTwice within oid xid) = ⊥
IsUnusedHere maps used (OwnedTwice block) = ⊥
IsUnusedHere maps used (Outside block) = ⊥
IsUnusedHere maps used (Leaked block) = ⊥
IsUnusedHere maps used (Missing block) = ⊥
IsUnusedHere maps used (PoolLeaked block) = ⊥
IsUnusedHere maps used (PoolMissing block) = ⊥
IsUnusedHere maps used (FreeCount chunk) = ⊥
IsUnusedHere maps used (Space fault) = ⊥
IsUnusedHere maps used (Pool fault) = ⊥
IsUnusedHere maps used (Tree root item) = ⊥
IsUnusedHere maps used (Value root item) = ⊥

-- the records are those of the sound object maps of a container
abbrev pub AreMapsOf : List ℕ → Seen → List MapRecords → Type 0
AreMapsOf image seen maps = (m : MapRecords) → In m maps → IsMapOf image seen m.within m.map × (is_map_object image (site_of seen) m.map ≡ true) × (m.records.now ≡ map_records image (site_of seen) m.map)

-- records are exactly those to which live namings resolve
pub record AreUsedOnes (image : List ℕ) (seen : Seen) (used : List Used) : Type 0 where
  pub only : (u : Used) → In u used → IsUsed image seen u.map u.mapping
  pub all : (map : ℕ) (r : OmapRecord) → IsUsed image seen map r → In (used_in map r) used
