-- What is gathered of a container call by call, and that all is reached with it.
use Rattle.std.specs.Prelude.{◌≡◌, ◌⊎◌, ℕ, List, [], ◌∷◌, ◌++◌, length, map, flat_map, Some}
use Rattle.apfs_model.specs.Counts.{given}
use Rattle.apfs_model.specs.Lists.{In}
use Rattle.obj_base.specs.Stops.{Tells, NoFeature}
use Rattle.obj_base.specs.declared.stop.Stop.{Stop}
use Rattle.obj_base.specs.declared.stop.Within.TheVariants.{Container, Volume}
use Rattle.nx_block.specs.Super.{omap_oid_of}
use Rattle.nx_ring.specs.Checkpoint.{Seen, site_of}
use Rattle.nx_ring.specs.Features.{container_features}
use Rattle.omap_map.specs.Maps.{map_records, resolved_in}
use Rattle.omap_map.specs.declared.records.OmapRecord.{OmapRecord}
use Rattle.vol_view.specs.Volumes.{Loaded}
use Rattle.vol_view.specs.LoadStops.{IsVolumeOf}
use Rattle.vol_view.specs.declared.head.VolHead.{VolHead}
use Rattle.space_map.specs.Stops.{Known, IsSpaceOf}
use Rattle.space_pool.specs.Stops.{ArePoolBits}
use Rattle.reach_rules.specs.declared.naming.LookUp.TheVariants.{ByMapping, InContainer}
use Rattle.reach_rules.specs.declared.naming.Object.{Object}
use Rattle.reach_rules.specs.declared.naming.Namer.{Namer}
use Rattle.reach_rules.specs.declared.naming.Naming.{Naming}
use Rattle.reach_rules.specs.Next.{roots}
use Rattle.reach_rules.specs.Live.{IsLive}
use Rattle.reach_rules.specs.Features.{HasFeature}
use Rattle.reach_rules.specs.declared.fault.ReachFault.{ReachFault}
use Rattle.reach_rules.specs.declared.owner.Owner.{Owner}
use Rattle.reach_rules.specs.Owners.{first_owners}
use Rattle.reach_rules.specs.PoolOwners.{pool_owners_through}
use Rattle.reach_rules.specs.Accounted.{IsShaped}
use Rattle.reach_rules.specs.Reached.{Whole, range_of, AreInPool, IsReached, IsReachedFault}
use Rattle.reach_rules.specs.Tally.{IsNumberOf}
use Rattle.reach_gather.specs.Joined.{HaveSame}
use Rattle.reach_gather.specs.Container.{manager_naming, container_map_naming, reaper_naming, jumpstart_naming, all_views}
use Rattle.reach_gather.specs.ViewParts.{record_owner, AreOnceAs, AreJoined}
use Rattle.reach_gather.specs.Account.{AreCovered}
use Rattle.reach_gather.specs.Ranges.{joined_owners, joined_objects}
use Rattle.reach_gather.specs.Gathered.{AreOnceOf, AreOwnersOf}
use Rattle.reach_gather.specs.Volumes.Told.{head_naming, map_of}
use Rattle.reach_gather.specs.Volumes.Laws.{HasParts}
use Rattle.view_sweep.specs.declared.used.Used.{Used}
use Rattle.view_sweep.specs.declared.idle.MapRecords.{MapRecords}
use Rattle.view_sweep.specs.Named.{AreLive, AreReached}
use Rattle.view_sweep.specs.Unused.{AreAllUsed, IsUnusedHere, AreMapsOf, AreUsedOnes}
use Rattle.reach_gather.specs.Held.{Held, some_owners}
use Rattle.reach_gather.specs.Adds.{Adds}
use Rattle.reach_gather.specs.Finished.{AreRangesOnce, IsObjectOf, AreRecordsWith}
use Rattle.reach_gather.specs.Pooled.{ArePooled}
use Rattle.reach_sweep.specs.Views.{AreVolumes, ViewsAre}

-- a record that is used, with the block of its map
abbrev pub record_used : Used → ℕ × OmapRecord
record_used u = (u.map, u.mapping)

-- some of them
abbrev pub records_used : List Used → List (ℕ × OmapRecord)
records_used used = map record_used used

-- nothing is gathered yet but the owners of one block or more of which the newest superblock tells
pub record IsStart (seen : Seen) (held : Held) : Type 0 where
  pub namings : held.namings ≡ []
  pub owners : held.owners ≡ some_owners (first_owners seen.nx)
  pub pool_owners : held.pool_owners ≡ []

-- the owners of records were added to what was gathered, and nothing else
pub record HasRecords (records : List (ℕ × OmapRecord)) (old new : Held) : Type 0 where
  pub namings : new.namings ≡ old.namings
  pub owners : new.owners ≡ old.owners ++ map record_owner records
  pub pool_owners : new.pool_owners ≡ old.pool_owners

-- the records of the map in a block are among some maps
pub record IsListed (maps : List MapRecords) (block : ℕ) (records : List OmapRecord) : Type 0 where
  pub of : MapRecords
  pub one : In of maps
  pub map_is : of.map ≡ block
  pub records_are : of.records.now ≡ records

-- the volume of a head was loaded, and its map is among some maps
pub record IsListedOf (image : List ℕ) (seen : Seen) (maps : List MapRecords) (head : VolHead) : Type 0 where
  pub volume : Loaded
  pub loaded : IsVolumeOf image (site_of seen) head volume
  pub listed : IsListed maps (map_of volume) volume.omap.records

-- the maps of the container and of its volumes are among some maps
pub record AreListed (image : List ℕ) (seen : Seen) (heads : List VolHead) (maps : List MapRecords) : Type 0 where
  pub container : IsListed maps (omap_oid_of seen.nx) (map_records image (site_of seen) (omap_oid_of seen.nx))
  pub volumes : (head : VolHead) → In head heads → IsListedOf image seen maps head

-- ---- the parts together
-- the manager, the container's map, the reaper, the jumpstart and the volumes were added, one after the other: so all roots were
abbrev pub ArePartsAdded : List ℕ → Seen → Type 0
ArePartsAdded image seen =
    (heads : List VolHead) (rest : List Naming) (a b c d e f : Held)
    → HasParts image seen heads
    → Adds image seen (manager_naming seen.nx ∷ []) [] a b
    → Adds image seen (container_map_naming seen.nx ∷ []) [] b c
    → Adds image seen (reaper_naming seen.nx) [] c d
    → Adds image seen (jumpstart_naming seen.nx) [] d e
    → Adds image seen (map head_naming heads) rest e f
    → Adds image seen (roots seen.nx) rest a f

-- ---- what was added, and what views use
-- all roots were added, no id is named twice, and what views name was swept: so the namings and the records are joined
abbrev pub AreJoinedBy : List ℕ → Seen → Type 0
AreJoinedBy image seen =
    (rest first : List Naming) (used : List Used) (start parts : Held)
    → IsStart seen start
    → Adds image seen (roots seen.nx) rest start parts
    → AreOnceAs ByMapping parts.namings × AreOnceAs InContainer parts.namings
    → HaveSame (all_views image seen) rest
    → HaveSame (all_views image seen) first
    → AreReached image seen first used
    → AreJoined image seen parts.namings first (records_used used)

-- ---- the records of maps
-- all records of the listed maps that aren't marked deleted are used, and those that are used are of views or of namings: so the maps
-- are covered
abbrev pub AreCoveredBy : List ℕ → Seen → Type 0
AreCoveredBy image seen =
    (heads : List VolHead) (all : List Naming) (records those : List (ℕ × OmapRecord)) (maps : List MapRecords) (used : List Used)
    → HasParts image seen heads
    → AreListed image seen heads maps
    → AreAllUsed maps used
    → ((u : Used) → In u used → In (record_used u) those)
    → AreRecordsWith image seen all records those
    → AreCovered image seen all records

-- a record of the container's map by which the volume of a head is found
pub record IsHeadRecord (image : List ℕ) (seen : Seen) (heads : List VolHead) (r : ℕ × OmapRecord) : Type 0 where
  pub head : VolHead
  pub one : In head heads
  pub map_is : r.0 ≡ omap_oid_of seen.nx
  pub found : resolved_in image (site_of seen) (omap_oid_of seen.nx) head.oid seen.line.xid ≡ Some r.1

-- records are those by which the volumes of some heads are found
pub record AreHeadRecords (image : List ℕ) (seen : Seen) (heads : List VolHead) (records : List (ℕ × OmapRecord)) : Type 0 where
  pub all : (head : VolHead) (r : OmapRecord) → In head heads → resolved_in image (site_of seen) (omap_oid_of seen.nx) head.oid seen.line.xid ≡ Some r → In (omap_oid_of seen.nx, r) records
  pub only : (r : ℕ × OmapRecord) → In r records → IsHeadRecord image seen heads r

-- the records that views use, and those by which the volumes are found: these are all that are used
abbrev pub AreRecordsBy : List ℕ → Seen → Type 0
AreRecordsBy image seen =
    (heads : List VolHead) (volumes : List Loaded) (namer : Loaded → Namer) (all views : List Naming) (records of_heads : List (ℕ × OmapRecord))
    → HasParts image seen heads
    → AreVolumes image seen heads volumes namer
    → AreJoined image seen all views records
    → AreHeadRecords image seen heads of_heads
    → AreRecordsWith image seen all records (records ++ of_heads)

-- ---- what is live
-- what was added is live
abbrev pub AreHeldLive : List ℕ → Seen → Type 0
AreHeldLive image seen =
    (rest : List Naming) (start parts : Held)
    → IsStart seen start
    → Adds image seen (roots seen.nx) rest start parts
    → (n : Naming) → In n parts.namings → IsLive image seen n

-- and so is what views name
abbrev pub AreViewsLive : List ℕ → Seen → Type 0
AreViewsLive image seen =
    (rest first : List Naming) (start parts : Held)
    → Adds image seen (roots seen.nx) rest start parts
    → HaveSame (all_views image seen) rest
    → HaveSame (all_views image seen) first
    → AreLive image seen first

-- the records that are used are those to which live namings resolve
abbrev pub AreUsedBy : List ℕ → Seen → Type 0
AreUsedBy image seen =
    (all views : List Naming) (records : List (ℕ × OmapRecord)) (used : List Used)
    → AreJoined image seen all views records
    → AreRecordsWith image seen all records (records_used used)
    → AreUsedOnes image seen used

-- the records of the container's map, as `unused` takes them
pub record IsContainerMap (image : List ℕ) (seen : Seen) (m : MapRecords) : Type 0 where
  pub within_is : m.within ≡ Container
  pub map_is : m.map ≡ omap_oid_of seen.nx
  pub records_are : m.records.now ≡ map_records image (site_of seen) (omap_oid_of seen.nx)

-- those of a volume's
pub record IsVolumeMap (volumes : List Loaded) (m : MapRecords) : Type 0 where
  pub volume : Loaded
  pub one : In volume volumes
  pub within_is : m.within ≡ Volume volume.head.slot
  pub map_is : m.map ≡ map_of volume
  pub records_are : m.records.now ≡ volume.omap.records

-- maps of which each is the container's or a volume's are sound ones
abbrev pub AreMapsBy : List ℕ → Seen → Type 0
AreMapsBy image seen =
    (heads : List VolHead) (volumes : List Loaded) (namer : Loaded → Namer) (maps : List MapRecords)
    → HasParts image seen heads
    → AreVolumes image seen heads volumes namer
    → ((m : MapRecords) → In m maps → IsContainerMap image seen m ⊎ IsVolumeMap volumes m)
    → AreMapsOf image seen maps

-- so a record of a map that isn't used is there
abbrev pub AreUnusedPresent : List ℕ → Seen → Type 0
AreUnusedPresent image seen =
    (maps : List MapRecords) (used : List Used) (stop : Stop ReachFault)
    → AreUsedOnes image seen used
    → AreMapsOf image seen maps
    → Tells (IsUnusedHere maps used) NoFeature stop
    → Tells (IsReachedFault image seen) (HasFeature image seen) stop

-- ---- owners and objects
-- owners, each once, whose ranges these are
pub record AreOwnersAs (ranges : List (ℕ × ℕ)) (those : List Owner) : Type 0 where
  pub owners : List Owner
  pub are : AreOwnersOf owners those
  pub same : ranges ≡ map range_of owners

-- objects, each once, whose number this is
pub record AreObjectsAs (number : ℕ) (those : List Object) : Type 0 where
  pub objects : List Object
  pub are : AreOnceOf objects those
  pub same : number ≡ given (length objects)

-- the first owners, those of the parts, and the records: so the ranges are those of all owners
abbrev pub AreOwnersBy : List ℕ → Seen → Type 0
AreOwnersBy image seen =
    (rest : List Naming) (records : List (ℕ × OmapRecord)) (start parts done : Held) (ranges : List (ℕ × ℕ))
    → IsStart seen start
    → Adds image seen (roots seen.nx) rest start parts
    → HasRecords records parts done
    → AreRangesOnce done.owners ranges
    → AreOwnersAs ranges (joined_owners image seen parts.namings records)

-- and those of the pool
abbrev pub ArePoolOwnersBy : List ℕ → Seen → Type 0
ArePoolOwnersBy image seen =
    (rest : List Naming) (records : List (ℕ × OmapRecord)) (start parts done : Held) (ranges : List (ℕ × ℕ))
    → IsStart seen start
    → Adds image seen (roots seen.nx) rest start parts
    → HasRecords records parts done
    → AreRangesOnce done.pool_owners ranges
    → AreOwnersAs ranges (flat_map (pool_owners_through image seen) parts.namings)

-- which lie in the pool, in a right space whose queue's entries do
abbrev pub ArePlacedBy : List ℕ → Seen → Type 0
ArePlacedBy image seen =
    (rest : List Naming) (records : List (ℕ × OmapRecord)) (start parts done : Held) (space : Known) (ranges : List (ℕ × ℕ))
    → IsStart seen start
    → Adds image seen (roots seen.nx) rest start parts
    → HasRecords records parts done
    → AreRangesOnce done.pool_owners ranges
    → IsSpaceOf image seen space
    → ArePooled image seen space.manager
    → AreInPool space.manager ranges

-- the objects that are counted are those of the namings and of the records
abbrev pub AreObjectsBy : List ℕ → Seen → Type 0
AreObjectsBy image seen =
    (all views : List Naming) (records those : List (ℕ × OmapRecord)) (number : ℕ)
    → AreJoined image seen all views records
    → AreRecordsWith image seen all records those
    → IsNumberOf (IsObjectOf all those) number
    → AreObjectsAs number (joined_objects image seen all records)

-- ---- all together
-- what the calls say: the parts were added to the first owners, and the owners of views' records to these; no id is named twice; views'
-- namings were swept; the records of all maps are used; the ranges and the number of objects were told; and what is known of the space
pub record AreCalled (image : List ℕ) (seen : Seen) (heads : List VolHead) (rest first : List Naming) (used all_used : List Used) (those : List (ℕ × OmapRecord)) (maps : List MapRecords) (start parts done : Held) (whole : Whole) : Type 0 where
  pub has : HasParts image seen heads
  pub start_is : IsStart seen start
  pub added : Adds image seen (roots seen.nx) rest start parts
  pub once : AreOnceAs ByMapping parts.namings × AreOnceAs InContainer parts.namings
  pub rest_is : HaveSame (all_views image seen) rest
  pub first_is : HaveSame (all_views image seen) first
  pub reached : AreReached image seen first used
  pub listed : AreListed image seen heads maps
  pub all_are_used : AreAllUsed maps all_used
  pub among : (u : Used) → In u all_used → In (record_used u) those
  pub records_are : AreRecordsWith image seen parts.namings (records_used used) those
  pub told : HasRecords (records_used used) parts done
  pub ranges : AreRangesOnce done.owners whole.owners
  pub pool_ranges : AreRangesOnce done.pool_owners whole.pool_owners
  pub objects : IsNumberOf (IsObjectOf done.namings those) whole.objects
  pub plain : container_features seen.nx ≡ []
  pub shaped : IsShaped image seen whole.space.manager
  pub placed : AreInPool whole.space.manager whole.pool_owners
  pub space : IsSpaceOf image seen whole.space
  pub pool : ArePoolBits image seen whole.space.manager whole.pool

-- so all is reached
abbrev pub AreCallsReached : List ℕ → Seen → Type 0
AreCallsReached image seen =
    (heads : List VolHead) (rest first : List Naming) (used all_used : List Used) (those : List (ℕ × OmapRecord)) (maps : List MapRecords) (start parts done : Held) (whole : Whole)
    → AreCalled image seen heads rest first used all_used those maps start parts done whole
    → IsReached image seen whole

-- how what is gathered call by call is put together
pub record PartsCompose (image : List ℕ) (seen : Seen) : Type 0 where
  pub added : ArePartsAdded image seen
  pub joined : AreJoinedBy image seen
  pub covered : AreCoveredBy image seen
  pub records : AreRecordsBy image seen
  pub held_live : AreHeldLive image seen
  pub views_live : AreViewsLive image seen
  pub used : AreUsedBy image seen
  pub maps : AreMapsBy image seen
  pub unused : AreUnusedPresent image seen
  pub owners : AreOwnersBy image seen
  pub pool_owners : ArePoolOwnersBy image seen
  pub placed : ArePlacedBy image seen
  pub objects : AreObjectsBy image seen
  pub reached : AreCallsReached image seen
  pub views : ViewsAre image seen
