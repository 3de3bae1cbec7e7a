-- Which fault or feature is there among some objects that are wanted.
use Rattle.std.specs.Prelude.{◌≡◌, ◌⊎◌, ℕ, List, Option, None, Some, Err}
use Rattle.apfs_model.specs.Lists.{In}
use Rattle.obj_base.specs.declared.stop.Bad.TheVariants as bads
use Rattle.obj_base.specs.declared.stop.Feature.{Feature}
use Rattle.obj_base.specs.declared.stop.Stop.{Stop}
use Rattle.obj_base.specs.declared.stop.Within.{Within}
use Rattle.obj_base.specs.declared.stop.Within.TheVariants.{Volume}
use Rattle.obj_base.specs.Stops.{Tells}
use Rattle.obj_base.specs.declared.site.Site.{Site}
use Rattle.omap_map.specs.Features.{mapping_features}
use Rattle.omap_map.specs.declared.records.OmapRecord.{OmapRecord}
use Rattle.reach_rules.specs.declared.fault.Why.{Why}
use Rattle.reach_rules.specs.declared.fault.ReachFault.{ReachFault}
use Rattle.reach_rules.specs.declared.fault.ReachFault.TheVariants.{Unsound, Unnamed, NamedTwice, OwnedTwice, Outside, UnusedMapping, Leaked, Missing, PoolLeaked, PoolMissing, FreeCount, Space, Pool, Tree, Value}
use Rattle.view_sweep.specs.declared.wanted.Wanted.{Wanted}
use Rattle.view_sweep.specs.declared.used.Hit.{Hit}
use Rattle.view_sweep.specs.Found.{World, tested_as}
use Rattle.view_sweep.specs.Tests.{IsFaultOf, IsFeatureOf}

-- an object is shown by its volume, its id, and the transaction of the look-up
pub record IsShownAs (w : Wanted) (within : Within) (oid xid : ℕ) : Type 0 where
  pub within_is : within ≡ Volume w.view.slot
  pub oid_is : oid ≡ w.oid
  pub xid_is : xid ≡ w.view.xid

-- Unnamed: an object that is wanted isn't found
pub record IsLost (look : Wanted → Option OmapRecord) (P : Wanted → Type 0) (within : Within) (oid xid : ℕ) : Type 0 where
  pub one : Wanted
  pub wanted : P one
  pub lost : look one ≡ None
  pub shown : IsShownAs one within oid xid

-- Unsound: an object that is wanted fails a test, in the block of its record
pub record IsBad (k : World) (P : Wanted → Type 0) (block : ℕ) (why : Why) : Type 0 where
  pub one : Wanted
  pub by : OmapRecord
  pub wanted : P one
  pub found : k.look one ≡ Some by
  pub at : block ≡ by.paddr
  pub fails : tested_as k.site one (k.bytes by) ≡ Err (bads.Found why)

-- NamedTwice: two of the objects that are wanted are of one id in one view
pub record IsTwice (P : Wanted → Type 0) (within : Within) (oid xid : ℕ) : Type 0 where
  pub one : Wanted
  pub other : Wanted
  pub one_wanted : P one
  pub other_wanted : P other
  pub same_view : one.view ≡ other.view
  pub same_oid : one.oid ≡ other.oid
  pub apart : one ≡ other → ⊥
  pub shown : IsShownAs one within oid xid

-- the mapping of an object that is wanted has a feature
pub record IsMappedBy (look : Wanted → Option OmapRecord) (block_size : ℕ) (P : Wanted → Type 0) (feature : Feature) (block : ℕ) : Type 0 where
  pub one : Wanted
  pub by : OmapRecord
  pub wanted : P one
  pub found : look one ≡ Some by
  pub at : block ≡ by.paddr
  pub has : In feature (mapping_features block_size by.flags by.size)

-- an object that is wanted is refused for a feature
pub record IsRefused (k : World) (P : Wanted → Type 0) (feature : Feature) (block : ℕ) : Type 0 where
  pub one : Wanted
  pub by : OmapRecord
  pub wanted : P one
  pub found : k.look one ≡ Some by
  pub at : block ≡ by.paddr
  pub fails : tested_as k.site one (k.bytes by) ≡ Err (bads.Unsupported feature)

-- a fault is there, of those that a sweep names
abbrev pub IsHere : World → (Wanted → Type 0) → ReachFault → Type 0
IsHere k P (Unsound block why) = IsBad k P block why
IsHere k P (Unnamed within oid xid) = IsLost k.look P within oid xid
IsHere k P (NamedTwice within oid xid) = IsTwice P within oid xid
IsHere k P (OwnedTwice block) = ⊥
IsHere k P (Outside block) = ⊥
IsHere k P (UnusedMapping within oid xid) = ⊥
IsHere k P (Leaked block) = ⊥
IsHere k P (Missing block) = ⊥
IsHere k P (PoolLeaked block) = ⊥
IsHere k P (PoolMissing block) = ⊥
IsHere k P (FreeCount chunk) = ⊥
IsHere k P (Space fault) = ⊥
IsHere k P (Pool fault) = ⊥
IsHere k P (Tree root item) = ⊥
IsHere k P (Value root item) = ⊥

-- a feature is there
abbrev pub IsFeatureHere : World → (Wanted → Type 0) → Feature → ℕ → Type 0
IsFeatureHere k P feature block = IsMappedBy k.look k.site.block_size P feature block ⊎ IsRefused k P feature block

-- what a stop tells of the objects that are wanted is there
abbrev pub TellsHere : World → (Wanted → Type 0) → Stop ReachFault → Type 0
TellsHere k P stop = Tells (IsHere k P) (IsFeatureHere k P) stop

-- the fact of being in a list
abbrev pub Among : List Wanted → Wanted → Type 0
Among ws w = In w ws

-- where ids are looked up: a fault is that one isn't found
abbrev pub IsLostHere : (Wanted → Option OmapRecord) → (Wanted → Type 0) → ReachFault → Type 0
IsLostHere look P (Unnamed within oid xid) = IsLost look P within oid xid
IsLostHere look P (Unsound block why) = ⊥
IsLostHere look P (NamedTwice within oid xid) = ⊥
IsLostHere look P (OwnedTwice block) = ⊥
IsLostHere look P (Outside block) = ⊥
IsLostHere look P (UnusedMapping within oid xid) = ⊥
IsLostHere look P (Leaked block) = ⊥
IsLostHere look P (Missing block) = ⊥
IsLostHere look P (PoolLeaked block) = ⊥
IsLostHere look P (PoolMissing block) = ⊥
IsLostHere look P (FreeCount chunk) = ⊥
IsLostHere look P (Space fault) = ⊥
IsLostHere look P (Pool fault) = ⊥
IsLostHere look P (Tree root item) = ⊥
IsLostHere look P (Value root item) = ⊥

-- where ids are compared: a fault is that one is named twice
abbrev pub IsTwiceHere : (Wanted → Type 0) → ReachFault → Type 0
IsTwiceHere P (NamedTwice within oid xid) = IsTwice P within oid xid
IsTwiceHere P (Unsound block why) = ⊥
IsTwiceHere P (Unnamed within oid xid) = ⊥
IsTwiceHere P (OwnedTwice block) = ⊥
IsTwiceHere P (Outside block) = ⊥
IsTwiceHere P (UnusedMapping within oid xid) = ⊥
IsTwiceHere P (Leaked block) = ⊥
IsTwiceHere P (Missing block) = ⊥
IsTwiceHere P (PoolLeaked block) = ⊥
IsTwiceHere P (PoolMissing block) = ⊥
IsTwiceHere P (FreeCount chunk) = ⊥
IsTwiceHere P (Space fault) = ⊥
IsTwiceHere P (Pool fault) = ⊥
IsTwiceHere P (Tree root item) = ⊥
IsTwiceHere P (Value root item) = ⊥

-- a fault of a test of one of some hits
abbrev pub IsBadHit : Site → (OmapRecord → List ℕ) → List Hit → ReachFault → Type 0
IsBadHit site bytes hits fault = (h : Hit) × (In h hits × IsFaultOf h.mapping.paddr (tested_as site h.wanted (bytes h.mapping)) fault)

-- a feature for which one of some hits is refused
abbrev pub IsRefusedHit : Site → (OmapRecord → List ℕ) → List Hit → Feature → ℕ → Type 0
IsRefusedHit site bytes hits feature block = (h : Hit) × (In h hits × IsFeatureOf h.mapping.paddr (tested_as site h.wanted (bytes h.mapping)) feature block)
