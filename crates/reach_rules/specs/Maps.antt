-- Which object maps there are, and which of their records are used.
use Rattle.std.specs.Prelude.{◌≡◌, ℕ, false, true, List}
use Rattle.apfs_model.specs.Lists.{In}
use Rattle.obj_base.specs.declared.stop.Within.{Within}
use Rattle.obj_base.specs.declared.stop.Within.TheVariants.{Physical, Ephemeral, Container, Volume}
use Rattle.nx_block.specs.Super.{omap_oid_of}
use Rattle.nx_ring.specs.Checkpoint.{Seen, site_of}
use Rattle.omap_map.specs.Maps.{map_records, is_map_object}
use Rattle.omap_map.specs.Records.{is_deleted}
use Rattle.omap_map.specs.declared.records.OmapRecord.{OmapRecord}
use Rattle.vol_view.specs.Fields as volumes
use Rattle.reach_rules.specs.Naming.{OfRecord, VolumeIn, Naming}
use Rattle.reach_rules.specs.Resolved.{Found}
use Rattle.reach_rules.specs.Live.{Names, NamesSound}

-- the sound volume of a slot gives a block as that of its object map
pub record GivesMap (image : List ℕ) (seen : Seen) (slot map : ℕ) : Type 0 where
  pub naming : Naming
  pub object : Found
  pub names : NamesSound image seen naming object
  pub volume : naming.expected ≡ VolumeIn slot
  pub gives : map ≡ volumes.omap_oid_of object.bytes

-- a block is given as that of the container's object map, or of a volume's
abbrev pub IsMapOf : List ℕ → Seen → Within → ℕ → Type 0
IsMapOf image seen Physical map = ⊥
IsMapOf image seen Ephemeral map = ⊥
IsMapOf image seen Container map = map ≡ omap_oid_of seen.nx
IsMapOf image seen (Volume slot) map = GivesMap image seen slot map

-- a live naming resolves to the record of an object map
pub record IsUsed (image : List ℕ) (seen : Seen) (map : ℕ) (r : OmapRecord) : Type 0 where
  pub naming : Naming
  pub object : Found
  pub names : Names image seen naming object
  pub record_is : object.object ≡ OfRecord map r

-- no live naming resolves to it
abbrev pub IsIdle : List ℕ → Seen → ℕ → OmapRecord → Type 0
IsIdle image seen map r = (n : Naming) (f : Found) → Names image seen n f → f.object ≡ OfRecord map r → ⊥

-- each record of the map in a block that isn't marked deleted is used
abbrev pub AreUsed : List ℕ → Seen → ℕ → Type 0
AreUsed image seen map = (r : OmapRecord) → In r (map_records image (site_of seen) map) → is_deleted r.flags ≡ false → IsUsed image seen map r

-- UnusedMapping: a record of a sound object map isn't marked deleted and isn't used
pub record IsUnused (image : List ℕ) (seen : Seen) (within : Within) (oid xid : ℕ) : Type 0 where
  pub map : ℕ
  pub of : IsMapOf image seen within map
  pub sound : is_map_object image (site_of seen) map ≡ true
  pub mapping : OmapRecord
  pub one : In mapping (map_records image (site_of seen) map)
  pub kept : is_deleted mapping.flags ≡ false
  pub idle : IsIdle image seen map mapping
  pub oid_is : oid ≡ mapping.oid
  pub xid_is : xid ≡ mapping.xid
