-- The law of the parts of a container that `heads` and `load` have tested.
use Rattle.std.specs.Prelude.{◌≡◌, ℕ, List, map, flat_map}
use Rattle.std.specs.List.{range_with_len}
use Rattle.apfs_model.specs.Lists.{In}
use Rattle.nx_block.specs.Super.{slots}
use Rattle.nx_ring.specs.Checkpoint.{Seen, site_of}
use Rattle.vol_view.specs.Stops.{AreHeads}
use Rattle.vol_view.specs.Volumes.{Loaded, map_block_of}
use Rattle.vol_view.specs.LoadStops.{IsVolumeOf}
use Rattle.vol_view.specs.declared.head.VolHead.{VolHead}
use Rattle.reach_rules.specs.declared.naming.LookUp.TheVariants.{InContainer}
use Rattle.reach_rules.specs.declared.naming.Naming.{Naming}
use Rattle.reach_rules.specs.Next.{slot_namings}
use Rattle.reach_rules.specs.Live.{IsLive}
use Rattle.reach_rules.specs.Maps.{GivesMap}
use Rattle.reach_gather.specs.Volumes.Told.{head_naming}
use Rattle.reach_gather.specs.Volumes.Parts.{IsMapPart, IsVolumePart, container_map}

-- the volume of a head gives a block as that of its object map
pub record IsGivenBy (image : List ℕ) (seen : Seen) (heads : List VolHead) (slot map : ℕ) : Type 0 where
  pub head : VolHead
  pub one : In head heads
  pub slot_is : head.slot ≡ slot
  pub map_is : map ≡ map_block_of image (site_of seen) head

-- the container's map is right; the slots' namings are those of the heads, and no other live naming is looked up in that map; each
-- loaded volume is right; and maps of volumes are those of the heads
pub record HasParts (image : List ℕ) (seen : Seen) (heads : List VolHead) : Type 0 where
  pub container : IsMapPart image seen (container_map seen)
  pub slots_are : flat_map (slot_namings seen.nx) (range_with_len 0 slots) ≡ map head_naming heads
  pub only : (n : Naming) → IsLive image seen n → n.how ≡ InContainer → In n (map head_naming heads)
  pub volumes : (head : VolHead) (volume : Loaded) → In head heads → IsVolumeOf image (site_of seen) head volume → IsVolumePart image seen head volume
  pub given : (slot map : ℕ) → GivesMap image seen slot map → IsGivenBy image seen heads slot map

-- so it is of each image, checkpoint and list of heads
abbrev pub PartsOfVolumes : Type 0
PartsOfVolumes = (image : List ℕ) (seen : Seen) (heads : List VolHead) → AreHeads image seen heads → HasParts image seen heads
