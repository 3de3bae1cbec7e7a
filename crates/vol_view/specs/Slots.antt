-- What is answered of one slot.
use Rattle.std.specs.Prelude.{◌≡◌, ◌⊎◌, false, [], ℕ, not, ◌==◌, List, Option, None, Some, Result, Ok, Err, if◌then◌else◌}
use Rattle.apfs_model.specs.Blocks.{in_container}
use Rattle.apfs_model.specs.Lists.{In, and_then}
use Rattle.obj_base.specs.Sound.{sound_of, expecting}
use Rattle.obj_base.specs.declared.header.Header.{Header}
use Rattle.obj_base.specs.declared.header.HeadFault.{HeadFault}
use Rattle.obj_base.specs.declared.stop.Bad.{Bad}
use Rattle.obj_base.specs.declared.stop.Bad.TheVariants as bads
use Rattle.obj_base.specs.declared.stop.Feature.{Feature}
use Rattle.obj_base.specs.declared.stop.Feature.TheVariants.{Encrypted, NoHeader, Size}
use Rattle.obj_base.specs.declared.stop.Stop.{Stop}
use Rattle.obj_base.specs.declared.stop.Stop.TheVariants.{Found, Unsupported}
use Rattle.obj_base.specs.declared.stop.Unsound.{Unsound}
use Rattle.obj_base.specs.Stops.{raised}
use Rattle.obj_base.specs.declared.stop.Within.TheVariants.{Container}
use Rattle.apfs_model.specs.Object.{volume_kind}
use Rattle.obj_base.specs.declared.site.Site.{Site}
use Rattle.nx_block.specs.Super.{fs_oid_of, omap_oid_of}
use Rattle.nx_ring.specs.Checkpoint.{Seen, site_of}
use Rattle.omap_map.specs.Records.{maps_encrypted, maps_headless}
use Rattle.omap_map.specs.Resolve.{resolve}
use Rattle.omap_map.specs.Features.{container_features, snapshot_features}
use Rattle.omap_map.specs.Maps.{Contents}
use Rattle.omap_map.specs.Loading.{IsLoaded}
use Rattle.omap_map.specs.declared.records.OmapRecord.{OmapRecord}
use Rattle.omap_map.specs.declared.records.Place.{Place}
use Rattle.omap_map.specs.declared.fault.OmapFault.{OmapFault}
use Rattle.vol_view.specs.Heads.{super_in, has_magic, head_of}
use Rattle.vol_view.specs.Stops.{IsVolume}
use Rattle.vol_view.specs.declared.head.VolHead.{VolHead}
use Rattle.vol_view.specs.declared.stop.VolStop.{VolStop}
use Rattle.vol_view.specs.declared.stop.VolStop.TheVariants.{Head, Magic, Unnamed, Omap}

-- why the container's map stops, said of the volumes
abbrev pub map_raised : Stop OmapFault → Stop VolStop
map_raised stop = raised Omap stop

-- why an object in a block isn't sound, said of a superblock there
abbrev pub of_unsound : Unsound HeadFault → VolStop
of_unsound unsound = Head unsound.block unsound.why

abbrev pub head_raised : Stop (Unsound HeadFault) → Stop VolStop
head_raised stop = raised of_unsound stop

-- a place, where it has no feature
abbrev pub plain_of : ℕ → Place → Result Place (Stop VolStop)
plain_of block_size place =
    if maps_encrypted place.flags then Err (Unsupported Encrypted place.block) else
    if maps_headless place.flags then Err (Unsupported NoHeader place.block) else
    if not (place.size == block_size) then Err (Unsupported Size place.block) else
    Ok place

-- a place, where it is in the container and has no feature
abbrev pub inside_of : Site → ℕ → Place → Option ℕ → Result Place (Stop VolStop)
inside_of site oid place None = Err (Found (Unnamed Container oid))
inside_of site oid place (Some block) = plain_of site.block_size place

abbrev pub placed_of : Site → ℕ → Option Place → Result Place (Stop VolStop)
placed_of site oid None = Err (Found (Unnamed Container oid))
placed_of site oid (Some place) = inside_of site oid place (in_container site.blocks place.block)

-- the place of a volume by the records of the container's map
abbrev pub located : Site → List OmapRecord → ℕ → Result Place (Stop VolStop)
located site records oid = placed_of site oid (resolve records oid site.max_xid)

-- a superblock's bytes, where it has its magic
abbrev pub magic_in : ℕ → List ℕ → Result (List ℕ) (Stop VolStop)
magic_in block bytes = if has_magic bytes then Ok bytes else Err (Found (Magic block))

abbrev pub after_header : ℕ → List ℕ → Result Header (Bad HeadFault) → Result (List ℕ) (Stop VolStop)
after_header block bytes (Ok _) = magic_in block bytes
after_header block bytes (Err (bads.Found why)) = Err (Found (Head block why))
after_header block bytes (Err (bads.Unsupported feature)) = Err (Unsupported feature block)

-- the superblock of a volume in a block, or the first test that fails; an oid that is left out isn't tested
abbrev pub tested : Site → Option ℕ → ℕ → List ℕ → Result (List ℕ) (Stop VolStop)
tested site oid block bytes = after_header block bytes (sound_of bytes (expecting volume_kind oid site.max_xid))

-- what a superblock that was tested tells of a volume
abbrev pub told_of : ℕ → ℕ → ℕ → List ℕ → Result (Option VolHead) (Stop VolStop)
told_of slot oid block bytes = Ok (Some (head_of slot oid block bytes))

-- the volume at a place
abbrev pub volume_at : List ℕ → Site → ℕ → ℕ → Place → Result (Option VolHead) (Stop VolStop)
volume_at image site slot oid place = and_then (tested site (Some oid) place.block (super_in image site place.block)) (told_of slot oid place.block)

-- the volume of an oid in a slot, by the records of the container's map
abbrev pub volume_for : List ℕ → Site → List OmapRecord → ℕ → ℕ → Result (Option VolHead) (Stop VolStop)
volume_for image site records slot oid = if oid == 0 then Ok None else and_then (located site records oid) (volume_at image site slot oid)

-- the volume in a slot, if there is one, or why it can't be told
unfoldable pub slot_of : List ℕ → Seen → List OmapRecord → ℕ → Result (Option VolHead) (Stop VolStop)
slot_of image seen records slot = volume_for image (site_of seen) records slot (fs_oid_of seen.nx slot)

-- the container's map was loaded, and it has no feature
pub record HasMap (image : List ℕ) (seen : Seen) (contents : Contents) : Type 0 where
  pub loaded : IsLoaded image (site_of seen) (omap_oid_of seen.nx) contents
  pub plain : container_features contents.snap_count ≡ []
  pub unmarked : snapshot_features contents.snapshots ≡ []

-- a feature of a map that was loaded
abbrev pub IsMarked : Contents → ℕ → Feature → ℕ → Type 0
IsMarked contents block feature at = (at ≡ block) × (In feature (container_features contents.snap_count) ⊎ In feature (snapshot_features contents.snapshots))

-- a slot is empty, or the volume in it is right
abbrev pub IsRight : List ℕ → Seen → ℕ → Type 0
IsRight image seen slot = (fs_oid_of seen.nx slot == 0) ≡ false → IsVolume image seen (fs_oid_of seen.nx slot)
