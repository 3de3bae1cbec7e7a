-- The maps whose records are looked at are sound ones of the container.
use Rattle.std.proofs.Common.{◌≡◌, ℕ, true, List, inl, inr, refl, ap, sym, ◌∙◌, subst}
use Rattle.apfs_model.specs.Lists.{In}
use Rattle.apfs_model.proofs.Searches.{in-map}
use Rattle.obj_base.specs.declared.stop.Within.{Within}
use Rattle.nx_ring.specs.Checkpoint.{Seen, site_of}
use Rattle.omap_map.specs.Maps.{Contents, map_records, is_map_object}
use Rattle.omap_map.specs.declared.records.OmapRecord.{OmapRecord}
use Rattle.omap_map.proofs.Loads.{whole-object}
use Rattle.vol_view.specs.Volumes.{Loaded}
use Rattle.vol_view.specs.declared.head.VolHead.{VolHead}
use Rattle.reach_rules.specs.declared.naming.Namer.{Namer}
use Rattle.reach_rules.specs.Maps.{IsMapOf}
use Rattle.reach_gather.specs.Volumes.Laws.{HasParts}
use Rattle.view_sweep.specs.declared.idle.MapRecords.{MapRecords}
use Rattle.reach_sweep.specs.Views.{head_of, AreVolumes}
use Rattle.reach_sweep.specs.Composed.{IsContainerMap, IsVolumeMap, AreMapsBy}

-- a map is a sound one of the container, with its records
record IsRightMap (image : List ℕ) (seen : Seen) (within : Within) (block : ℕ) (records : List OmapRecord) : Type 0 where
  of : IsMapOf image seen within block
  sound : is_map_object image (site_of seen) block ≡ true
  records_are : records ≡ map_records image (site_of seen) block

right-map : (image : List ℕ) (seen : Seen) (m : MapRecords) (within : Within) (block : ℕ) → m.within ≡ within → m.map ≡ block → IsRightMap image seen within block m.records.now → IsRightMap image seen m.within m.map m.records.now
right-map image seen m within block a b r =
    subst (λ x. IsRightMap image seen x m.map m.records.now) (sym a) (subst (λ x. IsRightMap image seen within x m.records.now) (sym b) r)

container-map : (image : List ℕ) (seen : Seen) (heads : List VolHead) (m : MapRecords) → HasParts image seen heads → IsContainerMap image seen m → IsRightMap image seen m.within m.map m.records.now
container-map image seen heads m p c = right-map image seen m _ _ c.within_is c.map_is (record {
  of = refl;
  sound = whole-object image (site_of seen) _ p.container.whole;
  records_are = c.records_are;
})

volume-map : (image : List ℕ) (seen : Seen) (heads : List VolHead) (volumes : List Loaded) (namer : Loaded → Namer) (m : MapRecords) → HasParts image seen heads → AreVolumes image seen heads volumes namer → IsVolumeMap volumes m → IsRightMap image seen m.within m.map m.records.now
volume-map image seen heads volumes namer m p v c =
    let volume : Loaded = c.volume in
    let head : In volume.head heads = subst (λ (hs : List VolHead). In volume.head hs) (sym v.heads_are) (in-map head_of volumes volume c.one) in
    let part = p.volumes volume.head volume head (v.loaded volume c.one) in
    right-map image seen m _ _ c.within_is c.map_is (record {
      of = part.gives;
      sound = whole-object image (site_of seen) _ part.map.whole;
      records_are = c.records_are ∙ ap (λ (m : Contents). m.records) part.contents;
    })

pub maps-by : (image : List ℕ) (seen : Seen) → AreMapsBy image seen
maps-by image seen heads volumes namer maps p v each m h =
    let r : IsRightMap image seen m.within m.map m.records.now = elim (each m h) as (λ _. IsRightMap image seen m.within m.map m.records.now) [
      | inl c ↦ container-map image seen heads m p c
      | inr c ↦ volume-map image seen heads volumes namer m p v c
    ] in
    (r.of, r.sound, r.records_are)
