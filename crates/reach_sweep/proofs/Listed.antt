-- The maps of a container and of its volumes, as they are handed in.
use Rattle.std.proofs.Common.{◌≡◌, ◌⊎◌, ℕ, List, inl, inr, refl, ap, sym, ◌∙◌, subst}
use Rattle.apfs_model.specs.Lists.{In}
use Rattle.apfs_model.proofs.Searches.{in-map, from-map}
use Rattle.nx_block.specs.Super.{omap_oid_of}
use Rattle.nx_ring.specs.Checkpoint.{Seen, site_of}
use Rattle.omap_map.specs.Maps.{map_records}
use Rattle.omap_map.specs.declared.records.OmapRecord.{OmapRecord}
use Rattle.vol_view.specs.Volumes.{Loaded}
use Rattle.vol_view.specs.LoadStops.{IsVolumeOf}
use Rattle.vol_view.specs.declared.head.VolHead.{VolHead}
use Rattle.reach_rules.specs.declared.naming.Namer.{Namer}
use Rattle.reach_gather.specs.Volumes.Laws.{HasParts}
use Rattle.view_sweep.specs.declared.idle.MapRecords.{MapRecords}
use Rattle.view_sweep.specs.Unused.{AreMapsOf}
use Rattle.reach_sweep.specs.Views.{head_of, AreVolumes}
use Rattle.reach_sweep.specs.Used.{volume_map, maps_of}
use Rattle.reach_sweep.specs.Composed.{IsListedOf, AreListed, IsContainerMap, IsVolumeMap}
use Rattle.reach_sweep.proofs.MapsOf.{maps-by}

-- a volume's map is among them
listed-of : (image : List ℕ) (seen : Seen) (heads : List VolHead) (volumes : List Loaded) (namer : Loaded → Namer) (records : List OmapRecord) → AreVolumes image seen heads volumes namer → (head : VolHead) → In head heads → IsListedOf image seen (maps_of seen volumes records) head
listed-of image seen heads volumes namer records v head h =
    let t = from-map head_of volumes head (subst (λ (hs : List VolHead). In head hs) v.heads_are h) in
    let volume : Loaded = t.0 in
    record {
      volume = volume;
      loaded = subst (λ (x : VolHead). IsVolumeOf image (site_of seen) x volume) (sym t.1.1) (v.loaded volume t.1.0);
      listed = record { of = volume_map volume; one = inr (in-map volume_map volumes volume t.1.0); map_is = refl; records_are = refl };
    }

-- the maps of the container and of its volumes are among those that are handed in
pub listed-by : (image : List ℕ) (seen : Seen) (heads : List VolHead) (volumes : List Loaded) (namer : Loaded → Namer) (records : List OmapRecord) → HasParts image seen heads → AreVolumes image seen heads volumes namer → records ≡ map_records image (site_of seen) (omap_oid_of seen.nx)
    → AreListed image seen heads (maps_of seen volumes records)
listed-by image seen heads volumes namer records p v are = record {
  container = record { of = _; one = inl refl; map_is = refl; records_are = are };
  volumes = listed-of image seen heads volumes namer records v;
}

-- each of these is the container's or a volume's
each-map : (image : List ℕ) (seen : Seen) (volumes : List Loaded) (records : List OmapRecord) → records ≡ map_records image (site_of seen) (omap_oid_of seen.nx) → (m : MapRecords) → In m (maps_of seen volumes records) → IsContainerMap image seen m ⊎ IsVolumeMap volumes m
each-map image seen volumes records are m (inl e) = inl (record {
  within_is = ap (λ (x : MapRecords). x.within) e;
  map_is = ap (λ (x : MapRecords). x.map) e;
  records_are = ap (λ (x : MapRecords). x.records.now) e ∙ are;
})
each-map image seen volumes records are m (inr h) =
    let t = from-map volume_map volumes m h in
    inr (record {
      volume = t.0;
      one = t.1.0;
      within_is = ap (λ (x : MapRecords). x.within) t.1.1;
      map_is = ap (λ (x : MapRecords). x.map) t.1.1;
      records_are = ap (λ (x : MapRecords). x.records.now) t.1.1;
    })

-- so they are maps of the container
pub of-maps : (image : List ℕ) (seen : Seen) (heads : List VolHead) (volumes : List Loaded) (namer : Loaded → Namer) (records : List OmapRecord) → HasParts image seen heads → AreVolumes image seen heads volumes namer → records ≡ map_records image (site_of seen) (omap_oid_of seen.nx)
    → AreMapsOf image seen (maps_of seen volumes records)
of-maps image seen heads volumes namer records p v are = maps-by image seen heads volumes namer (maps_of seen volumes records) p v (each-map image seen volumes records are)
