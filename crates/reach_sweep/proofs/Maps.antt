-- The records of all object maps: what is said of some maps is said of others that are told by the same.
use Rattle.std.proofs.Common.{◌≡◌, ℕ, ◌+◌, ◌<◌, List, [], ◌∷◌, ◌++◌, map, length, take, get_or, ap, sym, ◌∙◌, subst}
use Rattle.std.proofs.lemmas.List.{take_more, map-append}
use Rattle.apfs_model.specs.Lists.{In}
use Rattle.apfs_model.proofs.Searches.{in-map, from-map}
use Rattle.obj_base.specs.declared.stop.Within.{Within}
use Rattle.obj_base.specs.declared.stop.Stop.{Stop}
use Rattle.obj_base.specs.declared.stop.Stop.TheVariants.{Found, Unsupported, ReadFault, NoMemory}
use Rattle.obj_base.specs.Stops.{Tells, NoFeature}
use Rattle.nx_ring.specs.Checkpoint.{Seen}
use Rattle.omap_map.specs.declared.records.OmapRecord.{OmapRecord}
use Rattle.vol_view.specs.Volumes.{Loaded}
use Rattle.reach_rules.specs.declared.fault.ReachFault.{ReachFault}
use Rattle.reach_rules.specs.declared.fault.ReachFault.TheVariants.{UnusedMapping}
use Rattle.view_sweep.specs.declared.used.Used.{Used}
use Rattle.view_sweep.specs.declared.idle.MapRecords.{MapRecords}
use Rattle.view_sweep.specs.Unused.{used_in, AreAllUsed, HasIdle, IsUnusedHere}
use Rattle.reach_sweep.specs.Used.{told_by_map, volume_map, maps_of}

-- one more volume
pub maps-more : (seen : Seen) (records : List OmapRecord) (vs : List Loaded) (i : ℕ) (v : Loaded) (ms : List MapRecords) (m : MapRecords) → i < length vs → get_or vs i v ≡ v → told_by_map m ≡ told_by_map (volume_map v)
    → map told_by_map ms ≡ map told_by_map (maps_of seen (take i vs) records) → map told_by_map (ms ++ m ∷ []) ≡ map told_by_map (maps_of seen (take (i + 1) vs) records)
maps-more seen records vs i v ms m low is same before =
    let more : take (i + 1) vs ≡ take i vs ++ v ∷ [] = take_more vs i v low ∙ ap (λ y. take i vs ++ y ∷ []) is in
    map-append told_by_map ms (m ∷ [])
    ∙ (ap (λ t. map told_by_map ms ++ t ∷ []) same
    ∙ (ap (λ ts. ts ++ told_by_map (volume_map v) ∷ []) before
    ∙ sym (ap (λ (us : List Loaded). map told_by_map (maps_of seen us records)) more
    ∙ (ap (λ ns. map told_by_map (maps_of seen [] records) ++ map told_by_map ns) (map-append volume_map (take i vs) (v ∷ []))
    ∙ ap (λ ts. map told_by_map (maps_of seen [] records) ++ ts) (map-append told_by_map (map volume_map (take i vs)) (volume_map v ∷ []))))))

-- a map among others that are told by the same
record IsToldIn (ms : List MapRecords) (m : MapRecords) : Type 0 where
  of : MapRecords
  one : In of ms
  within_is : m.within ≡ of.within
  map_is : m.map ≡ of.map
  records_are : m.records.now ≡ of.records.now

told-in : (ms ns : List MapRecords) → map told_by_map ms ≡ map told_by_map ns → (m : MapRecords) → In m ms → IsToldIn ns m
told-in ms ns same m h =
    let t = from-map told_by_map ns (told_by_map m) (subst (λ (ts : List (Within × (ℕ × List OmapRecord))). In (told_by_map m) ts) same (in-map told_by_map ms m h)) in
    record {
      of = t.0;
      one = t.1.0;
      within_is = ap (λ (x : Within × (ℕ × List OmapRecord)). x.0) t.1.1;
      map_is = ap (λ (x : Within × (ℕ × List OmapRecord)). x.1.0) t.1.1;
      records_are = ap (λ (x : Within × (ℕ × List OmapRecord)). x.1.1) t.1.1;
    }

-- all of some maps are used, so of the others
pub used-told : (ms ns : List MapRecords) (used : List Used) → map told_by_map ms ≡ map told_by_map ns → AreAllUsed ms used → AreAllUsed ns used
used-told ms ns used same all = λ n h r j k.
    let t = told-in ns ms (sym same) n h in
    subst (λ b. In (used_in b r) used) (sym t.map_is) (all t.of t.one r (subst (λ (rs : List OmapRecord). In r rs) t.records_are j) k)

-- one of some maps isn't, so one of the others
idle-told : (ms ns : List MapRecords) (used : List Used) → map told_by_map ms ≡ map told_by_map ns → (within : Within) (oid xid : ℕ) → HasIdle ms used within oid xid → HasIdle ns used within oid xid
idle-told ms ns used same within oid xid h =
    let t = told-in ms ns same h.of h.listed in
    record {
      of = t.of;
      listed = t.one;
      mapping = h.mapping;
      is = record {
        one = subst (λ (rs : List OmapRecord). In h.mapping rs) t.records_are h.is.one;
        kept = h.is.kept;
        idle = λ i. h.is.idle (subst (λ b. In (used_in b h.mapping) used) (sym t.map_is) i);
      };
      within_is = h.within_is ∙ t.within_is;
      oid_is = h.oid_is;
      xid_is = h.xid_is;
    }

pub tells-told : (ms ns : List MapRecords) (used : List Used) → map told_by_map ms ≡ map told_by_map ns → (stop : Stop ReachFault) → Tells (IsUnusedHere ms used) NoFeature stop → Tells (IsUnusedHere ns used) NoFeature stop
tells-told ms ns used same (Found (UnusedMapping within oid xid)) h = idle-told ms ns used same within oid xid h
tells-told ms ns used same (Found fault) h = absurd h
tells-told ms ns used same (Unsupported feature block) h = absurd h
tells-told ms ns used same ReadFault h = tt
tells-told ms ns used same NoMemory h = tt
