-- The records of all maps are covered.
use Rattle.std.proofs.Common.{◌≡◌, ◌⊎◌, ℕ, false, List, ap, sym, ◌∙◌, subst}
use Rattle.apfs_model.specs.Lists.{In}
use Rattle.obj_base.specs.declared.stop.Within.{Within}
use Rattle.obj_base.specs.declared.stop.Within.TheVariants.{Physical, Ephemeral, Container, Volume}
use Rattle.nx_ring.specs.Checkpoint.{Seen, site_of}
use Rattle.omap_map.specs.Maps.{Contents, map_records}
use Rattle.omap_map.specs.Records.{is_deleted}
use Rattle.omap_map.specs.declared.records.OmapRecord.{OmapRecord}
use Rattle.vol_view.specs.declared.head.VolHead.{VolHead}
use Rattle.reach_rules.specs.declared.naming.Naming.{Naming}
use Rattle.reach_rules.specs.Maps.{GivesMap, IsMapOf}
use Rattle.reach_gather.specs.ViewParts.{ResolvesTo}
use Rattle.reach_gather.specs.Volumes.Told.{map_of}
use Rattle.reach_gather.specs.Volumes.Laws.{HasParts}
use Rattle.reach_gather.proofs.VolumeLemmas.Tellings.{map-is}
use Rattle.view_sweep.specs.declared.used.Used.{Used}
use Rattle.view_sweep.specs.declared.idle.MapRecords.{MapRecords}
use Rattle.view_sweep.specs.Unused.{used_in, AreAllUsed}
use Rattle.reach_gather.specs.Finished.{AreRecordsWith}
use Rattle.reach_sweep.specs.Composed.{record_used, IsListed, AreListed, AreCoveredBy}

-- the records of the map in a block are among those of the listed maps
abbrev IsKnown : List ℕ → Seen → List MapRecords → ℕ → Type 0
IsKnown image seen maps map = IsListed maps map (map_records image (site_of seen) map)

-- each record of such a map is one that is used
of-known : (image : List ℕ) (seen : Seen) (all : List Naming) (records those : List (ℕ × OmapRecord)) (maps : List MapRecords) (used : List Used)
    → AreAllUsed maps used → ((u : Used) → In u used → In (record_used u) those) → AreRecordsWith image seen all records those
    → (map : ℕ) → IsKnown image seen maps map → (r : OmapRecord) → In r (map_records image (site_of seen) map) → is_deleted r.flags ≡ false
    → In (map, r) records ⊎ ((n : Naming) × (In n all × ResolvesTo image seen n (map, r)))
of-known image seen all records those maps used unused among recs map l r h kept =
    let m : MapRecords = l.of in
    let here : In r m.records.now = subst (λ (rs : List OmapRecord). In r rs) (sym l.records_are) h in
    let k : In (record_used (used_in m.map r)) those = among (used_in m.map r) (unused m l.one r here kept) in
    let at : In (map, r) those = subst (λ b. In (b, r) those) l.map_is k in
    recs.only (map, r) at

-- the map of a volume is one of them
known-volume : (image : List ℕ) (seen : Seen) (heads : List VolHead) (maps : List MapRecords) → HasParts image seen heads → AreListed image seen heads maps → (slot map : ℕ) → GivesMap image seen slot map → IsKnown image seen maps map
known-volume image seen heads maps p l slot map g =
    let by = p.given slot map g in
    let k = l.volumes by.head by.one in
    let part = p.volumes by.head k.volume by.one k.loaded in
    let at : map_of k.volume ≡ map = ap map_of k.loaded.same ∙ (map-is image (site_of seen) by.head k.loaded.right.map ∙ sym by.map_is) in
    record {
      of = k.listed.of;
      one = k.listed.one;
      map_is = k.listed.map_is ∙ at;
      records_are = k.listed.records_are ∙ (ap (λ (m : Contents). m.records) part.contents ∙ ap (map_records image (site_of seen)) at);
    }

known : (image : List ℕ) (seen : Seen) (heads : List VolHead) (maps : List MapRecords) → HasParts image seen heads → AreListed image seen heads maps → (within : Within) (map : ℕ) → IsMapOf image seen within map → IsKnown image seen maps map
known image seen heads maps p l Physical map of = absurd of
known image seen heads maps p l Ephemeral map of = absurd of
known image seen heads maps p l Container map of = subst (IsKnown image seen maps) (sym of) l.container
known image seen heads maps p l (Volume slot) map of = known-volume image seen heads maps p l slot map of

pub covered-by : (image : List ℕ) (seen : Seen) → AreCoveredBy image seen
covered-by image seen heads all records those maps used p l unused among recs within map of r h kept =
    of-known image seen all records those maps used unused among recs map (known image seen heads maps p l within map of) r h kept
