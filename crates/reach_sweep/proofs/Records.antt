-- The records that are used are those of views, and those by which the volumes are found.
use Rattle.std.proofs.Common.{◌≡◌, ◌⊎◌, ℕ, List, map, inl, inr, ap, sym, ◌∙◌, subst}
use Rattle.apfs_model.specs.Lists.{In}
use Rattle.apfs_model.proofs.Searches.{in-left, in-right, in-append, in-map, from-map}
use Rattle.nx_block.specs.Super.{omap_oid_of}
use Rattle.nx_ring.specs.Checkpoint.{Seen, site_of}
use Rattle.omap_map.specs.Maps.{resolved_in}
use Rattle.omap_map.specs.declared.records.OmapRecord.{OmapRecord}
use Rattle.vol_view.specs.Volumes.{Loaded}
use Rattle.vol_view.specs.declared.head.VolHead.{VolHead}
use Rattle.reach_rules.specs.declared.naming.LookUp.TheVariants.{InContainer, InView}
use Rattle.reach_rules.specs.declared.naming.Object.TheVariants.{OfRecord}
use Rattle.reach_rules.specs.declared.naming.Namer.{Namer}
use Rattle.reach_rules.specs.declared.naming.Naming.{Naming}
use Rattle.reach_rules.specs.Resolved.{Found, resolved, standing}
use Rattle.reach_rules.specs.Next.{roots}
use Rattle.reach_rules.specs.Live.{IsLive, rooted}
use Rattle.reach_gather.specs.Container.{reaper_naming, jumpstart_naming}
use Rattle.reach_gather.specs.ViewParts.{record_object, ResolvesTo}
use Rattle.reach_gather.proofs.ViewParts.{view-live}
use Rattle.reach_gather.proofs.Slots.{found-one}
use Rattle.reach_gather.specs.Volumes.Told.{head_naming}
use Rattle.reach_gather.specs.Volumes.Parts.{IsVolumePart}
use Rattle.reach_gather.specs.Volumes.Laws.{HasParts}
use Rattle.reach_sweep.specs.Views.{head_of, AreVolumes}
use Rattle.reach_sweep.specs.Composed.{IsHeadRecord, AreRecordsBy}

-- the namings of heads are live
pub heads-live : (image : List ℕ) (seen : Seen) (heads : List VolHead) (n : Naming) → HasParts image seen heads → In n (map head_naming heads) → IsLive image seen n
unfolding roots
heads-live image seen heads n p h =
    let slots : List Naming = map head_naming heads in
    let jump : List Naming = jumpstart_naming seen.nx in
    let reaper : List Naming = reaper_naming seen.nx in
    rooted n (inr (inr (in-right n reaper _ (in-right n jump _ (subst (λ (ns : List Naming). In n ns) (sym p.slots_are) h)))))

-- the volume of a head is right
pub head-part : (image : List ℕ) (seen : Seen) (heads : List VolHead) (volumes : List Loaded) (namer : Loaded → Namer) → HasParts image seen heads → AreVolumes image seen heads volumes namer → (head : VolHead) → In head heads → (volume : Loaded) × IsVolumePart image seen head volume
head-part image seen heads volumes namer p v head h =
    let t = from-map head_of volumes head (subst (λ (hs : List VolHead). In head hs) v.heads_are h) in
    let volume : Loaded = t.0 in
    let there : In volume.head heads = subst (λ (x : VolHead). In x heads) t.1.1 h in
    (volume, subst (λ (x : VolHead). IsVolumePart image seen x volume) (sym t.1.1) (p.volumes volume.head volume there (v.loaded volume t.1.0)))

same-map : (a b : ℕ) (r s : OmapRecord) → OfRecord a r ≡ OfRecord b s → a ≡ b
same-map a b r s e = cc

same-record : (a b : ℕ) (r s : OmapRecord) → OfRecord a r ≡ OfRecord b s → r ≡ s
same-record a b r s e = cc

-- a naming of a head resolves to the record by which its volume is found, and to no other
record-is : (image : List ℕ) (seen : Seen) (head : VolHead) (volume : Loaded) (part : IsVolumePart image seen head volume) (n : Naming) (r : ℕ × OmapRecord) → n ≡ head_naming head → ResolvesTo image seen n r → OfRecord (omap_oid_of seen.nx) part.mapping ≡ record_object r
record-is image seen head volume part n r same to =
    let f : Found = standing image (site_of seen) (OfRecord (omap_oid_of seen.nx) part.mapping) head.block in
    let e : f ≡ to.object = found-one (resolved image seen n) f to.object (ap (resolved image seen) same ∙ part.found) to.found in
    ap (λ (g : Found). g.object) e ∙ to.record_is

pub records-by : (image : List ℕ) (seen : Seen) → AreRecordsBy image seen
records-by image seen heads volumes namer all views records of_heads p v j hs =
    let omap : ℕ = omap_oid_of seen.nx in
    record {
      of_views = λ r h. in-left r records of_heads h;
      of_namings = λ n h how r to.
          let k = from-map head_naming heads n (p.only n (j.part.these_live n h) how) in
          let part = head-part image seen heads volumes namer p v k.0 k.1.0 in
          let is : OfRecord omap part.1.mapping ≡ OfRecord r.0 r.1 = record-is image seen k.0 part.0 part.1 n r k.1.1 to in
          let one : In (omap, part.1.mapping) of_heads = hs.all k.0 part.1.mapping k.1.0 part.1.mapped in
          let with_map : In (r.0, part.1.mapping) of_heads = subst (λ a. In (a, part.1.mapping) of_heads) (same-map omap r.0 part.1.mapping r.1 is) one in
          let with_record : In (r.0, r.1) of_heads = subst (λ (x : OmapRecord). In (r.0, x) of_heads) (same-record omap r.0 part.1.mapping r.1 is) with_map in
          in-right r records of_heads with_record;
      only = λ r h. elim (in-append r records of_heads h) as (λ _. In r records ⊎ ((n : Naming) × (In n all × ResolvesTo image seen n r))) [
        | inl k ↦ inl k
        | inr k ↦
            let b : IsHeadRecord image seen heads r = hs.only r k in
            let n : Naming = head_naming b.head in
            let part = head-part image seen heads volumes namer p v b.head b.one in
            let record_at : part.1.mapping ≡ r.1 = found-one (resolved_in image (site_of seen) omap b.head.oid seen.line.xid) part.1.mapping r.1 part.1.mapped b.found in
            let object_is : OfRecord omap part.1.mapping ≡ OfRecord r.0 r.1 = ap (λ a. OfRecord a part.1.mapping) (sym b.map_is) ∙ ap (OfRecord r.0) record_at in
            let to : ResolvesTo image seen n r = record { object = standing image (site_of seen) (OfRecord omap part.1.mapping) b.head.block; found = part.1.found; record_is = object_is } in
            let there : In n all = elim (j.part.split n (heads-live image seen heads n p (in-map head_naming heads b.head b.one))) as (λ _. In n all) [
              | inl m ↦ m
              | inr l ↦ let w = view-live image seen n l in absurd (let z : InContainer ≡ InView w.view = w.how_is in let q : ⊥ = cc in q)
            ] in
            inr (n, (there, to))
      ];
    }
