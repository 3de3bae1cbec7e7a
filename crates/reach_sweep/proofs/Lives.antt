-- What is live of what was gathered, and which records live namings use.
use Rattle.std.proofs.Common.{◌≡◌, ℕ, true, false, List, map, inl, inr, refl, ap, sym, ◌∙◌, subst}
use Rattle.apfs_model.specs.Lists.{In}
use Rattle.apfs_model.proofs.Searches.{in-map, from-map}
use Rattle.obj_base.specs.declared.stop.Stop.TheVariants.{Found as Finds, Unsupported, ReadFault, NoMemory}
use Rattle.nx_ring.specs.Checkpoint.{Seen}
use Rattle.omap_map.specs.declared.records.OmapRecord.{OmapRecord}
use Rattle.reach_rules.specs.declared.fault.ReachFault.TheVariants.{UnusedMapping}
use Rattle.reach_rules.specs.declared.naming.LookUp.{LookUp}
use Rattle.reach_rules.specs.declared.naming.LookUp.TheVariants.{ByBlock, ByMapping, InContainer, InView}
use Rattle.reach_rules.specs.declared.naming.Object.{Object}
use Rattle.reach_rules.specs.declared.naming.Object.TheVariants.{InBlock, OfId, OfRecord}
use Rattle.reach_rules.specs.declared.naming.Naming.{Naming}
use Rattle.reach_rules.specs.Resolved.{Found, resolved}
use Rattle.reach_rules.specs.Live.{rooted}
use Rattle.reach_rules.specs.Maps.{IsUsed}
use Rattle.reach_gather.specs.Container.{all_views}
use Rattle.reach_gather.specs.ViewParts.{is_in_view, record_object, ResolvesTo, AreJoined}
use Rattle.reach_gather.proofs.Joined.{parts-join}
use Rattle.reach_gather.proofs.ViewParts.{joined-tells}
use Rattle.view_sweep.specs.declared.used.Used.{Used}
use Rattle.view_sweep.specs.Unused.{used_in}
use Rattle.view_sweep.proofs.Idles.{maps-unused}
use Rattle.reach_gather.specs.Finished.{AreRecordsWith}
use Rattle.reach_gather.proofs.Counts.{IsObjectBy, resolved-by}
use Rattle.reach_gather.proofs.Slots.{found-one}
use Rattle.reach_sweep.specs.Composed.{record_used, records_used, AreHeldLive, AreViewsLive, AreUsedBy, AreUnusedPresent}
use Rattle.reach_sweep.proofs.Added.{held-same}

pub held-live : (image : List ℕ) (seen : Seen) → AreHeldLive image seen
held-live image seen rest start parts s g n h = g.part.these_live n ((held-same image seen g.these start parts s g.grew).back n h)

pub views-live : (image : List ℕ) (seen : Seen) → AreViewsLive image seen
views-live image seen rest first start parts g r f n h = g.part.rest_live n (rooted n (r.there n (f.back n h)))

-- ---- the records that are used
-- what is found by a record, and not in a view, is looked up in the container's map
pub in-container : (how : LookUp) (oid : ℕ) (x : Object) (map : ℕ) (r : OmapRecord) → IsObjectBy how oid x → x ≡ OfRecord map r → is_in_view how ≡ false → how ≡ InContainer
in-container ByBlock oid x map r by is out = absurd (let z : InBlock oid ≡ OfRecord map r = sym by ∙ is in let q : ⊥ = cc in q)
in-container ByMapping oid x map r by is out = absurd (let z : OfId oid ≡ OfRecord map r = sym by ∙ is in let q : ⊥ = cc in q)
in-container InContainer oid x map r by is out = refl
in-container (InView view) oid x map r by is out = absurd (let z : true ≡ false = out in let q : ⊥ = cc in q)

pub same-record : (r s : ℕ × OmapRecord) → record_object r ≡ record_object s → r ≡ s
same-record r s e =
    let a : r.0 ≡ s.0 = cc in
    let b : r.1 ≡ s.1 = cc in
    ap (λ x. (x, r.1)) a ∙ ap (λ (y : OmapRecord). (s.0, y)) b

-- a record to which a live naming resolves is one of those that are used
used-record : (image : List ℕ) (seen : Seen) (all views : List Naming) (records those : List (ℕ × OmapRecord)) → AreJoined image seen all views records → AreRecordsWith image seen all records those → (map : ℕ) (r : OmapRecord) → IsUsed image seen map r → In (map, r) those
used-record image seen all views records those j recs map r u = elim (j.part.split u.naming u.names.live) as (λ _. In (map, r) those) [
  | inl m ↦
      let by = resolved-by image seen u.naming u.object u.names.found in
      let how = in-container u.naming.how u.naming.oid u.object.object map r by u.record_is (j.outside u.naming m) in
      recs.of_namings u.naming m how (map, r) (record { object = u.object; found = u.names.found; record_is = u.record_is })
  | inr l ↦
      let k = j.records_are.each u.naming ((parts-join image seen).live_same (all_views image seen) views j.views_are u.naming l) in
      let to : ResolvesTo image seen u.naming k.0 = k.1.1 in
      let one : to.object ≡ u.object = found-one (resolved image seen u.naming) to.object u.object to.found u.names.found in
      let same : k.0 ≡ (map, r) = same-record k.0 (map, r) (sym to.record_is ∙ (ap (λ (f : Found). f.object) one ∙ u.record_is)) in
      subst (λ (q : ℕ × OmapRecord). In q those) same (recs.of_views k.0 k.1.0)
]

as-used : (used : List Used) (map : ℕ) (r : OmapRecord) → In (map, r) (records_used used) → In (used_in map r) used
as-used used block r h =
    let t = from-map record_used used (block, r) h in
    let u : Used = t.0 in
    let at : u.map ≡ block = sym (ap (λ (q : ℕ × OmapRecord). q.0) t.1.1) in
    let is : u.mapping ≡ r = sym (ap (λ (q : ℕ × OmapRecord). q.1) t.1.1) in
    let same : u ≡ used_in block r = ap (λ b. used_in b u.mapping) at ∙ ap (used_in block) is in
    subst (λ (x : Used). In x used) same t.1.0

in-used : (used : List Used) (u : Used) → In u used → In (record_used u) (records_used used)
in-used used u h = in-map record_used used u h

pub used-by : (image : List ℕ) (seen : Seen) → AreUsedBy image seen
used-by image seen all views records used j recs =
    let told = joined-tells image seen all views records j in
    record {
      only = λ u h. elim (recs.only (record_used u) (in-used used u h)) as (λ _. IsUsed image seen u.map u.mapping) [
        | inl k ↦ told.used (record_used u) k
        | inr t ↦ told.used_by t.0 (record_used u) t.1.0 t.1.1
      ];
      all = λ map r u. as-used used map r (used-record image seen all views records (records_used used) j recs map r u);
    }

pub unused-present : (image : List ℕ) (seen : Seen) → AreUnusedPresent image seen
unused-present image seen maps used (Finds (UnusedMapping within oid xid)) ones of h = maps-unused image seen maps used within oid xid ones of h
unused-present image seen maps used (Finds fault) ones of h = absurd h
unused-present image seen maps used (Unsupported feature block) ones of h = absurd h
unused-present image seen maps used ReadFault ones of h = h
unused-present image seen maps used NoMemory ones of h = h
