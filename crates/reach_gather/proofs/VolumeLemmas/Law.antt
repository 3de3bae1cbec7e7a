-- The law of the parts of a container that `heads` and `load` have tested.
use Rattle.std.proofs.Common.{◌≡◌, ℕ, List, ◌++◌, map, Some, inr, ap, sym, ◌∙◌, subst}
use Rattle.apfs_model.specs.Lists.{In}
use Rattle.apfs_model.proofs.Searches.{in-right, in-map, from-map}
use Rattle.nx_block.specs.Super.{omap_oid_of, reaper_oid_of, jumpstart_of}
use Rattle.nx_ring.specs.Checkpoint.{Seen, site_of}
use Rattle.vol_view.specs.Fields as field
use Rattle.vol_view.specs.Stops.{AreHeads}
use Rattle.vol_view.specs.declared.head.VolHead.{VolHead}
use Rattle.reach_rules.specs.declared.naming.LookUp.TheVariants.{ByBlock, ByMapping}
use Rattle.reach_rules.specs.declared.naming.Object.TheVariants.{Newest, OfRecord}
use Rattle.reach_rules.specs.declared.naming.Namer.TheVariants.{Whole}
use Rattle.reach_rules.specs.declared.naming.Expected.TheVariants.{ReaperObject, Jumpstart, VolumeIn}
use Rattle.reach_rules.specs.declared.naming.Naming.{Naming}
use Rattle.reach_rules.specs.Resolved.{Found, resolved, standing}
use Rattle.reach_rules.specs.Next.{roots, unless_zero}
use Rattle.reach_rules.specs.Live.{IsLive, rooted}
use Rattle.reach_rules.specs.Maps.{GivesMap}
use Rattle.reach_gather.specs.Volumes.Told.{head_naming}
use Rattle.reach_gather.specs.Volumes.Laws.{IsGivenBy, PartsOfVolumes}
use Rattle.reach_gather.proofs.VolumeLemmas.Leads.{record-found}
use Rattle.reach_gather.proofs.VolumeLemmas.MapParts.{container-part}
use Rattle.reach_gather.proofs.VolumeLemmas.Heads.{IsRightHead, head-right}
use Rattle.reach_gather.proofs.VolumeLemmas.Slots.{slots-are}
use Rattle.reach_gather.proofs.VolumeLemmas.Others.{of_slots, in-slots, volume-slots}
use Rattle.reach_gather.proofs.VolumeLemmas.Loads.{volume-part}
use Rattle.reach_gather.proofs.Slots.{found-one}

-- the namings of slots are among those of the newest superblock
slot-live : (image : List ℕ) (seen : Seen) (n : Naming) → In n (of_slots seen) → IsLive image seen n
unfolding roots
slot-live image seen n h =
    let jump : List Naming = unless_zero (Whole Newest) 1272 Jumpstart ByBlock (jumpstart_of seen.nx) in
    let reaper : List Naming = unless_zero (Whole Newest) 168 ReaperObject ByMapping (reaper_oid_of seen.nx) in
    rooted n (inr (inr (in-right n reaper (jump ++ of_slots seen) (in-right n jump (of_slots seen) h))))

-- and so live ones
pub head-live : (image : List ℕ) (seen : Seen) (heads : List VolHead) (head : VolHead) → AreHeads image seen heads → In head heads → IsLive image seen (head_naming head)
head-live image seen heads head are h = slot-live image seen (head_naming head) (subst (In (head_naming head)) (sym (slots-are image seen heads are)) (in-map head_naming heads head h))

-- what is looked up in the container's map is the volume of a head
pub heads-only : (image : List ℕ) (seen : Seen) (heads : List VolHead) (n : Naming) → AreHeads image seen heads → In n (of_slots seen) → In n (map head_naming heads)
heads-only image seen heads n are h = subst (In n) (slots-are image seen heads are) h

pub same-slot : (a b : ℕ) → VolumeIn a ≡ VolumeIn b → a ≡ b
same-slot a b e = cc

-- the object of a head's naming has the bytes of the head's superblock
given-by : (image : List ℕ) (seen : Seen) (heads : List VolHead) (slot map : ℕ) → AreHeads image seen heads → GivesMap image seen slot map → IsGivenBy image seen heads slot map
given-by image seen heads slot map are g =
    let n : Naming = g.naming in
    let t = from-map head_naming heads n (heads-only image seen heads n are (volume-slots image seen n slot g.names.names.live g.volume)) in
    let head : VolHead = t.0 in
    let same : n ≡ head_naming head = t.1.1 in
    let h : IsRightHead image seen head = head-right image seen heads head are t.1.0 in
    let thing : Found = standing image (site_of seen) (OfRecord (omap_oid_of seen.nx) h.mapping) head.block in
    let found : resolved image seen (head_naming head) ≡ Some thing = record-found image seen (Whole Newest) _ (VolumeIn head.slot) head.oid head.block h.mapping h.mapped h.inside in
    let object : g.object ≡ thing = found-one (resolved image seen n) g.object thing g.names.names.found (ap (resolved image seen) same ∙ found) in
    record {
      head = head;
      one = t.1.0;
      slot_is = same-slot head.slot slot (sym (ap (λ (m : Naming). m.expected) same) ∙ g.volume);
      map_is = g.gives ∙ ap (λ (f : Found). field.omap_oid_of f.bytes) object;
    }

pub the-law : PartsOfVolumes
the-law image seen heads are = record {
  container = container-part image seen are.right.map;
  slots_are = slots-are image seen heads are;
  only = λ n live how. heads-only image seen heads n are (in-slots image seen n live how);
  volumes = λ head volume h of. volume-part image seen head volume (head-right image seen heads head are h) (head-live image seen heads head are h) of;
  given = λ slot map g. given-by image seen heads slot map are g;
}
