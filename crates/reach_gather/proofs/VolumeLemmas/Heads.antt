-- What is known of a head of a container whose heads are right.
use Rattle.std.proofs.Common.{◌≡◌, ℕ, ◌<◌, Bool, true, false, ◌==◌, List, [], ◌∷◌, Option, None, Some, is_ok, inl, inr, refl, ap, sym, ◌∙◌, subst, if◌then◌else◌}
use Rattle.std.specs.Prelude.{filter_map, option_map, option_and_then}
use Rattle.std.specs.List.{range_with_len, cons_option}
use Rattle.apfs_model.specs.Blocks.{in_container}
use Rattle.apfs_model.specs.Lists.{In}
use Rattle.apfs_model.proofs.BoolTests.{left-true, right-true, from-range}
use Rattle.obj_base.specs.declared.site.Site.{Site}
use Rattle.nx_block.specs.Super.{omap_oid_of, fs_oid_of, slots}
use Rattle.nx_ring.specs.Checkpoint.{Seen, site_of}
use Rattle.omap_map.specs.Features.{mapping_features}
use Rattle.omap_map.specs.Resolve.{place_of}
use Rattle.omap_map.specs.Maps.{resolved_in}
use Rattle.omap_map.specs.declared.records.OmapRecord.{OmapRecord}
use Rattle.omap_map.specs.declared.records.Place.{Place}
use Rattle.vol_view.specs.Heads.{super_in, super_test, has_magic, is_super, volume_place, volume_block, head_of, head_at, heads_of}
use Rattle.vol_view.specs.Stops.{IsVolume, AreRight, AreHeads}
use Rattle.vol_view.specs.declared.head.VolHead.{VolHead}

-- what is known of it
pub record IsRightHead (image : List ℕ) (seen : Seen) (head : VolHead) : Type 0 where
  pub low : head.slot < slots
  pub oid_is : head.oid ≡ fs_oid_of seen.nx head.slot
  pub some : (head.oid == 0) ≡ false
  pub mapping : OmapRecord
  pub mapped : resolved_in image (site_of seen) (omap_oid_of seen.nx) head.oid seen.line.xid ≡ Some mapping
  pub inside : in_container (site_of seen).blocks mapping.paddr ≡ Some head.block
  pub plain : mapping_features (site_of seen).block_size mapping.flags mapping.size ≡ []
  pub sound : is_ok (super_test image (site_of seen) (Some head.oid) head.block) ≡ true
  pub magic : has_magic (super_in image (site_of seen) head.block) ≡ true

pub super-sound : (image : List ℕ) (site : Site) (oid : Option ℕ) (block : ℕ) → is_super image site oid block ≡ true → is_ok (super_test image site oid block) ≡ true
unfolding is_super
super-sound image site oid block e = left-true (is_ok (super_test image site oid block)) (has_magic (super_in image site block)) e

pub super-magic : (image : List ℕ) (site : Site) (oid : Option ℕ) (block : ℕ) → is_super image site oid block ≡ true → has_magic (super_in image site block) ≡ true
unfolding is_super
super-magic image site oid block e = right-true (is_ok (super_test image site oid block)) (has_magic (super_in image site block)) e

-- the record of a place
record HasRecord (o : Option OmapRecord) (place : Place) : Type 0 where
  by : OmapRecord
  some : o ≡ Some by
  same : place ≡ place_of by

from-place : (o : Option OmapRecord) (place : Place) → option_map place_of o ≡ Some place → HasRecord o place
from-place None place e = absurd (let z : ◌≡◌ {A = Option Place} None (Some place) = e in let q : ⊥ = cc in q)
from-place (Some r) place e = let z : ◌≡◌ {A = Option Place} (Some (place_of r)) (Some place) = e in let s : place_of r ≡ place = cc in record { by = r; some = refl; same = sym s }

place-record : (image : List ℕ) (seen : Seen) (oid : ℕ) (place : Place) → volume_place image seen oid ≡ Some place → HasRecord (resolved_in image (site_of seen) (omap_oid_of seen.nx) oid seen.line.xid) place
unfolding volume_place
place-record image seen oid place e = from-place (resolved_in image (site_of seen) (omap_oid_of seen.nx) oid seen.line.xid) place e

-- the block of a right volume
pub volume-block : (image : List ℕ) (seen : Seen) (oid : ℕ) (v : IsVolume image seen oid) → volume_block image seen oid ≡ Some v.place.block
volume-block image seen oid v = ap (option_and_then (λ (p : Place). in_container (site_of seen).blocks p.block)) v.at ∙ v.inside

-- the head of a right volume
right-head : (image : List ℕ) (seen : Seen) (slot : ℕ) → slot < slots → (fs_oid_of seen.nx slot == 0) ≡ false → (v : IsVolume image seen (fs_oid_of seen.nx slot)) →
    IsRightHead image seen (head_of slot (fs_oid_of seen.nx slot) v.place.block (super_in image (site_of seen) v.place.block))
right-head image seen slot low some v =
    let oid : ℕ = fs_oid_of seen.nx slot in
    let h = place-record image seen oid v.place v.at in
    record {
      low = low;
      oid_is = refl;
      some = some;
      mapping = h.by;
      mapped = h.some;
      inside = ap (λ (p : Place). in_container (site_of seen).blocks p.block) (sym h.same) ∙ v.inside;
      plain = ap (λ (p : Place). mapping_features (site_of seen).block_size p.flags p.size) (sym h.same) ∙ v.plain;
      sound = super-sound image (site_of seen) (Some oid) v.place.block v.super;
      magic = super-magic image (site_of seen) (Some oid) v.place.block v.super;
    }

-- that of a slot
pub slot-right : (image : List ℕ) (seen : Seen) (slot : ℕ) (head : VolHead) → AreRight image seen → slot < slots → head_at image seen slot ≡ Some head → IsRightHead image seen head × (head.slot ≡ slot)
unfolding head_at
slot-right image seen slot head right low e =
    let oid : ℕ = fs_oid_of seen.nx slot in
    let made : ℕ → VolHead = λ block. head_of slot oid block (super_in image (site_of seen) block) in
    let Goal : Type 0 = IsRightHead image seen head × (head.slot ≡ slot) in
    let go : (b : Bool) → (oid == 0) ≡ b → (if b then None else option_map made (volume_block image seen oid)) ≡ Some head → Goal =
    λ b. elim b as (λ b. (oid == 0) ≡ b → (if b then None else option_map made (volume_block image seen oid)) ≡ Some head → Goal) [
      | true ↦ λ z s. let q : ◌≡◌ {A = Option VolHead} None (Some head) = s in absurd (let k : ⊥ = cc in k)
      | false ↦ λ z s.
          let v : IsVolume image seen oid = right.volumes slot low z in
          let q : ◌≡◌ {A = Option VolHead} (Some (made v.place.block)) (Some head) = sym (ap (option_map made) (volume-block image seen oid v)) ∙ s in
          let same : made v.place.block ≡ head = cc in
          (subst (IsRightHead image seen) same (right-head image seen slot low z v), ap (λ (h : VolHead). h.slot) (sym same))
    ] in
    go (oid == 0) refl e

-- an item of a list that is filtered and mapped
pub from-filter_map : {X Y : Type 0} (f : X → Option Y) (y : Y) (xs : List X) → In y (filter_map f xs) → (x : X) × (In x xs × (f x ≡ Some y))
from-filter_map f y [] h = absurd h
from-filter_map {X} {Y} f y (x ∷ xs) h =
    let more : In y (filter_map f xs) → (z : X) × (In z (x ∷ xs) × (f z ≡ Some y)) = λ k. let t = from-filter_map f y xs k in (t.0, (inr t.1.0, t.1.1)) in
    let go : (o : Option Y) → f x ≡ o → In y (cons_option o (filter_map f xs)) → (z : X) × (In z (x ∷ xs) × (f z ≡ Some y)) =
    λ o. elim o as (λ o. f x ≡ o → In y (cons_option o (filter_map f xs)) → (z : X) × (In z (x ∷ xs) × (f z ≡ Some y))) [
      | None ↦ λ e k. more k
      | Some w ↦ λ e k. elim k as (λ _. (z : X) × (In z (x ∷ xs) × (f z ≡ Some y))) [ inl s ↦ (x, (inl refl, e ∙ ap Some (sym s))) | inr m ↦ more m ]
    ] in
    go (f x) refl h

from-heads : (image : List ℕ) (seen : Seen) (head : VolHead) → In head (heads_of image seen) → (slot : ℕ) × (In slot (range_with_len 0 slots) × (head_at image seen slot ≡ Some head))
unfolding heads_of
from-heads image seen head h = from-filter_map (head_at image seen) head (range_with_len 0 slots) h

-- of each head
pub head-right : (image : List ℕ) (seen : Seen) (heads : List VolHead) (head : VolHead) → AreHeads image seen heads → In head heads → IsRightHead image seen head
head-right image seen heads head are h =
    let t = from-heads image seen head (subst (λ hs. In head hs) are.same h) in
    (slot-right image seen t.0 head are.right (from-range 0 slots t.0 t.1.0) t.1.1).0
