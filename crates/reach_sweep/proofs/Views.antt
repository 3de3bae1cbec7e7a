-- What all views of a container name is what those of the loaded volumes do.
use Rattle.std.proofs.Common.{◌≡◌, ℕ, suc, Bool, true, false, ◌==◌, ◌+◌, ◌*◌, List, [], ◌∷◌, ◌++◌, map, Option, inl, inr, refl, ap, sym, ◌∙◌, subst, if◌then◌else◌}
use Rattle.std.specs.List.{flat_map, range_with_len}
use Rattle.apfs_model.specs.Lists.{In, through}
use Rattle.apfs_model.proofs.Searches.{in-map, from-map, in-flat_map, from-flat_map}
use Rattle.obj_base.specs.declared.site.Site.{Site}
use Rattle.bt_node.specs.Entries.{Pair, bytes_in}
use Rattle.nx_block.specs.Super.{fs_oid_of, omap_oid_of, slots}
use Rattle.nx_ring.specs.Checkpoint.{Seen, site_of}
use Rattle.fs_name.specs.Normal.{names_of, are_hashed}
use Rattle.vol_view.specs.Fields as field
use Rattle.vol_view.specs.SnapRecords.{snapshot_pairs, is_snapshot_long}
use Rattle.vol_view.specs.Volumes.{Loaded, super_of, map_block_of, metadata_of, snapshot_in, loaded_of}
use Rattle.vol_view.specs.LoadStops.{IsLoadable, IsVolumeOf}
use Rattle.vol_view.specs.declared.head.VolHead.{VolHead}
use Rattle.reach_rules.specs.declared.naming.LookUp.TheVariants.{InContainer}
use Rattle.reach_rules.specs.declared.naming.Object.TheVariants.{Newest, OfRecord}
use Rattle.reach_rules.specs.declared.naming.Namer.{Namer}
use Rattle.reach_rules.specs.declared.naming.Namer.TheVariants.{Whole}
use Rattle.reach_rules.specs.declared.naming.Expected.TheVariants.{VolumeIn}
use Rattle.reach_rules.specs.declared.naming.Naming.{Naming}
use Rattle.reach_rules.specs.Naming.{naming}
use Rattle.reach_rules.specs.Resolved.{Found, standing}
use Rattle.reach_rules.specs.Next.{slot_namings, past_view}
use Rattle.reach_gather.specs.Joined.{HaveSame}
use Rattle.reach_gather.specs.Container.{views_namings, slot_views, all_views}
use Rattle.reach_gather.specs.Container as rules
use Rattle.reach_gather.specs.Volumes.Told.{head_naming, live_at, told_view}
use Rattle.reach_gather.specs.Volumes.Parts.{volume_namer, IsVolumePart}
use Rattle.reach_gather.specs.Volumes.Laws.{HasParts}
use Rattle.reach_gather.proofs.VolumeLemmas.Tellings.{long-snapshots, map-is}
use Rattle.reach_gather.proofs.VolumeLemmas.Law.{same-slot}
use Rattle.reach_gather.specs.Views.{pasts_namings, volume_views}
use Rattle.reach_sweep.specs.Views.{head_of, AreVolumes, volumes_views}

-- ---- of one volume
-- what the superblocks of snapshots name
pasts-same : (image : List ℕ) (seen : Seen) (slot : ℕ) (bytes : List ℕ) (i : ℕ) (pairs : List Pair) → ((pair : Pair) → In pair pairs → is_snapshot_long pair ≡ true) →
    rules.pasts_namings image seen slot bytes i pairs ≡ pasts_namings slot (field.omap_oid_of bytes) (are_hashed (names_of (field.incompat_of bytes))) i (map (snapshot_in image (site_of seen)) pairs)
unfolding snapshot_in
pasts-same image seen slot bytes i [] long = refl
pasts-same image seen slot bytes i (pair ∷ pairs) long =
    let here : List Naming = rules.past_namings image seen (past_view slot bytes i pair) (bytes_in pair.value) in
    let more = pasts-same image seen slot bytes (suc i) pairs (λ p h. long p (inr h)) in
    ap (λ b. (if b then here else []) ++ rules.pasts_namings image seen slot bytes (suc i) pairs) (long pair (inl refl))
    ∙ ap (λ ns. here ++ ns) more

-- what the views of a volume name, whose object map stands in a block
abbrev views_with : Seen → Namer → Loaded → ℕ → List Naming
views_with seen namer volume block =
    told_view namer (live_at seen volume.head.slot block (are_hashed volume.names)) volume.root_oid volume.meta_ext
    ++ pasts_namings volume.head.slot block (are_hashed volume.names) 0 volume.snaps

views-with : (image : List ℕ) (seen : Seen) (head : VolHead) (namer : Namer) → ((pair : Pair) → In pair (snapshot_pairs (metadata_of image (site_of seen) head)) → is_snapshot_long pair ≡ true) →
    told_view namer (live_at seen head.slot (map_block_of image (site_of seen) head) (are_hashed (names_of (field.incompat_of (super_of image (site_of seen) head))))) (field.root_oid_of (super_of image (site_of seen) head)) (field.meta_ext_of (super_of image (site_of seen) head))
    ++ rules.pasts_namings image seen head.slot (super_of image (site_of seen) head) 0 (snapshot_pairs (metadata_of image (site_of seen) head))
    ≡ views_with seen namer (loaded_of image (site_of seen) head) (map_block_of image (site_of seen) head)
unfolding loaded_of
views-with image seen head namer long =
    let bytes : List ℕ = super_of image (site_of seen) head in
    ap (λ ns. told_view namer (live_at seen head.slot (field.omap_oid_of bytes) (are_hashed (names_of (field.incompat_of bytes)))) (field.root_oid_of bytes) (field.meta_ext_of bytes) ++ ns)
    (pasts-same image seen head.slot bytes 0 (snapshot_pairs (metadata_of image (site_of seen) head)) long)

-- of a volume that can be loaded
loaded-views : (image : List ℕ) (seen : Seen) (head : VolHead) (f : Found) → IsLoadable image (site_of seen) head → f.bytes ≡ super_of image (site_of seen) head →
    views_namings image seen head.slot f ≡ volume_views seen (Whole f.object) (loaded_of image (site_of seen) head)
loaded-views image seen head f right bytes =
    let site : Site = site_of seen in
    ap (λ b. views_namings image seen head.slot (record { object = f.object; block = f.block; bytes = b })) bytes
    ∙ (views-with image seen head (Whole f.object) (long-snapshots image site head right)
    ∙ ap (views_with seen (Whole f.object) (loaded_of image site head)) (sym (map-is image site head right.map)))

-- of a loaded one
one-views : (image : List ℕ) (seen : Seen) (volume : Loaded) (f : Found) → IsVolumeOf image (site_of seen) volume.head volume → f.bytes ≡ super_of image (site_of seen) volume.head →
    views_namings image seen volume.head.slot f ≡ volume_views seen (Whole f.object) volume
one-views image seen volume f of bytes =
    loaded-views image seen volume.head f of.right bytes ∙ ap (volume_views seen (Whole f.object)) (sym of.same)

-- ---- of all
-- a slot's naming expects the slot's volume
pub slot-expected : (nx : List ℕ) (slot : ℕ) (m : Naming) → In m (slot_namings nx slot) → m.expected ≡ VolumeIn slot
slot-expected nx slot m h =
    let n : Naming = naming (Whole Newest) (184 + 8 * slot) (VolumeIn slot) InContainer (fs_oid_of nx slot) in
    let go : (b : Bool) → In m (if b then [] else n ∷ []) → m.expected ≡ VolumeIn slot = λ b. elim b as (λ b. In m (if b then [] else n ∷ []) → m.expected ≡ VolumeIn slot) [
      | true ↦ λ k. absurd k
      | false ↦ λ k. elim k as (λ _. m.expected ≡ VolumeIn slot) [ inl e ↦ ap (λ (x : Naming). x.expected) e | inr z ↦ absurd z ]
    ] in
    go (fs_oid_of nx slot == 0) h

-- what the views of one of the volumes name, by the object of its superblock
record IsNamedBy (image : List ℕ) (seen : Seen) (volumes : List Loaded) (n : Naming) : Type 0 where
  volume : Loaded
  one : In volume volumes
  there : In n (rules.volume_views image seen volume.head.slot (head_naming volume.head))

from-all : (image : List ℕ) (seen : Seen) (heads : List VolHead) (volumes : List Loaded) → HasParts image seen heads → heads ≡ map head_of volumes → (n : Naming) → In n (all_views image seen) → IsNamedBy image seen volumes n
unfolding all_views
from-all image seen heads volumes p e n h =
    let t = from-flat_map (slot_views image seen) n (range_with_len 0 slots) h in
    let slot : ℕ = t.0 in
    let u = from-flat_map (rules.volume_views image seen slot) n (slot_namings seen.nx slot) t.1.1 in
    let m : Naming = u.0 in
    let among : In m (map head_naming heads) = subst (λ (ns : List Naming). In m ns) p.slots_are (in-flat_map (slot_namings seen.nx) slot m (range_with_len 0 slots) t.1.0 u.1.0) in
    let k = from-map head_naming heads m among in
    let v = from-map head_of volumes k.0 (subst (λ (hs : List VolHead). In k.0 hs) e k.1.0) in
    let volume : Loaded = v.0 in
    let same : m ≡ head_naming volume.head = k.1.1 ∙ ap head_naming v.1.1 in
    let at : slot ≡ volume.head.slot = same-slot slot volume.head.slot (sym (slot-expected seen.nx slot m u.1.0) ∙ ap (λ (x : Naming). x.expected) same) in
    let here : In n (rules.volume_views image seen slot (head_naming volume.head)) = subst (λ (x : Naming). In n (rules.volume_views image seen slot x)) same u.1.1 in
    record { volume = volume; one = v.1.0; there = subst (λ s. In n (rules.volume_views image seen s (head_naming volume.head))) at here }

in-all : (image : List ℕ) (seen : Seen) (heads : List VolHead) (volumes : List Loaded) → HasParts image seen heads → heads ≡ map head_of volumes → (n : Naming) → IsNamedBy image seen volumes n → In n (all_views image seen)
unfolding all_views
in-all image seen heads volumes p e n b =
    let m : Naming = head_naming b.volume.head in
    let head : In b.volume.head heads = subst (λ (hs : List VolHead). In b.volume.head hs) (sym e) (in-map head_of volumes b.volume b.one) in
    let among : In m (flat_map (slot_namings seen.nx) (range_with_len 0 slots)) = subst (λ (ns : List Naming). In m ns) (sym p.slots_are) (in-map head_naming heads b.volume.head head) in
    let t = from-flat_map (slot_namings seen.nx) m (range_with_len 0 slots) among in
    let slot : ℕ = t.0 in
    let at : slot ≡ b.volume.head.slot = same-slot slot b.volume.head.slot (sym (slot-expected seen.nx slot m t.1.1)) in
    let here : In n (rules.volume_views image seen slot m) = subst (λ s. In n (rules.volume_views image seen s m)) (sym at) b.there in
    in-flat_map (slot_views image seen) slot n (range_with_len 0 slots) t.1.0 (in-flat_map (rules.volume_views image seen slot) m n (slot_namings seen.nx slot) t.1.1 here)

-- what the views of a loaded volume name, as the rules have it
volume-same : (image : List ℕ) (seen : Seen) (volume : Loaded) (namer : Namer) (part : IsVolumePart image seen volume.head volume) → IsVolumeOf image (site_of seen) volume.head volume → namer ≡ volume_namer seen part.mapping →
    rules.volume_views image seen volume.head.slot (head_naming volume.head) ≡ volume_views seen namer volume
volume-same image seen volume namer part of by =
    let f : Found = standing image (site_of seen) (OfRecord (omap_oid_of seen.nx) part.mapping) volume.head.block in
    ap (λ (o : Option Found). through o (views_namings image seen volume.head.slot)) part.found
    ∙ (one-views image seen volume f of refl
    ∙ ap (λ x. volume_views seen x volume) (sym by))

pub views-loaded : (image : List ℕ) (seen : Seen) (heads : List VolHead) (volumes : List Loaded) (namer : Loaded → Namer) → HasParts image seen heads → AreVolumes image seen heads volumes namer → HaveSame (all_views image seen) (volumes_views seen namer volumes)
views-loaded image seen heads volumes namer p v =
    let told : Loaded → List Naming = λ volume. volume_views seen (namer volume) volume in
    let same : (volume : Loaded) → In volume volumes → rules.volume_views image seen volume.head.slot (head_naming volume.head) ≡ told volume = λ volume h.
    let head : In volume.head heads = subst (λ (hs : List VolHead). In volume.head hs) (sym v.heads_are) (in-map head_of volumes volume h) in
    let part = p.volumes volume.head volume head (v.loaded volume h) in
    volume-same image seen volume (namer volume) part (v.loaded volume h) (v.named volume part.mapping h part.mapped) in
    record {
      there = λ n h.
          let b = from-all image seen heads volumes p v.heads_are n h in
          in-flat_map told b.volume n volumes b.one (subst (λ (ns : List Naming). In n ns) (same b.volume b.one) b.there);
      back = λ n h.
          let t = from-flat_map told n volumes h in
          in-all image seen heads volumes p v.heads_are n (record { volume = t.0; one = t.1.0; there = subst (λ (ns : List Naming). In n ns) (sym (same t.0 t.1.0)) t.1.1 });
    }
