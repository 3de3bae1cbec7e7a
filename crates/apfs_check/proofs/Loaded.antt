-- In an accounted container the volumes of which is told are sound, and so are their snapshots.
use Rattle.std.proofs.Common.{◌≡◌, ℕ, true, ◌&&◌, List, map, filter, Option, Some, None, is_ok, inl, inr, refl, ap, sym, ◌∙◌, subst, arith}
use Rattle.std.specs.Prelude.{◌<◌, option_map, option_and_then, is_some}
use Rattle.std.specs.List.{range_with_len, list_all}
use Rattle.apfs_model.specs.Blocks.{in_container}
use Rattle.apfs_model.specs.Lists.{In}
use Rattle.bt_node.specs.Entries.{Pair, bytes_in}
use Rattle.obj_base.specs.declared.site.Site.{Site}
use Rattle.nx_block.specs.Super.{fs_oid_of, slots}
use Rattle.nx_ring.specs.Checkpoint.{Seen, site_of}
use Rattle.omap_map.specs.declared.records.Place.{Place}
use Rattle.omap_map.specs.Maps.{is_map_object}
use Rattle.vol_view.specs.Heads.{super_in, is_super, head_at, heads_of}
use Rattle.vol_view.specs.Stops.{AreRight}
use Rattle.vol_view.specs.SnapRecords.{snapshot_pairs, snap_super_of, is_snapshot_long, is_snapshot_readable}
use Rattle.vol_view.specs.Volumes.{super_of, map_block_of, metadata_of, snapshot_in, has_super, snapshots_in, sound_snapshots, loaded_of}
use Rattle.vol_view.specs.Views.{past_of, views_of, rooted_views}
use Rattle.vol_view.specs.Agreement.{are_readable}
use Rattle.vol_view.specs.declared.head.VolHead.{VolHead}
use Rattle.vol_view.specs.declared.volume.View.{View}
use Rattle.reach_rules.specs.declared.naming.ViewAt.{ViewAt}
use Rattle.reach_rules.specs.declared.naming.LookUp.TheVariants.{ByBlock}
use Rattle.reach_rules.specs.declared.naming.Object.TheVariants.{InBlock}
use Rattle.reach_rules.specs.declared.naming.Namer.TheVariants.{Whole, Kept}
use Rattle.reach_rules.specs.declared.naming.Expected.TheVariants.{SnapshotSuper, VolumeMap}
use Rattle.reach_rules.specs.declared.naming.Naming.{Naming}
use Rattle.reach_rules.specs.Naming.{naming}
use Rattle.reach_rules.specs.Resolved.{Found, resolved, standing, found_physical}
use Rattle.reach_rules.specs.Tested.{tested}
use Rattle.reach_rules.specs.Next.{past_view}
use Rattle.reach_rules.specs.Live.{IsLive, NamesSound}
use Rattle.apfs_model.proofs.BoolTests.{left-true, both-true, all-in, from-range}
use Rattle.apfs_model.proofs.Searches.{in-map, from-map, in-filter, from-filter}
use Rattle.reach_rules.proofs.Sounds.{cab-bytes, volume-map-sound}
use Rattle.apfs_check.specs.Volumes.{has_sound_super, sound_heads, volume_of}
use Rattle.apfs_check.proofs.Named.{snapshot-tested, from-filter_map, head-at, head-named, head-tested, volume-names, super_naming, record-names}

-- every live naming is sound
abbrev pub AllSound : List ℕ → Seen → Type 0
AllSound image seen = (n : Naming) → IsLive image seen n → (f : Found) × NamesSound image seen n f

-- a volume that is named is sound
pub sound-super : (image : List ℕ) (seen : Seen) → AllSound image seen → (head : VolHead) → In head (heads_of image seen) → has_sound_super image (site_of seen) head ≡ true
sound-super image seen all head one =
    let n = head-named image seen head one in
    let t = all n.naming n.live in
    let e : ◌≡◌ {A = Option Found} (Some t.0) (Some n.object) = sym t.1.names.found ∙ n.found in
    let same : t.0 ≡ n.object = cc in
    sym (head-tested image seen head n) ∙ subst (λ (f : Found). is_ok (tested (site_of seen) n.naming.expected n.naming.oid f.bytes) ≡ true) same t.1.sound

pub in-sound : (image : List ℕ) (seen : Seen) → AllSound image seen → (head : VolHead) → In head (heads_of image seen) → In head (sound_heads image seen)
unfolding sound_heads
in-sound image seen all head one = in-filter (has_sound_super image (site_of seen)) head (heads_of image seen) one (sound-super image seen all head one)

pub from-sound : (image : List ℕ) (seen : Seen) (head : VolHead) → In head (sound_heads image seen) → In head (heads_of image seen)
unfolding sound_heads
from-sound image seen head h = from-filter (has_sound_super image (site_of seen)) head (heads_of image seen) h

-- its object map is sound
pub sound-map : (image : List ℕ) (seen : Seen) → AllSound image seen → (head : VolHead) → In head (heads_of image seen) → is_map_object image (site_of seen) (map_block_of image (site_of seen) head) ≡ true
sound-map image seen all head one =
    let n = head-named image seen head one in
    let oid : ℕ = map_block_of image (site_of seen) head in
    let m : Naming = naming (Whole n.object.object) 128 VolumeMap ByBlock oid in
    let t = all m (volume-names image seen head n (sound-super image seen all head one) m (inl refl)) in
    volume-map-sound image seen (Whole n.object.object) 128 oid t.0 t.1

some-found : (image : List ℕ) (site : Site) (oid : ℕ) (f : Found) → found_physical image site oid ≡ Some f → is_some (in_container site.blocks oid) ≡ true
some-found image site oid f h =
    let go : (o : Option ℕ) → option_map (λ block. standing image site (InBlock block) block) o ≡ Some f → is_some o ≡ true = λ o. elim o as (λ o. option_map (λ block. standing image site (InBlock block) block) o ≡ Some f → is_some o ≡ true) [
      | None ↦ λ e. absurd (let z : ◌≡◌ {A = Option Found} None (Some f) = e in let q : ⊥ = cc in q)
      | Some b ↦ λ e. refl
    ] in
    go (in_container site.blocks oid) h

pub physical-inside : (image : List ℕ) (seen : Seen) (view : ViewAt) (pair : Pair) (f : Found) → resolved image seen (super_naming view pair) ≡ Some f → is_some (in_container (site_of seen).blocks (snap_super_of (bytes_in pair.value))) ≡ true
unfolding resolved
physical-inside image seen view pair f h = some-found image (site_of seen) (snap_super_of (bytes_in pair.value)) f h

-- the superblock of a snapshot that a volume's record gives is sound
pub sound-snapshot : (image : List ℕ) (seen : Seen) → AllSound image seen → (head : VolHead) → In head (heads_of image seen) → (pair : Pair) → In pair (snapshot_pairs (metadata_of image (site_of seen) head)) → is_snapshot_long pair ≡ true → has_super image (site_of seen) pair ≡ true
unfolding has_super
sound-snapshot image seen all head one pair h long =
    let n = head-named image seen head one in
    let oid : ℕ = snap_super_of (bytes_in pair.value) in
    let r = record-names image seen head n (sound-super image seen all head one) pair h long in
    let view : ViewAt = past_view head.slot (super_of image (site_of seen) head) r.0 pair in
    let s : Naming = super_naming view pair in
    let t = all s (r.1 s (inl refl)) in
    let bytes : t.0.bytes ≡ super_in image (site_of seen) oid = cab-bytes image seen (Kept view) 8 (SnapshotSuper view) oid t.0 t.1.names.found in
    let ok : is_ok (tested (site_of seen) (SnapshotSuper view) oid (super_in image (site_of seen) oid)) ≡ true = subst (λ b. is_ok (tested (site_of seen) (SnapshotSuper view) oid b) ≡ true) bytes t.1.sound in
    let right : is_super image (site_of seen) None oid ≡ true = sym (snapshot-tested image (site_of seen) view oid oid) ∙ ok in
    both-true (is_snapshot_long pair) _ long (both-true (is_some (in_container (site_of seen).blocks oid)) _ (physical-inside image seen view pair t.0 t.1.names.found) right)

-- a record that can be read is long enough
pub readable-long : (pairs : List Pair) → are_readable pairs ≡ true → (pair : Pair) → In pair (snapshot_pairs pairs) → is_snapshot_long pair ≡ true
unfolding are_readable is_snapshot_readable
readable-long pairs e pair h =
    let all : list_all is_snapshot_readable (snapshot_pairs pairs) ≡ true = left-true (list_all is_snapshot_readable (snapshot_pairs pairs)) _ e in
    left-true (is_snapshot_long pair) _ (left-true (is_snapshot_long pair && _) _ (all-in is_snapshot_readable (snapshot_pairs pairs) all pair h))

-- all views of such a volume have a root
pub in-rooted : (image : List ℕ) (seen : Seen) → AllSound image seen → (head : VolHead) → In head (heads_of image seen) → are_readable (metadata_of image (site_of seen) head) ≡ true →
    (view : View) → In view (views_of (volume_of image seen head) seen) → In view (rooted_views image seen head)
unfolding loaded_of
in-rooted image seen all head one readable view (inl e) = inl e
in-rooted image seen all head one readable view (inr h) =
    let pairs : List Pair = snapshot_pairs (metadata_of image (site_of seen) head) in
    let past = past_of (volume_of image seen head) in
    let s = from-map past (snapshots_in image (site_of seen) head) view h in
    let p = from-map (snapshot_in image (site_of seen)) pairs s.0 s.1.0 in
    let long = readable-long (metadata_of image (site_of seen) head) readable p.0 p.1.0 in
    let has = sound-snapshot image seen all head one p.0 p.1.0 long in
    let listed : In (snapshot_in image (site_of seen) p.0) (sound_snapshots image (site_of seen) head) =
    in-map (snapshot_in image (site_of seen)) (filter (has_super image (site_of seen)) pairs) p.0 (in-filter (has_super image (site_of seen)) p.0 pairs p.1.0 has) in
    inr (subst (λ v. In v (map past (sound_snapshots image (site_of seen) head))) (sym (s.1.1 ∙ ap past p.1.1))
    (in-map past (sound_snapshots image (site_of seen) head) (snapshot_in image (site_of seen) p.0) listed))

-- a view that has a root is one of the views
pub from-rooted : (image : List ℕ) (seen : Seen) (head : VolHead) (view : View) → In view (rooted_views image seen head) → In view (views_of (volume_of image seen head) seen)
unfolding loaded_of
from-rooted image seen head view (inl e) = inl e
from-rooted image seen head view (inr h) =
    let pairs : List Pair = snapshot_pairs (metadata_of image (site_of seen) head) in
    let past = past_of (volume_of image seen head) in
    let s = from-map past (sound_snapshots image (site_of seen) head) view h in
    let p = from-map (snapshot_in image (site_of seen)) (filter (has_super image (site_of seen)) pairs) s.0 s.1.0 in
    let listed : In p.0 pairs = from-filter (has_super image (site_of seen)) p.0 pairs p.1.0 in
    inr (subst (λ v. In v (map past (snapshots_in image (site_of seen) head))) (sym (s.1.1 ∙ ap past p.1.1))
    (in-map past (snapshots_in image (site_of seen) head) (snapshot_in image (site_of seen) p.0) (in-map (snapshot_in image (site_of seen)) pairs p.0 listed)))

-- a volume of which `heads` told is sound
pub right-super : (image : List ℕ) (seen : Seen) → AreRight image seen → (head : VolHead) → In head (heads_of image seen) → has_sound_super image (site_of seen) head ≡ true
unfolding heads_of
right-super image seen right head one =
    let t = from-filter_map (head_at image seen) head (range_with_len 0 slots) one in
    let slot : ℕ = t.0 in
    let a = head-at image seen slot head t.1.1 in
    let oid : ℕ = fs_oid_of seen.nx slot in
    let low : slot < slots = let l = from-range 0 slots slot t.1.0 in omega arith in
    let v = right.volumes slot low a.some in
    let e : ◌≡◌ {A = Option ℕ} (Some v.place.block) (Some a.block) = sym v.inside ∙ (ap (option_and_then (λ (p : Place). in_container (site_of seen).blocks p.block)) (sym v.at) ∙ a.at) in
    let same : v.place.block ≡ a.block = cc in
    subst (λ (h : VolHead). is_super image (site_of seen) (Some h.oid) h.block ≡ true) a.same (subst (λ b. is_super image (site_of seen) (Some oid) b ≡ true) same v.super)

pub right-sound : (image : List ℕ) (seen : Seen) → AreRight image seen → (head : VolHead) → In head (heads_of image seen) → In head (sound_heads image seen)
unfolding sound_heads
right-sound image seen right head one = in-filter (has_sound_super image (site_of seen)) head (heads_of image seen) one (right-super image seen right head one)
