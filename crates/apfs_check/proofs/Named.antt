-- The volumes of which is told, and their views, are named.
use Rattle.std.proofs.Common.{◌≡◌, ℕ, suc, ◌+◌, ◌*◌, Bool, true, false, ◌&&◌, ◌==◌, List, [], ◌∷◌, ◌++◌, map, filter, Option, Some, None, Result, Ok, Err, is_ok, inl, inr, refl, ap, sym, ◌∙◌, subst, if◌then◌else◌}
use Rattle.std.specs.Prelude.{option_map, option_and_then, is_some, filter_map, flat_map}
use Rattle.std.specs.List.{range_with_len, cons_option}
use Rattle.apfs_model.specs.Blocks.{block_of, in_container}
use Rattle.apfs_model.specs.Lists.{In}
use Rattle.obj_base.specs.declared.header.Header.{Header}
use Rattle.obj_base.specs.declared.header.HeadFault.{HeadFault}
use Rattle.obj_base.specs.declared.stop.Bad.{Bad}
use Rattle.obj_base.specs.declared.stop.Bad.TheVariants.{Found as Fails, Unsupported}
use Rattle.bt_node.specs.Entries.{Pair, bytes_in}
use Rattle.obj_base.specs.declared.site.Site.{Site}
use Rattle.nx_block.specs.Super.{omap_oid_of, reaper_oid_of, jumpstart_of, fs_oid_of, slots}
use Rattle.nx_ring.specs.Checkpoint.{Seen, site_of}
use Rattle.omap_map.specs.Resolve.{place_of}
use Rattle.omap_map.specs.Maps.{resolved_in}
use Rattle.omap_map.specs.declared.records.OmapRecord.{OmapRecord}
use Rattle.omap_map.specs.declared.records.Place.{Place}
use Rattle.fs_name.specs.Normal.{are_hashed}
use Rattle.vol_view.specs.Fields as field
use Rattle.vol_view.specs.Heads.{super_in, super_test, has_magic, is_super, volume_place, volume_block, head_of, head_at, heads_of}
use Rattle.vol_view.specs.SnapRecords.{snapshot_pairs, snap_super_of, is_snapshot_long}
use Rattle.vol_view.specs.Volumes.{super_of, map_block_of, metadata_of, snapshot_in, has_super, sound_snapshots, loaded_of}
use Rattle.vol_view.specs.Views.{live_of, past_of, rooted_views}
use Rattle.vol_view.specs.declared.head.VolHead.{VolHead}
use Rattle.vol_view.specs.declared.volume.View.{View}
use Rattle.reach_rules.specs.declared.fault.Why.TheVariants.{Magic}
use Rattle.reach_rules.specs.declared.naming.ViewAt.{ViewAt}
use Rattle.reach_rules.specs.declared.naming.LookUp.TheVariants.{ByBlock, ByMapping, InContainer, InView}
use Rattle.reach_rules.specs.declared.naming.Object.TheVariants.{Newest, InBlock, OfRecord}
use Rattle.reach_rules.specs.declared.naming.Namer.{Namer}
use Rattle.reach_rules.specs.declared.naming.Namer.TheVariants.{Whole, Kept}
use Rattle.reach_rules.specs.declared.naming.TreeKind.TheVariants.{Files, ExtentRefs, SnapMetadata}
use Rattle.reach_rules.specs.declared.naming.Expected.TheVariants.{ReaperObject, Jumpstart, VolumeIn, SnapshotSuper, TreeRoot}
use Rattle.reach_rules.specs.declared.naming.Naming.{Naming}
use Rattle.reach_rules.specs.Naming.{naming}
use Rattle.reach_rules.specs.Resolved.{Found, resolved, standing, recorded}
use Rattle.reach_rules.specs.Tested.{Answer, of_header, with_magic, tested}
use Rattle.reach_rules.specs.Next.{roots, names, unless_zero, slot_namings, live_view, past_view, view_namings, record_namings, snapshot_namings, snapshots_namings, volume_namings, records_of_snapshots}
use Rattle.reach_rules.specs.Live.{IsLive, rooted, led}
use Rattle.apfs_model.proofs.BoolTests.{left-true, right-true}
use Rattle.apfs_model.proofs.Searches.{in-left, in-right, in-flat_map, from-map, from-filter, filter-test}
use Rattle.reach_rules.proofs.Nexts.{in-next, in-unless}
use Rattle.apfs_check.specs.Volumes.{has_sound_super, volume_of}
use Rattle.apfs_model.proofs.Inside.{inside-itself}
use Rattle.reach_rules.proofs.Walks.{IsRootNaming}

if-ok : (b : Bool) (x y : Answer) → is_ok x ≡ true → is_ok y ≡ false → is_ok (if b then x else y) ≡ b
if-ok true x y a c = a
if-ok false x y a c = c

-- a superblock is sound as a volume's where its header is, and it has its magic
magic-ok : (magic : List ℕ → Bool) (bytes : List ℕ) (r : Result Header (Bad HeadFault)) → is_ok (with_magic magic (of_header bytes r)) ≡ (is_ok r && magic bytes)
magic-ok magic bytes (Ok header) = if-ok (magic bytes) (Ok bytes) (Err (Fails Magic)) refl refl
magic-ok magic bytes (Err (Fails why)) = refl
magic-ok magic bytes (Err (Unsupported feature)) = refl

pub volume-tested : (image : List ℕ) (site : Site) (slot oid block : ℕ) → is_ok (tested site (VolumeIn slot) oid (super_in image site block)) ≡ is_super image site (Some oid) block
unfolding tested is_super
volume-tested image site slot oid block = magic-ok has_magic (super_in image site block) (super_test image site (Some oid) block)

pub snapshot-tested : (image : List ℕ) (site : Site) (view : ViewAt) (oid block : ℕ) → is_ok (tested site (SnapshotSuper view) oid (super_in image site block)) ≡ is_super image site None block
unfolding tested is_super
snapshot-tested image site view oid block = magic-ok has_magic (super_in image site block) (super_test image site None block)

-- what is found by a record that gives a block of the container
pub record IsRecorded (image : List ℕ) (site : Site) (map block : ℕ) (o : Option OmapRecord) : Type 0 where
  pub mapping : OmapRecord
  pub object : Found
  pub some : o ≡ Some mapping
  pub found : option_and_then (recorded image site map) o ≡ Some object
  pub object_is : object.object ≡ OfRecord map mapping
  pub block_is : object.block ≡ block
  pub bytes_are : object.bytes ≡ block_of site.block_size image block

pub place-found : (image : List ℕ) (site : Site) (map block : ℕ) (o : Option OmapRecord) → option_and_then (λ (place : Place). in_container site.blocks place.block) (option_map place_of o) ≡ Some block → IsRecorded image site map block o
place-found image site map block None e = absurd (let z : ◌≡◌ {A = Option ℕ} None (Some block) = e in let q : ⊥ = cc in q)
place-found image site map block (Some r) e = record {
  mapping = r;
  object = standing image site (OfRecord map r) block;
  some = refl;
  found = ap (option_map (standing image site (OfRecord map r))) e;
  object_is = refl;
  block_is = refl;
  bytes_are = refl;
}

pub from-filter_map : {X Y : Type 0} (f : X → Option Y) (y : Y) (xs : List X) → In y (filter_map f xs) → (x : X) × (In x xs × (f x ≡ Some y))
from-filter_map f y [] h = absurd h
from-filter_map {X} {Y} f y (z ∷ zs) h =
    let go : (o : Option Y) → f z ≡ o → In y (cons_option o (filter_map f zs)) → (x : X) × (In x (z ∷ zs) × (f x ≡ Some y)) =
    λ o. elim o as (λ o. f z ≡ o → In y (cons_option o (filter_map f zs)) → (x : X) × (In x (z ∷ zs) × (f x ≡ Some y))) [
      | None ↦ λ e k. let t = from-filter_map f y zs k in (t.0, (inr t.1.0, t.1.1))
      | Some w ↦ λ e k. elim k as (λ _. (x : X) × (In x (z ∷ zs) × (f x ≡ Some y))) [
        | inl s ↦ (z, (inl refl, e ∙ ap Some (sym s)))
        | inr m ↦ let t = from-filter_map f y zs m in (t.0, (inr t.1.0, t.1.1))
      ]
    ] in
    go (f z) refl h

-- a slot has this volume
pub record IsHeadAt (image : List ℕ) (seen : Seen) (slot : ℕ) (head : VolHead) : Type 0 where
  pub some : (fs_oid_of seen.nx slot == 0) ≡ false
  pub block : ℕ
  pub at : volume_block image seen (fs_oid_of seen.nx slot) ≡ Some block
  pub same : head_of slot (fs_oid_of seen.nx slot) block (super_in image (site_of seen) block) ≡ head

pub head-at : (image : List ℕ) (seen : Seen) (slot : ℕ) (head : VolHead) → head_at image seen slot ≡ Some head → IsHeadAt image seen slot head
unfolding head_at
head-at image seen slot head h =
    let oid : ℕ = fs_oid_of seen.nx slot in
    let told : ℕ → VolHead = λ block. head_of slot oid block (super_in image (site_of seen) block) in
    let block : (o : Option ℕ) → volume_block image seen oid ≡ o → option_map told o ≡ Some head → (oid == 0) ≡ false → IsHeadAt image seen slot head =
    λ o. elim o as (λ o. volume_block image seen oid ≡ o → option_map told o ≡ Some head → (oid == 0) ≡ false → IsHeadAt image seen slot head) [
      | None ↦ λ e s z. absurd (let q : ◌≡◌ {A = Option VolHead} None (Some head) = s in let r : ⊥ = cc in r)
      | Some b ↦ λ e s z. let q : ◌≡◌ {A = Option VolHead} (Some (told b)) (Some head) = s in record { some = z; block = b; at = e; same = cc }
    ] in
    let go : (z : Bool) → (oid == 0) ≡ z → (if z then None else option_map told (volume_block image seen oid)) ≡ Some head → IsHeadAt image seen slot head =
    λ z. elim z as (λ z. (oid == 0) ≡ z → (if z then None else option_map told (volume_block image seen oid)) ≡ Some head → IsHeadAt image seen slot head) [
      | true ↦ λ e s. absurd (let q : ◌≡◌ {A = Option VolHead} None (Some head) = s in let r : ⊥ = cc in r)
      | false ↦ λ e s. block (volume_block image seen oid) refl s e
    ] in
    go (oid == 0) refl h

-- the naming of the volume in a slot
abbrev pub slot_naming : Seen → ℕ → Naming
slot_naming seen slot = naming (Whole Newest) (184 + 8 * slot) (VolumeIn slot) InContainer (fs_oid_of seen.nx slot)

pub slot-live : (image : List ℕ) (seen : Seen) (slot : ℕ) → In slot (range_with_len 0 slots) → (fs_oid_of seen.nx slot == 0) ≡ false → IsLive image seen (slot_naming seen slot)
unfolding roots
slot-live image seen slot h z =
    let n : Naming = slot_naming seen slot in
    let reaper = unless_zero (Whole Newest) 168 ReaperObject ByMapping (reaper_oid_of seen.nx) in
    let jump = unless_zero (Whole Newest) 1272 Jumpstart ByBlock (jumpstart_of seen.nx) in
    let vols = flat_map (slot_namings seen.nx) (range_with_len 0 slots) in
    let listed : In n vols = in-flat_map (slot_namings seen.nx) slot n (range_with_len 0 slots) h (in-unless (Whole Newest) (184 + 8 * slot) (VolumeIn slot) InContainer (fs_oid_of seen.nx slot) z) in
    rooted n (inr (inr (in-right n reaper (jump ++ vols) (in-right n jump vols listed))))

-- a volume is named, and this is what is found
pub record IsHeadNaming (image : List ℕ) (seen : Seen) (head : VolHead) : Type 0 where
  pub naming : Naming
  pub live : IsLive image seen naming
  pub expected_is : naming.expected ≡ VolumeIn head.slot
  pub oid_is : naming.oid ≡ head.oid
  pub object : Found
  pub found : resolved image seen naming ≡ Some object
  pub block_is : object.block ≡ head.block
  pub bytes_are : object.bytes ≡ super_of image (site_of seen) head

pub head-named : (image : List ℕ) (seen : Seen) (head : VolHead) → In head (heads_of image seen) → IsHeadNaming image seen head
unfolding heads_of resolved volume_place
head-named image seen head h =
    let t = from-filter_map (head_at image seen) head (range_with_len 0 slots) h in
    let slot : ℕ = t.0 in
    let a = head-at image seen slot head t.1.1 in
    let oid : ℕ = fs_oid_of seen.nx slot in
    let map : ℕ = omap_oid_of seen.nx in
    let r = place-found image (site_of seen) map a.block (resolved_in image (site_of seen) map oid seen.line.xid) a.at in
    record {
      naming = slot_naming seen slot;
      live = slot-live image seen slot t.1.0 a.some;
      expected_is = ap (λ (x : VolHead). VolumeIn x.slot) a.same;
      oid_is = ap (λ (x : VolHead). x.oid) a.same;
      object = r.object;
      found = r.found;
      block_is = r.block_is ∙ ap (λ (x : VolHead). x.block) a.same;
      bytes_are = r.bytes_are ∙ ap (λ (x : VolHead). super_in image (site_of seen) x.block) a.same;
    }

-- it is sound as it is named where its superblock is sound
pub head-tested : (image : List ℕ) (seen : Seen) (head : VolHead) (n : IsHeadNaming image seen head) → is_ok (tested (site_of seen) n.naming.expected n.naming.oid n.object.bytes) ≡ has_sound_super image (site_of seen) head
head-tested image seen head n =
    ap (λ e. is_ok (tested (site_of seen) e n.naming.oid n.object.bytes)) n.expected_is
    ∙ (ap (λ o. is_ok (tested (site_of seen) (VolumeIn head.slot) o n.object.bytes)) n.oid_is
    ∙ (ap (λ b. is_ok (tested (site_of seen) (VolumeIn head.slot) head.oid b)) n.bytes_are
    ∙ volume-tested image (site_of seen) head.slot head.oid head.block))

-- what a sound volume names is live
pub volume-names : (image : List ℕ) (seen : Seen) (head : VolHead) (n : IsHeadNaming image seen head) → has_sound_super image (site_of seen) head ≡ true → (m : Naming) →
    In m (volume_namings image seen head.slot (Whole n.object.object) (super_of image (site_of seen) head)) → IsLive image seen m
volume-names image seen head n sound m h =
    let f : Found = n.object in
    let listed : In m (names image seen n.naming.how n.naming.expected (Whole f.object) f.bytes) =
    subst (λ e. In m (names image seen n.naming.how e (Whole f.object) f.bytes)) (sym n.expected_is)
    (subst (λ b. In m (volume_namings image seen head.slot (Whole f.object) b)) (sym n.bytes_are) h) in
    led n.naming m n.live (in-next image seen n.naming m (record { object = f; found = n.found; sound = head-tested image seen head n ∙ sound; names = listed }))

-- the parts of what a volume names
abbrev Snaps : List ℕ → Seen → ℕ → List ℕ → List Naming
Snaps image seen slot bytes = snapshots_namings slot bytes 0 (records_of_snapshots image (site_of seen) bytes)

abbrev Extents : Namer → List ℕ → List Naming
Extents namer bytes = unless_zero namer 144 (TreeRoot ExtentRefs) ByBlock (field.extents_root_of bytes)

abbrev Metadata : Namer → List ℕ → List Naming
Metadata namer bytes = unless_zero namer 152 (TreeRoot SnapMetadata) ByBlock (field.snaps_root_of bytes)

pub in-views : (image : List ℕ) (seen : Seen) (slot : ℕ) (namer : Namer) (bytes : List ℕ) (m : Naming) → In m (view_namings namer (live_view seen slot bytes) bytes) → In m (volume_namings image seen slot namer bytes)
in-views image seen slot namer bytes m h =
    inr (in-left m (view_namings namer (live_view seen slot bytes) bytes) (Extents namer bytes ++ (Metadata namer bytes ++ Snaps image seen slot bytes)) h)

pub in-metadata : (image : List ℕ) (seen : Seen) (slot : ℕ) (namer : Namer) (bytes : List ℕ) (m : Naming) → In m (Metadata namer bytes) → In m (volume_namings image seen slot namer bytes)
in-metadata image seen slot namer bytes m h =
    inr (in-right m (view_namings namer (live_view seen slot bytes) bytes) (Extents namer bytes ++ (Metadata namer bytes ++ Snaps image seen slot bytes))
    (in-right m (Extents namer bytes) (Metadata namer bytes ++ Snaps image seen slot bytes)
    (in-left m (Metadata namer bytes) (Snaps image seen slot bytes) h)))

pub in-snaps : (image : List ℕ) (seen : Seen) (slot : ℕ) (namer : Namer) (bytes : List ℕ) (m : Naming) → In m (Snaps image seen slot bytes) → In m (volume_namings image seen slot namer bytes)
in-snaps image seen slot namer bytes m h =
    inr (in-right m (view_namings namer (live_view seen slot bytes) bytes) (Extents namer bytes ++ (Metadata namer bytes ++ Snaps image seen slot bytes))
    (in-right m (Extents namer bytes) (Metadata namer bytes ++ Snaps image seen slot bytes)
    (in-right m (Metadata namer bytes) (Snaps image seen slot bytes) h)))

-- a record of a snapshot names what it does in some view of its volume
abbrev pub HasRecordNamings : ℕ → List ℕ → Pair → List Naming → Type 0
HasRecordNamings slot bytes pair ms = (i : ℕ) × ((m : Naming) → In m (record_namings (past_view slot bytes i pair) (bytes_in pair.value)) → In m ms)

snapshot-in : (slot : ℕ) (bytes : List ℕ) (k : ℕ) (pairs : List Pair) (pair : Pair) → In pair pairs → is_snapshot_long pair ≡ true → HasRecordNamings slot bytes pair (snapshots_namings slot bytes k pairs)
snapshot-in slot bytes k [] pair h long = absurd h
snapshot-in slot bytes k (x ∷ xs) pair (inl e) long = (
  k,
  λ m h.
      in-left m (snapshot_namings slot bytes k x) (snapshots_namings slot bytes (suc k) xs)
      (subst (λ p. In m (snapshot_namings slot bytes k p)) e
      (subst (λ b. In m (if b then record_namings (past_view slot bytes k pair) (bytes_in pair.value) else [])) (sym long) h)),
)
snapshot-in slot bytes k (x ∷ xs) pair (inr h) long =
    let t = snapshot-in slot bytes (suc k) xs pair h long in
    (t.0, λ m g. in-right m (snapshot_namings slot bytes k x) (snapshots_namings slot bytes (suc k) xs) (t.1 m g))

-- the naming of a snapshot's superblock by its record
abbrev pub super_naming : ViewAt → Pair → Naming
super_naming view pair = naming (Kept view) 8 (SnapshotSuper view) ByBlock (snap_super_of (bytes_in pair.value))

-- what the record of a snapshot of a sound volume names is live
pub record-names : (image : List ℕ) (seen : Seen) (head : VolHead) (n : IsHeadNaming image seen head) → has_sound_super image (site_of seen) head ≡ true → (pair : Pair) →
    In pair (snapshot_pairs (metadata_of image (site_of seen) head)) → is_snapshot_long pair ≡ true → (i : ℕ) × ((m : Naming) → In m (record_namings (past_view head.slot (super_of image (site_of seen) head) i pair) (bytes_in pair.value)) → IsLive image seen m)
record-names image seen head n sound pair h long =
    let bytes : List ℕ = super_of image (site_of seen) head in
    let t = snapshot-in head.slot bytes 0 (records_of_snapshots image (site_of seen) bytes) pair h long in
    (t.0, λ m g. volume-names image seen head n sound m (in-snaps image seen head.slot (Whole n.object.object) bytes m (t.1 m g)))

-- a view of a volume is named: its root is, in a view of the volume's map
pub record IsViewNamed (image : List ℕ) (seen : Seen) (head : VolHead) (view : View) : Type 0 where
  pub at : ViewAt
  pub slot_is : at.slot ≡ view.slot
  pub xid_is : at.xid ≡ view.xid
  pub map_is : at.map ≡ map_block_of image (site_of seen) head
  pub hashed_is : at.hashed ≡ are_hashed (volume_of image seen head).names
  pub root : IsRootNaming image seen (Files at.hashed) (InView at) view.root_oid

live-named : (image : List ℕ) (seen : Seen) (head : VolHead) → IsHeadNaming image seen head → has_sound_super image (site_of seen) head ≡ true → IsViewNamed image seen head (live_of (volume_of image seen head) seen)
unfolding loaded_of
live-named image seen head n sound =
    let bytes : List ℕ = super_of image (site_of seen) head in
    let view : ViewAt = live_view seen head.slot bytes in
    let m : Naming = naming (Whole n.object.object) 136 (TreeRoot (Files view.hashed)) (InView view) (field.root_oid_of bytes) in
    record {
      at = view;
      slot_is = refl;
      xid_is = refl;
      map_is = refl;
      hashed_is = refl;
      root = record {
        naming = m;
        live = volume-names image seen head n sound m (in-views image seen head.slot (Whole n.object.object) bytes m (inl refl));
        expected_is = refl;
        how_is = refl;
        oid_is = refl;
      };
    }

-- a sound superblock of a snapshot names the root of its view
past-named : (image : List ℕ) (seen : Seen) (head : VolHead) → IsHeadNaming image seen head → has_sound_super image (site_of seen) head ≡ true → (pair : Pair) →
    In pair (snapshot_pairs (metadata_of image (site_of seen) head)) → has_super image (site_of seen) pair ≡ true → IsViewNamed image seen head (past_of (volume_of image seen head) (snapshot_in image (site_of seen) pair))
unfolding loaded_of snapshot_in has_super resolved
past-named image seen head n sound pair h has =
    let site : Site = site_of seen in
    let oid : ℕ = snap_super_of (bytes_in pair.value) in
    let long : is_snapshot_long pair ≡ true = left-true (is_snapshot_long pair) _ has in
    let rest : (is_some (in_container site.blocks oid) && is_super image site None oid) ≡ true = right-true (is_snapshot_long pair) _ has in
    let inside : in_container site.blocks oid ≡ Some oid = inside-itself site.blocks oid (left-true (is_some (in_container site.blocks oid)) _ rest) in
    let right : is_super image site None oid ≡ true = right-true (is_some (in_container site.blocks oid)) _ rest in
    let bytes : List ℕ = super_of image site head in
    let t = record-names image seen head n sound pair h long in
    let view : ViewAt = past_view head.slot bytes t.0 pair in
    let s : Naming = super_naming view pair in
    let live : IsLive image seen s = t.1 s (inl refl) in
    let f : Found = standing image site (InBlock oid) oid in
    let found : resolved image seen s ≡ Some f = ap (option_map (λ block. standing image site (InBlock block) block)) inside in
    let ok : is_ok (tested site (SnapshotSuper view) oid f.bytes) ≡ true = snapshot-tested image site view oid oid ∙ right in
    let m : Naming = naming (Whole f.object) 136 (TreeRoot (Files view.hashed)) (InView view) (field.root_oid_of f.bytes) in
    record {
      at = view;
      slot_is = refl;
      xid_is = refl;
      map_is = refl;
      hashed_is = refl;
      root = record {
        naming = m;
        live = led s m live (in-next image seen s m (record { object = f; found = found; sound = ok; names = inl refl }));
        expected_is = refl;
        how_is = refl;
        oid_is = refl;
      };
    }

-- each view of a sound volume that has a root is named
pub view-named : (image : List ℕ) (seen : Seen) (head : VolHead) → In head (heads_of image seen) → has_sound_super image (site_of seen) head ≡ true → (view : View) → In view (rooted_views image seen head) → IsViewNamed image seen head view
view-named image seen head one sound view (inl e) = subst (IsViewNamed image seen head) (sym e) (live-named image seen head (head-named image seen head one) sound)
view-named image seen head one sound view (inr h) =
    let pairs : List Pair = snapshot_pairs (metadata_of image (site_of seen) head) in
    let s = from-map (past_of (volume_of image seen head)) (sound_snapshots image (site_of seen) head) view h in
    let p = from-map (snapshot_in image (site_of seen)) (filter (has_super image (site_of seen)) pairs) s.0 s.1.0 in
    let has : has_super image (site_of seen) p.0 ≡ true = filter-test (has_super image (site_of seen)) p.0 pairs p.1.0 in
    let listed : In p.0 pairs = from-filter (has_super image (site_of seen)) p.0 pairs p.1.0 in
    subst (IsViewNamed image seen head) (sym (s.1.1 ∙ ap (past_of (volume_of image seen head)) p.1.1))
    (past-named image seen head (head-named image seen head one) sound p.0 listed has)
