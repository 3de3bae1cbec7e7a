-- The blocks that the volume's map gives for what is looked up in a view are those that a walk over the view finds.
use Rattle.std.proofs.Common.{◌≡◌, ℕ, zero, suc, ◌+◌, Bool, true, false, List, [], ◌∷◌, ◌++◌, map, Option, Some, None, ◌⊎◌, inl, inr, refl, ap, sym, ◌∙◌, subst, arith, if◌then◌else◌}
use Rattle.std.specs.Prelude.{◌↔◌, slice_get, option_and_then}
use Rattle.apfs_model.specs.Blocks.{in_container}
use Rattle.apfs_model.specs.Lists.{In}
use Rattle.apfs_model.proofs.Inside.{inside-same}
use Rattle.apfs_model.proofs.Searches.{in-left, in-right, in-map, from-map, in-filter, from-filter}
use Rattle.obj_base.specs.declared.site.Site.{Site}
use Rattle.bt_node.specs.Shape.{Shape}
use Rattle.bt_node.specs.declared.node.NodeAt.{NodeAt}
use Rattle.bt_keys.specs.Shapes.{FsKey, FsPlainKey, fs_shape, fs_plain_shape}
use Rattle.bt_cursor.specs.Tree.{Tree}
use Rattle.bt_cursor.specs.Met.{IsMet, places_of, nodes_of, has_node, is_walkable}
use Rattle.bt_cursor.proofs.Places.{tree-levelled, places-met, walkable-met}
use Rattle.nx_ring.specs.Checkpoint.{Seen, site_of}
use Rattle.omap_map.specs.Maps.{Contents, map_records, is_whole_map}
use Rattle.omap_map.specs.Loading.{named_in}
use Rattle.omap_map.specs.Resolve.{named_by, resolve}
use Rattle.omap_map.specs.declared.records.OmapRecord.{OmapRecord}
use Rattle.omap_map.specs.declared.records.Place.{Place}
use Rattle.fs_name.specs.Normal.{are_hashed}
use Rattle.vol_view.specs.Heads.{heads_of}
use Rattle.vol_view.specs.Volumes.{Loaded}
use Rattle.vol_view.specs.Views.{view_named, view_tree, hashed_tree, plain_tree, is_view_walkable}
use Rattle.vol_view.specs.Placed.{view_nodes}
use Rattle.vol_view.specs.declared.volume.Snapshot.{Snapshot}
use Rattle.reach_rules.specs.declared.naming.ViewAt.{ViewAt}
use Rattle.reach_rules.specs.declared.naming.LookUp.TheVariants.{ByBlock, InView}
use Rattle.reach_rules.specs.declared.naming.Namer.{Namer}
use Rattle.reach_rules.specs.declared.naming.TreeKind.TheVariants.{ExtentRefs, SnapMetadata, Files}
use Rattle.reach_rules.specs.declared.naming.Expected.TheVariants.{ExtendedMetadata, TreeRoot}
use Rattle.reach_rules.specs.declared.naming.Naming.{Naming}
use Rattle.reach_rules.specs.Naming.{naming}
use Rattle.reach_rules.specs.Resolved.{Found, resolved, found_by, found_virtual}
use Rattle.reach_rules.specs.Next.{unless_zero}
use Rattle.reach_rules.specs.Live.{IsLive, led}
use Rattle.reach_rules.proofs.Nexts.{in-unless}
use Rattle.reach_rules.proofs.Walks.{Matches, IsWalkOf, IsNamedAt, IsRootNaming, met-named}
use Rattle.reach_rules.proofs.Looks.{virtual-match}
use Rattle.reach_gather.specs.Volumes.Told.{head_naming, map_of, live_at, past_at, told_view, told_snapshot, told_snapshots, told_volume, past_view_of, super_naming}
use Rattle.reach_gather.specs.Volumes.Parts.{volume_namer, IsVolumePart}
use Rattle.reach_gather.proofs.VolumeLemmas.Law.{head-live}
use Rattle.use_report.specs.Files.{IsNamedBlock, IsMetadataBlock}
use Rattle.use_report.specs.Given.{IsGiven}
use Rattle.use_report.specs.Held.{IsRecordHeld}
use Rattle.use_report.specs.Views.{live_kept, past_kept, views_kept, at_of}
use Rattle.use_report.specs.declared.kept.KeptView.{KeptView}
use Rattle.use_report.proofs.Viewed.{namer_of, part, names_of, past-at, matched, viewed}

-- ---- look-ups
-- through a whole map an id names what its records say
named-whole : (image : List ℕ) (site : Site) (block x oid : ℕ) → is_whole_map image site block ≡ true → named_by (map_records image site block) x site.blocks oid ≡ named_in image site block x oid
unfolding named_in
named-whole image site block x oid w = sym (ap (λ b. if b then named_by (map_records image site block) x site.blocks oid else None) w)

named-view : (image : List ℕ) (seen : Seen) (volume : Loaded) → IsGiven image seen volume → (kept : KeptView) (oid : ℕ) → view_named (site_of seen) volume kept.view oid ≡ named_in image (site_of seen) (map_of volume) kept.view.xid oid
named-view image seen volume given kept oid =
    let p : IsVolumePart image seen volume.head volume = part image seen volume given in
    ap (λ (rs : List OmapRecord). named_by rs kept.view.xid (site_of seen).blocks oid) (ap (λ (m : Contents). m.records) p.contents)
    ∙ named-whole image (site_of seen) (map_of volume) kept.view.xid oid p.map.whole

-- what an id names is a block of the container
inside-some : (blocks : ℕ) (o : Option Place) (block : ℕ) → option_and_then (λ (p : Place). in_container blocks p.block) o ≡ Some block → in_container blocks block ≡ Some block
inside-some blocks None block e = absurd (let z : ◌≡◌ {A = Option ℕ} None (Some block) = e in let q : ⊥ = cc in q)
inside-some blocks (Some p) block e = ap (in_container blocks) (inside-same blocks p.block block e) ∙ e

pub named-inside : (site : Site) (volume : Loaded) (kept : KeptView) (oid block : ℕ) → view_named site volume kept.view oid ≡ Some block → in_container site.blocks block ≡ Some block
unfolding named_by
named-inside site volume kept oid block e = inside-some site.blocks (resolve volume.omap.records oid kept.view.xid) block e

pub and-inside : (blocks : ℕ) (o : Option ℕ) (block : ℕ) → option_and_then (in_container blocks) o ≡ Some block → o ≡ Some block
and-inside blocks None block e = e
and-inside blocks (Some c) block e = ap Some (sym (inside-same blocks c block e))

view-match : (image : List ℕ) (seen : Seen) (volume : Loaded) → IsGiven image seen volume → (kept : KeptView) (oid : ℕ) → Matches image (site_of seen) (found_virtual image (site_of seen) (map_of volume) kept.view.xid oid) (option_and_then (in_container (site_of seen).blocks) (view_named (site_of seen) volume kept.view oid))
view-match image seen volume given kept oid =
    let site : Site = site_of seen in
    subst (λ o. Matches image site (found_virtual image site (map_of volume) kept.view.xid oid) (option_and_then (in_container site.blocks) o)) (sym (named-view image seen volume given kept oid)) (virtual-match image site (map_of volume) kept.view.xid oid)

pub hashed-walk : (image : List ℕ) (seen : Seen) (volume : Loaded) → IsGiven image seen volume → (kept : KeptView) → IsWalkOf image seen (Files true) (InView (at_of volume kept)) fs_shape (view_named (site_of seen) volume kept.view)
hashed-walk image seen volume given kept = record { answer = λ at bytes. refl; kids = λ bytes. refl; found = λ e oid s. view-match image seen volume given kept oid }

pub plain-walk : (image : List ℕ) (seen : Seen) (volume : Loaded) → IsGiven image seen volume → (kept : KeptView) → IsWalkOf image seen (Files false) (InView (at_of volume kept)) fs_plain_shape (view_named (site_of seen) volume kept.view)
plain-walk image seen volume given kept = record { answer = λ at bytes. refl; kids = λ bytes. refl; found = λ e oid s. view-match image seen volume given kept oid }

-- what a naming of a view resolves to stands in the block that its id names
pub resolved-block : (image : List ℕ) (seen : Seen) (volume : Loaded) → IsGiven image seen volume → (kept : KeptView) (n : Naming) (f : Found) → n.how ≡ InView (at_of volume kept) → resolved image seen n ≡ Some f → view_named (site_of seen) volume kept.view n.oid ≡ Some f.block
unfolding resolved
resolved-block image seen volume given kept n f how found =
    let site : Site = site_of seen in
    let by : found_virtual image site (map_of volume) kept.view.xid n.oid ≡ Some f = sym (ap (λ h. found_by image seen h n.expected n.oid) how) ∙ found in
    let m = subst (λ x. Matches image site x (option_and_then (in_container site.blocks) (view_named site volume kept.view n.oid))) by (view-match image seen volume given kept n.oid) in
    and-inside site.blocks (view_named site volume kept.view n.oid) f.block (matched image site f (option_and_then (in_container site.blocks) (view_named site volume kept.view n.oid)) m).0

-- and an id that names a block is found there
found-at : (image : List ℕ) (site : Site) (o : Option Found) (block : ℕ) → Matches image site o (Some block) → (f : Found) × ((o ≡ Some f) × (f.block ≡ block))
found-at image site None block m = absurd m
found-at image site (Some f) block m = (f, (refl, m.0))

block-found : (image : List ℕ) (seen : Seen) (volume : Loaded) → IsGiven image seen volume → (kept : KeptView) (n : Naming) (block : ℕ) → n.how ≡ InView (at_of volume kept) → view_named (site_of seen) volume kept.view n.oid ≡ Some block → (f : Found) × ((resolved image seen n ≡ Some f) × (f.block ≡ block))
unfolding resolved
block-found image seen volume given kept n block how named =
    let site : Site = site_of seen in
    let both : option_and_then (in_container site.blocks) (view_named site volume kept.view n.oid) ≡ Some block = ap (option_and_then (in_container site.blocks)) named ∙ named-inside site volume kept n.oid block named in
    let m = subst (λ o. Matches image site (found_virtual image site (map_of volume) kept.view.xid n.oid) o) both (view-match image seen volume given kept n.oid) in
    let t = found-at image site (found_virtual image site (map_of volume) kept.view.xid n.oid) block m in
    (t.0, (ap (λ h. found_by image seen h n.expected n.oid) how ∙ t.1.0, t.1.1))

-- ---- what a view's superblock names is live
in-snapshots : (slot map : ℕ) (hashed : Bool) (i k : ℕ) (snapshots : List Snapshot) (snapshot : Snapshot) → slice_get snapshots k ≡ Some snapshot → (n : Naming) → In n (told_snapshot (past_at slot map hashed (i + k) snapshot) snapshot) → In n (told_snapshots slot map hashed i snapshots)
in-snapshots slot map hashed i k [] snapshot e n h = absurd (let z : ◌≡◌ {A = Option Snapshot} None (Some snapshot) = e in let q : ⊥ = cc in q)
in-snapshots slot map hashed i zero (x ∷ xs) snapshot e n h =
    let z : ◌≡◌ {A = Option Snapshot} (Some x) (Some snapshot) = e in
    let same : snapshot ≡ x = cc in
    let none : i + 0 ≡ i = omega arith in
    let here : In n (told_snapshot (past_at slot map hashed i snapshot) snapshot) = subst (λ j. In n (told_snapshot (past_at slot map hashed j snapshot) snapshot)) none h in
    in-left n (told_snapshot (past_at slot map hashed i x) x) (told_snapshots slot map hashed (suc i) xs) (subst (λ (s : Snapshot). In n (told_snapshot (past_at slot map hashed i s) s)) same here)
in-snapshots slot map hashed i (suc k) (x ∷ xs) snapshot e n h =
    let more : i + suc k ≡ suc i + k = omega arith in
    let later : In n (told_snapshot (past_at slot map hashed (suc i + k) snapshot) snapshot) = subst (λ j. In n (told_snapshot (past_at slot map hashed j snapshot) snapshot)) more h in
    in-right n (told_snapshot (past_at slot map hashed i x) x) (told_snapshots slot map hashed (suc i) xs) (in-snapshots slot map hashed (suc i) k xs snapshot e n later)

-- what is told of a volume is live
pub volume-live : (image : List ℕ) (seen : Seen) (volume : Loaded) (given : IsGiven image seen volume) (n : Naming) → In n (told_volume seen (volume_namer seen (part image seen volume given).mapping) volume) → IsLive image seen n
volume-live image seen volume given n h =
    led (head_naming volume.head) n (head-live image seen (heads_of image seen) volume.head (record { right = given.heads; same = refl }) given.one) (subst (λ (ns : List Naming). In n ns) (sym (part image seen volume given).leads) h)

-- and so is what the record of a snapshot names
pub snapshot-live : (image : List ℕ) (seen : Seen) (volume : Loaded) → IsGiven image seen volume → (k : ℕ) (snapshot : Snapshot) → slice_get volume.snaps k ≡ Some snapshot → (n : Naming) → In n (told_snapshot (past_view_of volume k snapshot) snapshot) → IsLive image seen n
snapshot-live image seen volume given k snapshot found n h =
    let me : Namer = volume_namer seen (part image seen volume given).mapping in
    let map : ℕ = map_of volume in
    let hashed : Bool = are_hashed volume.names in
    let lives : List Naming = told_view me (live_at seen volume.head.slot map hashed) volume.root_oid volume.meta_ext in
    let extents : List Naming = unless_zero me 144 (TreeRoot ExtentRefs) ByBlock volume.extents_root in
    let metadata : List Naming = unless_zero me 152 (TreeRoot SnapMetadata) ByBlock volume.snaps_root in
    let snaps : List Naming = told_snapshots volume.head.slot map hashed 0 volume.snaps in
    let none : k ≡ 0 + k = omega arith in
    let there : In n snaps = in-snapshots volume.head.slot map hashed 0 k volume.snaps snapshot found n (subst (λ j. In n (told_snapshot (past_at volume.head.slot map hashed j snapshot) snapshot)) none h) in
    volume-live image seen volume given n (inr (in-right n lives (extents ++ (metadata ++ snaps)) (in-right n extents (metadata ++ snaps) (in-right n metadata snaps there))))

-- what the superblock of a view names is live
live-roots : (image : List ℕ) (seen : Seen) (volume : Loaded) (given : IsGiven image seen volume) (n : Naming) → In n (names_of image seen volume given (live_kept volume seen)) → IsLive image seen n
live-roots image seen volume given n h =
    let me : Namer = volume_namer seen (part image seen volume given).mapping in
    let view : ViewAt = at_of volume (live_kept volume seen) in
    let rest : List Naming = unless_zero me 144 (TreeRoot ExtentRefs) ByBlock volume.extents_root ++ (unless_zero me 152 (TreeRoot SnapMetadata) ByBlock volume.snaps_root ++ told_snapshots volume.head.slot (map_of volume) (are_hashed volume.names) 0 volume.snaps) in
    volume-live image seen volume given n (inr (in-left n (told_view me view volume.root_oid volume.meta_ext) rest h))

past-roots : (image : List ℕ) (seen : Seen) (volume : Loaded) (given : IsGiven image seen volume) (k : ℕ) (snapshot : Snapshot) → slice_get volume.snaps k ≡ Some snapshot → (n : Naming) → In n (names_of image seen volume given (past_kept volume k snapshot)) → IsLive image seen n
past-roots image seen volume given k snapshot found n h =
    let p : IsVolumePart image seen volume.head volume = part image seen volume given in
    let s : Naming = super_naming volume k snapshot in
    led s n (snapshot-live image seen volume given k snapshot found s (inl refl)) (subst (λ (ns : List Naming). In n ns) (sym (p.snapshots k snapshot found).leads) h)

pub view-roots : (image : List ℕ) (seen : Seen) (volume : Loaded) (given : IsGiven image seen volume) (kept : KeptView) → In kept (views_kept volume seen) → (n : Naming) → In n (names_of image seen volume given kept) → IsLive image seen n
view-roots image seen volume given kept (inl e) n h = live-roots image seen volume given n (subst (λ (k : KeptView). In n (names_of image seen volume given k)) e h)
view-roots image seen volume given kept (inr p) n h =
    let t = past-at volume 0 volume.snaps kept p in
    let none : 0 + t.k ≡ t.k = omega arith in
    past-roots image seen volume given t.k t.snapshot t.found n (subst (λ (k : KeptView). In n (names_of image seen volume given k)) (t.same ∙ ap (λ j. past_kept volume j t.snapshot) none) h)

-- the root of a view is named
pub view-root : (image : List ℕ) (seen : Seen) (volume : Loaded) → IsGiven image seen volume → (kept : KeptView) → In kept (views_kept volume seen) → IsRootNaming image seen (Files (are_hashed volume.names)) (InView (at_of volume kept)) kept.view.root_oid
view-root image seen volume given kept one =
    let namer : Namer = namer_of (volume_namer seen (part image seen volume given).mapping) kept.super_block in
    let n : Naming = naming namer 136 (TreeRoot (Files (are_hashed volume.names))) (InView (at_of volume kept)) kept.view.root_oid in
    record { naming = n; live = view-roots image seen volume given kept one n (inl refl); expected_is = refl; how_is = refl; oid_is = refl }

-- ---- both ways
-- a block of a node that a walk meets
abbrev IsMetBlock : {K : Type 0} → List ℕ → Seen → Loaded → KeptView → Shape K → ℕ → Type 0
IsMetBlock image seen volume kept shape block = (at : NodeAt) × (IsMet (view_tree shape image (site_of seen) volume kept.view) kept.view.root_oid at × (view_named (site_of seen) volume kept.view at.oid ≡ Some block))

record-met : {K : Type 0} (image : List ℕ) (seen : Seen) (volume : Loaded) (kept : KeptView) (shape : Shape K) (block : ℕ) → IsGiven image seen volume → In kept (views_kept volume seen) → IsWalkOf image seen (Files (are_hashed volume.names)) (InView (at_of volume kept)) shape (view_named (site_of seen) volume kept.view) →
    IsRecordHeld image seen volume kept block → IsMetBlock image seen volume kept shape block ⊎ IsMetadataBlock (site_of seen) volume kept block
record-met image seen volume kept shape block given one walk held =
    let site : Site = site_of seen in
    let n : Naming = held.naming in
    let named : view_named site volume kept.view n.oid ≡ Some block = resolved-block image seen volume given kept n held.object held.in_view held.names.found ∙ ap Some held.block_is in
    elim (viewed image seen volume given kept one shape (view_named site volume kept.view) walk n held.names.live held.in_view) as (λ _. IsMetBlock image seen volume kept shape block ⊎ IsMetadataBlock site volume kept block) [
      | inl p ↦ inl (p.0, (p.1.0, ap (view_named site volume kept.view) (sym p.1.1.0) ∙ named))
      | inr t ↦ inr (t.1.1, ap (view_named site volume kept.view) (sym t.1.0) ∙ named)
    ]

met-record : {K : Type 0} (image : List ℕ) (seen : Seen) (volume : Loaded) (kept : KeptView) (shape : Shape K) (block : ℕ) → IsGiven image seen volume → In kept (views_kept volume seen) → IsWalkOf image seen (Files (are_hashed volume.names)) (InView (at_of volume kept)) shape (view_named (site_of seen) volume kept.view) →
    IsMetBlock image seen volume kept shape block → IsRecordHeld image seen volume kept block
met-record image seen volume kept shape block given one walk (at, (met, named)) =
    let site : Site = site_of seen in
    let hashed : Bool = are_hashed volume.names in
    let root = view-root image seen volume given kept one in
    let m : IsNamedAt image seen (Files hashed) (InView (at_of volume kept)) at = met-named image seen (Files hashed) (InView (at_of volume kept)) shape (view_named site volume kept.view) walk kept.view.root_oid root at met in
    let t = block-found image seen volume given kept m.naming block m.how_is (ap (view_named site volume kept.view) m.oid_is ∙ named) in
    record { naming = m.naming; object = t.0; names = record { live = m.live; found = t.1.0 }; in_view = m.how_is; block_is = t.1.1 }

metadata-record : (image : List ℕ) (seen : Seen) (volume : Loaded) (kept : KeptView) (block : ℕ) → IsGiven image seen volume → In kept (views_kept volume seen) → IsMetadataBlock (site_of seen) volume kept block → IsRecordHeld image seen volume kept block
metadata-record image seen volume kept block given one (some, named) =
    let namer : Namer = namer_of (volume_namer seen (part image seen volume given).mapping) kept.super_block in
    let how = InView (at_of volume kept) in
    let n : Naming = naming namer 1000 ExtendedMetadata how kept.meta_ext in
    let t = block-found image seen volume given kept n block refl named in
    record { naming = n; object = t.0; names = record { live = view-roots image seen volume given kept one n (inr (in-unless namer 1000 ExtendedMetadata how kept.meta_ext some)); found = t.1.0 }; in_view = refl; block_is = t.1.1 }

-- the nodes that are met, as a list of ids
met-named-block : {K : Type 0} (image : List ℕ) (seen : Seen) (volume : Loaded) (kept : KeptView) (shape : Shape K) (oids : List ℕ) (block : ℕ) → is_walkable (view_tree shape image (site_of seen) volume kept.view) kept.view.root_oid ≡ true →
    oids ≡ map (λ (at : NodeAt). at.oid) (nodes_of (view_tree shape image (site_of seen) volume kept.view) kept.view.root_oid) → IsMetBlock image seen volume kept shape block ↔ IsNamedBlock (site_of seen) volume kept.view oids block
met-named-block image seen volume kept shape oids block all same =
    let site : Site = site_of seen in
    let tree = view_tree shape image site volume kept.view in
    let root : ℕ = kept.view.root_oid in
    let level = tree-levelled shape site (view_named site volume kept.view) image in
    let places = places-met tree root level in (
      (λ m.
          let at : NodeAt = m.0 in
          let listed : In at (nodes_of tree root) = in-filter (has_node tree) at (places_of tree root) (places.1 at m.1.0) (walkable-met tree root level all at m.1.0) in
          (at.oid, subst (λ (xs : List ℕ). In at.oid xs) (sym same) (in-map (λ (x : NodeAt). x.oid) (nodes_of tree root) at listed), m.1.1)),
      (λ b.
          let t = from-map (λ (x : NodeAt). x.oid) (nodes_of tree root) b.0 (subst (λ (xs : List ℕ). In b.0 xs) same b.1) in
          (t.0, (places.0 t.0 (from-filter (has_node tree) t.0 (places_of tree root) t.1.0), ap (view_named site volume kept.view) (sym t.1.1) ∙ b.2))),
    )

both : {K : Type 0} (image : List ℕ) (seen : Seen) (volume : Loaded) (kept : KeptView) (shape : Shape K) (oids : List ℕ) (block : ℕ) → IsGiven image seen volume → In kept (views_kept volume seen) → IsWalkOf image seen (Files (are_hashed volume.names)) (InView (at_of volume kept)) shape (view_named (site_of seen) volume kept.view) →
    is_walkable (view_tree shape image (site_of seen) volume kept.view) kept.view.root_oid ≡ true → oids ≡ map (λ (at : NodeAt). at.oid) (nodes_of (view_tree shape image (site_of seen) volume kept.view) kept.view.root_oid) →
    IsRecordHeld image seen volume kept block ↔ (IsNamedBlock (site_of seen) volume kept.view oids block ⊎ IsMetadataBlock (site_of seen) volume kept block)
both image seen volume kept shape oids block given one walk all same =
    let m = met-named-block image seen volume kept shape oids block all same in
    let There : Type 0 = IsNamedBlock (site_of seen) volume kept.view oids block ⊎ IsMetadataBlock (site_of seen) volume kept block in (
      (λ held. elim (record-met image seen volume kept shape block given one walk held) as (λ _. There) [ inl k ↦ inl (m.0 k) | inr k ↦ inr k ]),
      (λ there. elim there as (λ _. IsRecordHeld image seen volume kept block) [
        | inl k ↦ met-record image seen volume kept shape block given one walk (m.1 k)
        | inr k ↦ metadata-record image seen volume kept block given one k
      ]),
    )

-- what the volume's map gives for what is looked up in a view: the blocks of its nodes, and that of its extended metadata
pub record-walked : (image : List ℕ) (seen : Seen) (volume : Loaded) (kept : KeptView) (oids : List ℕ) (block : ℕ) → IsGiven image seen volume → In kept (views_kept volume seen) → is_view_walkable image (site_of seen) volume kept.view ≡ true →
    oids ≡ map (λ (at : NodeAt). at.oid) (view_nodes image (site_of seen) volume kept.view) → IsRecordHeld image seen volume kept block ↔ (IsNamedBlock (site_of seen) volume kept.view oids block ⊎ IsMetadataBlock (site_of seen) volume kept block)
unfolding is_view_walkable view_nodes
record-walked image seen volume kept oids block given one all same =
    let site : Site = site_of seen in
    let root : ℕ = kept.view.root_oid in
    let hashed : Tree FsKey = hashed_tree image site volume kept.view in
    let plain : Tree FsPlainKey = plain_tree image site volume kept.view in
    let Goal : Type 0 = IsRecordHeld image seen volume kept block ↔ (IsNamedBlock site volume kept.view oids block ⊎ IsMetadataBlock site volume kept block) in
    let go : (b : Bool) → are_hashed volume.names ≡ b → (if b then is_walkable hashed root else is_walkable plain root) ≡ true → oids ≡ map (λ (at : NodeAt). at.oid) (if b then nodes_of hashed root else nodes_of plain root) → Goal =
    λ b. elim b as (λ b. are_hashed volume.names ≡ b → (if b then is_walkable hashed root else is_walkable plain root) ≡ true → oids ≡ map (λ (at : NodeAt). at.oid) (if b then nodes_of hashed root else nodes_of plain root) → Goal) [
      | true ↦ λ h w s.
          let walk = subst (λ x. IsWalkOf image seen (Files x) (InView (at_of volume kept)) fs_shape (view_named site volume kept.view)) (sym h) (hashed-walk image seen volume given kept) in
          both image seen volume kept fs_shape oids block given one walk w s
      | false ↦ λ h w s.
          let walk = subst (λ x. IsWalkOf image seen (Files x) (InView (at_of volume kept)) fs_plain_shape (view_named site volume kept.view)) (sym h) (plain-walk image seen volume given kept) in
          both image seen volume kept fs_plain_shape oids block given one walk w s
    ] in
    go (are_hashed volume.names) refl all same
