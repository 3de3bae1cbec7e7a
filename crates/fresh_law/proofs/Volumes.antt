-- The one volume: its head, its snapshots, its view and its data.
use Rattle.std.proofs.Common.{arith, ◌≡◌, ℕ, ◌-◌, ◌<◌, ◌≤◌, true, List, [], ◌∷◌, map, filter, Option, Some, None, inl, inr, refl, ap, sym, ◌∙◌, subst, if◌then◌else◌}
use Rattle.std.specs.Prelude.{filter_map, flat_map, option_map, option_and_then, codes}
use Rattle.std.specs.List.{range_with_len}
use Rattle.apfs_model.specs.Blocks.{in_container}
use Rattle.apfs_model.specs.Lists.{In}
use Rattle.apfs_model.proofs.BoolTests.{from-range}
use Rattle.obj_base.specs.declared.site.Site.{Site}
use Rattle.bt_keys.specs.Shapes.{fs_shape}
use Rattle.bt_cursor.specs.Order.{is_ordered}
use Rattle.bt_cursor.specs.declared.step.Step.{Step}
use Rattle.fs_name.specs.declared.naming.Names.{Names}
use Rattle.fs_name.specs.declared.naming.Names.TheVariants.{Folded}
use Rattle.fs_name.specs.Normal.{names_of}
use Rattle.nx_block.specs.Super.{fs_oid_of, omap_oid_of}
use Rattle.nx_ring.specs.Checkpoint.{site_of}
use Rattle.omap_map.specs.Fields.{snap_count_of}
use Rattle.omap_map.specs.Maps.{Contents, contents_of, map_snapshots, is_whole_map, resolved_in}
use Rattle.omap_map.specs.Resolve.{place_of, latest, resolved, resolve, named_by}
use Rattle.omap_map.specs.declared.records.OmapRecord.{OmapRecord}
use Rattle.omap_map.specs.declared.records.Place.{Place}
use Rattle.vol_view.specs.Fields as volumes
use Rattle.vol_view.specs.Heads.{super_in, volume_place, head_of, head_for, head_at, heads_of}
use Rattle.vol_view.specs.SnapRecords.{metadata_pairs, metadata_steps, snapshot_pairs}
use Rattle.vol_view.specs.Volumes.{Loaded, super_of, map_block_of, metadata_of, metadata_steps_of, map_or_empty, empty_map, snapshots_in, snapshot_in, loaded_by, loaded_of}
use Rattle.vol_view.specs.Agreement.{are_readable, is_snap_count, are_named, are_map_snapshots, Agree}
use Rattle.vol_view.specs.LoadStops.{counted_snapshots, map_count, map_xids}
use Rattle.vol_view.specs.Views.{live_of, views_of, view_named, hashed_tree, view_flat, view_line, is_view_walkable, is_view_counted}
use Rattle.vol_view.specs.declared.head.VolHead.{VolHead}
use Rattle.vol_view.specs.declared.volume.View.{View}
use Rattle.ext_ref.specs.Ranges.{ranges_of}
use Rattle.ext_ref.specs.Unreached.{unreached_runs}
use Rattle.view_rules.specs.Facts.{facts_in}
use Rattle.view_rules.specs.Rules.{view_facts, HasRecords, HasFactRules, HasTreeRules}
use Rattle.view_rules.specs.declared.profile.Profile.{Profile}
use Rattle.path_search.specs.Listing.{listing}
use Rattle.apfs_check.specs.Volumes.{volume_of, volume_ranges, volume_extents, past_extents_roots}
use Rattle.apfs_check.specs.Data.{unreached_in, is_miscounted, miscounted_in, has_no_snapshots, HasRightData}
use Rattle.apfs_check.specs.WellFormed.{HasAgreement, HasViewRules, IsRightVolume}
use Rattle.img_format.specs.declared.spec.Spec.{Spec}
use Rattle.img_format.specs.Valid.{IsValid}
use Rattle.img_format.specs.Blocks.{file_entries}
use Rattle.fresh_law.specs.Site.{block_at, site}
use Rattle.fresh_law.specs.Checkpoint.{seen}
use Rattle.fresh_law.specs.Facts.{IsVolume, IsFresh}
use Rattle.fresh_law.specs.Law.{HasEmptyRoot}
use Rattle.fresh_law.proofs.Leaves.{IsLeaf, leaf_items, leaf-flat, leaf-line, leaf-walkable, leaf-counted}
use Rattle.fresh_law.proofs.Sites.{site-is, inside}
use Rattle.fresh_law.proofs.Maps.{leaf-in, container-map, volume-map}
use Rattle.fresh_law.proofs.Rows.{later-slot, no-metadata}
use Rattle.fresh_law.proofs.Owned.{no-ranges}
use Rattle.fresh_law.proofs.Files.{pairs, told, facts-are, line-ordered, records-right, rules, root-empty}

-- ---- the head
abbrev pub head : Spec → VolHead
head spec = record { slot = 0; oid = 1026; block = 51; uuid = spec.volume; role = 0; incompat = 1; snapshots = 0; name = spec.name }

head-by : (u n : List ℕ) (r i s : ℕ) (spec : Spec) → u ≡ spec.volume → r ≡ 0 → i ≡ 1 → s ≡ 0 → n ≡ spec.name → ◌≡◌ {A = VolHead} (record { slot = 0; oid = 1026; block = 51; uuid = u; role = r; incompat = i; snapshots = s; name = n }) (head spec)
head-by u n r i s spec a b c d e = cc

head-is : (spec : Spec) (bytes : List ℕ) → IsVolume spec bytes → head_of 0 1026 51 bytes ≡ head spec
head-is spec bytes v = head-by _ _ _ _ _ spec v.uuid v.role v.incompat v.snapshots v.name

first-head : (spec : Spec) (image : List ℕ) → IsValid spec → IsFresh spec image → head_at image (seen image) 0 ≡ Some (head spec)
unfolding head_at volume_place
first-head spec image v f =
    ap (λ oid. head_for image (seen image) 0 oid) f.newest.first_volume
    ∙ ap (λ (s : Site). head_through s (resolved_in image s (omap_oid_of (block_at image 2)) 1026 1)) (site-is spec image f)
    ∙ ap (λ m. head_through (site spec) (resolved_in image (site spec) m 1026 1)) f.newest.omap
    ∙ ap (head_through (site spec)) (container-map spec image v f).resolved
    ∙ ap (option_map (λ block. head_of 0 1026 block (super_in image (site spec) block))) (inside spec v 51 (omega arith) (omega arith))
    ∙ ap Some (head-is spec (block_at image 51) f.volume)
  where
    head_through : Site → Option OmapRecord → Option VolHead
    head_through s o = option_map (λ block. head_of 0 1026 block (super_in image s block)) (option_and_then (λ (place : Place). in_container s.blocks place.block) (option_map place_of o))

first-kept : {X Y : Type 0} (f : X → Option Y) (x : X) (xs : List X) (y : Y) → f x ≡ Some y → filter_map f (x ∷ xs) ≡ y ∷ filter_map f xs
first-kept f x xs y e = rw e

none-map : {X Y : Type 0} (f : X → Option Y) (xs : List X) → ((x : X) → In x xs → f x ≡ None) → filter_map f xs ≡ []
none-map f [] h = refl
none-map f (x ∷ xs) h = rw (h x (inl refl)) (none-map f xs (λ y k. h y (inr k)))

no-head : (spec : Spec) (image : List ℕ) → IsFresh spec image → (k : ℕ) → In k (range_with_len 1 99) → head_at image (seen image) k ≡ None
unfolding head_at
no-head spec image f k h =
    let low : 1 ≤ k = later-slot 1 99 k h in
    let high : k < 100 = from-range 1 99 k h in
    let none : fs_oid_of (block_at image 2) k ≡ 0 = subst (λ j. fs_oid_of (block_at image 2) j ≡ 0) (omega arith) (f.newest.no_volume (k - 1) (omega arith)) in
    ap (λ oid. head_for image (seen image) k oid) none

pub heads-are : (spec : Spec) (image : List ℕ) → IsValid spec → IsFresh spec image → heads_of image (seen image) ≡ head spec ∷ []
unfolding heads_of
heads-are spec image v f =
    first-kept (head_at image (seen image)) 0 (range_with_len 1 99) (head spec) (first-head spec image v f)
    ∙ ap (λ hs. head spec ∷ hs) (none-map (head_at image (seen image)) (range_with_len 1 99) (no-head spec image f))

-- ---- what is loaded
abbrev pub loaded : Spec → List ℕ → Loaded
loaded spec image = record {
  head = head spec;
  omap = contents_of image (site spec) 52;
  names = Folded;
  root_oid = 1028;
  extents_root = 55;
  snaps_root = 56;
  snaps_steps = metadata_steps image (site spec) 56;
  meta_ext = 0;
  snaps = [];
}

loaded-by : (spec : Spec) (image bytes : List ℕ) (omap : Contents) (steps : List Step) → IsVolume spec bytes → omap ≡ contents_of image (site spec) 52 → steps ≡ metadata_steps image (site spec) 56 → loaded_by (head spec) bytes omap steps [] ≡ loaded spec image
loaded-by spec image bytes omap steps v e taken =
    let names : names_of (volumes.incompat_of bytes) ≡ Folded = ap names_of v.incompat in
    by _ _ _ _ _ _ _ e names v.root v.extents v.snaps taken v.meta_ext
  where
    by : (o : Contents) (n : Names) (r x s : ℕ) (ts : List Step) (m : ℕ) → o ≡ contents_of image (site spec) 52 → n ≡ Folded → r ≡ 1028 → x ≡ 55 → s ≡ 56 → ts ≡ metadata_steps image (site spec) 56 → m ≡ 0 → ◌≡◌ {A = Loaded} (record { head = head spec; omap = o; names = n; root_oid = r; extents_root = x; snaps_root = s; snaps_steps = ts; meta_ext = m; snaps = [] }) (loaded spec image)
    by o n r x s ts m a b c d g t h = cc

map-there : (spec : Spec) (image : List ℕ) → IsValid spec → IsFresh spec image → map_or_empty image (site spec) (volumes.omap_oid_of (block_at image 51)) ≡ contents_of image (site spec) 52
unfolding map_or_empty
map-there spec image v f =
    ap (λ k. if is_whole_map image (site spec) k then contents_of image (site spec) k else empty_map) f.volume.omap
    ∙ ap (λ b. if b then contents_of image (site spec) 52 else empty_map) (volume-map spec image v f).whole

pub loaded-is : (spec : Spec) (image : List ℕ) → IsValid spec → IsFresh spec image → volume_of image (seen image) (head spec) ≡ loaded spec image
unfolding loaded_of
loaded-is spec image v f =
    ap (λ s. loaded_by (head spec) (super_of image s (head spec)) (map_or_empty image s (map_block_of image s (head spec))) (metadata_steps_of image s (head spec)) (snapshots_in image s (head spec))) (site-is spec image f)
    ∙ ap (λ ps. loaded_by (head spec) (block_at image 51) (map_or_empty image (site spec) (volumes.omap_oid_of (block_at image 51))) (metadata_steps image (site spec) (volumes.snaps_root_of (block_at image 51))) (map (snapshot_in image (site spec)) (snapshot_pairs ps))) (no-metadata spec image v f)
    ∙ loaded-by spec image (block_at image 51) _ _ f.volume (map-there spec image v f) (ap (metadata_steps image (site spec)) f.volume.snaps)

-- ---- its snapshots
agree-none : Agree 0 0 [] []
unfolding are_readable is_snap_count are_named are_map_snapshots
agree-none = record { readable = refl; counted = refl; named = refl; mapped = refl }

agreed : (spec : Spec) (image : List ℕ) → IsValid spec → IsFresh spec image → HasAgreement image (seen image) (head spec)
agreed spec image v f =
    let m = volume-map spec image v f in
    let b = block_at image 51 in
    let count : snap_count_of (block_at image (volumes.omap_oid_of b)) ≡ 0 = ap (λ k. snap_count_of (block_at image k)) f.volume.omap ∙ f.volume_map.count in
    let xids : map (λ (s : ℕ × ℕ). s.0) (map_snapshots image (site spec) (volumes.omap_oid_of b)) ≡ [] = ap (λ k. map (λ (s : ℕ × ℕ). s.0) (map_snapshots image (site spec) k)) f.volume.omap ∙ ap (map (λ (s : ℕ × ℕ). s.0)) m.snapshots in
    subst (λ s. Agree (counted_snapshots image s (head spec)) (map_count image s (head spec)) (map_xids image s (head spec)) (metadata_of image s (head spec))) (sym (site-is spec image f))
    (subst (λ n. Agree n (snap_count_of (block_at image (volumes.omap_oid_of b))) (map (λ (s : ℕ × ℕ). s.0) (map_snapshots image (site spec) (volumes.omap_oid_of b))) (metadata_pairs image (site spec) (volumes.snaps_root_of b))) (sym f.volume.snapshots)
    (subst (λ n. Agree 0 n (map (λ (s : ℕ × ℕ). s.0) (map_snapshots image (site spec) (volumes.omap_oid_of b))) (metadata_pairs image (site spec) (volumes.snaps_root_of b))) (sym count)
    (subst (λ xs. Agree 0 0 xs (metadata_pairs image (site spec) (volumes.snaps_root_of b))) (sym xids)
    (subst (λ ps. Agree 0 0 [] ps) (sym (no-metadata spec image v f)) agree-none))))

-- ---- its ranges
pub ranges-are : (spec : Spec) (image : List ℕ) → IsValid spec → IsFresh spec image → volume_ranges image (site_of (seen image)) (head spec) ≡ []
unfolding volume_ranges
ranges-are spec image v f =
    ap (λ (l : Loaded). flat_map (ranges_of image (site_of (seen image))) (l.extents_root ∷ past_extents_roots image (site_of (seen image)) (head spec))) (loaded-is spec image v f)
    ∙ ap (λ s. flat_map (ranges_of image s) (55 ∷ past_extents_roots image s (head spec))) (site-is spec image f)
    ∙ rw (no-ranges spec image v f, no-metadata spec image v f)

-- ---- its view
abbrev pub live : View
live = record { slot = 0; xid = 1; root_oid = 1028 }

files-named : (spec : Spec) (image : List ℕ) → IsValid spec → IsFresh spec image → view_named (site spec) (loaded spec image) live 1028 ≡ Some 54
unfolding named_by resolve resolved latest
files-named spec image v f =
    ap (λ rs. named_by rs 1 spec.blocks 1028) (volume-map spec image v f).records
    ∙ inside spec v 54 (omega arith) (omega arith)

files-leaf : (spec : Spec) (image : List ℕ) → IsValid spec → IsFresh spec image → IsLeaf (hashed_tree image (site spec) (loaded spec image) live) 1028 pairs
files-leaf spec image v f = leaf-in fs_shape spec image (view_named (site spec) (loaded spec image) live) 1028 54 file_entries f.files (files-named spec image v f) (inside spec v 54 (omega arith) (omega arith))

pub flat-is : (spec : Spec) (image : List ℕ) → IsValid spec → IsFresh spec image → view_flat image (site spec) (loaded spec image) live ≡ pairs
unfolding view_flat
flat-is spec image v f = leaf-flat (hashed_tree image (site spec) (loaded spec image) live) 1028 pairs (files-leaf spec image v f)

line-is : (spec : Spec) (image : List ℕ) → IsValid spec → IsFresh spec image → view_line image (site spec) (loaded spec image) live ≡ leaf_items 1028 0 pairs
unfolding view_line
line-is spec image v f = leaf-line (hashed_tree image (site spec) (loaded spec image) live) 1028 pairs (files-leaf spec image v f)

pub facts-told : (spec : Spec) (image : List ℕ) → IsValid spec → IsFresh spec image → view_facts image (site spec) (loaded spec image) live ≡ told
facts-told spec image v f = ap (facts_in Folded) (flat-is spec image v f) ∙ facts-are

walkable : (spec : Spec) (image : List ℕ) → IsValid spec → IsFresh spec image → is_view_walkable image (site spec) (loaded spec image) live ≡ true
unfolding is_view_walkable
walkable spec image v f = leaf-walkable (hashed_tree image (site spec) (loaded spec image) live) 1028 pairs (files-leaf spec image v f)

counted : (spec : Spec) (image : List ℕ) → IsValid spec → IsFresh spec image → is_view_counted image (site spec) (loaded spec image) live ≡ true
unfolding is_view_counted
counted spec image v f = leaf-counted (hashed_tree image (site spec) (loaded spec image) live) 1028 pairs (files-leaf spec image v f)

view-right : (profile : Profile) (spec : Spec) (image : List ℕ) → IsValid spec → IsFresh spec image → HasTreeRules profile image (site spec) (loaded spec image) live []
view-right profile spec image v f = record {
  walkable = walkable spec image v f;
  ordered = ap (is_ordered fs_shape) (line-is spec image v f) ∙ line-ordered;
  counted = counted spec image v f;
  records = subst (λ line. HasRecords Folded line) (sym (line-is spec image v f)) records-right;
  facts = subst (λ x. HasFactRules profile (site spec) [] x) (sym (facts-told spec image v f)) (rules profile (site spec));
}

views-right : (profile : Profile) (spec : Spec) (image : List ℕ) → IsValid spec → IsFresh spec image → (view : View) → In view (views_of (volume_of image (seen image) (head spec)) (seen image)) → HasViewRules profile image (seen image) (head spec) view
views-right profile spec image v f view h =
    let one : In view (live ∷ []) = subst (λ (l : Loaded). In view (views_of l (seen image))) (loaded-is spec image v f) h in
    let e : view ≡ live = elim one as (λ _. view ≡ live) [ inl e ↦ e | inr k ↦ absurd k ] in
    subst (λ w. HasViewRules profile image (seen image) (head spec) w) (sym e)
    (subst (λ rs. HasTreeRules profile image (site_of (seen image)) (volume_of image (seen image) (head spec)) live rs) (sym (ranges-are spec image v f))
    (subst (λ l. HasTreeRules profile image (site_of (seen image)) l live []) (sym (loaded-is spec image v f))
    (subst (λ s. HasTreeRules profile image s (loaded spec image) live []) (sym (site-is spec image f)) (view-right profile spec image v f))))

-- ---- its data
data-right : (spec : Spec) (image : List ℕ) → IsValid spec → IsFresh spec image → HasRightData image (seen image) (head spec)
unfolding unreached_in miscounted_in unreached_runs
data-right spec image v f = record {
  reached = ap (λ rs. unreached_runs (site_of (seen image)).block_size rs (volume_extents image (seen image) (head spec))) (ranges-are spec image v f);
  counted =
      let test = is_miscounted (site_of (seen image)).block_size (volume_extents image (seen image) (head spec)) in
      ap (λ (l : Loaded). if has_no_snapshots l then filter test (volume_ranges image (site_of (seen image)) (head spec)) else []) (loaded-is spec image v f)
      ∙ ap (filter test) (ranges-are spec image v f);
}

pub right-volume : (profile : Profile) (spec : Spec) (image : List ℕ) → IsValid spec → IsFresh spec image → IsRightVolume profile image (seen image) (head spec)
right-volume profile spec image v f = record { agreed = agreed spec image v f; views = views-right profile spec image v f; ranges = λ strict. data-right spec image v f }

pub empty-root : (spec : Spec) (image : List ℕ) → IsValid spec → IsFresh spec image → HasEmptyRoot image (seen image) (head spec)
empty-root spec image v f =
    ap (λ (l : Loaded). listing (view_facts image (site_of (seen image)) l (live_of l (seen image))) (codes "/")) (loaded-is spec image v f)
    ∙ ap (λ s. listing (view_facts image s (loaded spec image) live) (codes "/")) (site-is spec image f)
    ∙ ap (λ x. listing x (codes "/")) (facts-told spec image v f)
    ∙ root-empty

pub no-snaps : (spec : Spec) (image : List ℕ) → IsValid spec → IsFresh spec image → (volume_of image (seen image) (head spec)).snaps ≡ []
no-snaps spec image v f = ap (λ (l : Loaded). l.snaps) (loaded-is spec image v f)
