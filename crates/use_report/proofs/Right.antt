-- Where the container is accounted and each view of a volume meets its rules, all that a view of it has can be gone through.
use Rattle.std.proofs.Common.{◌≡◌, ℕ, Bool, true, false, not, ◌==◌, List, ◌++◌, map, Option, Some, inl, inr, refl, ap, sym, subst}
use Rattle.std.specs.Prelude.{is_none, slice_get}
use Rattle.std.specs.List.{list_any}
use Rattle.apfs_model.specs.Blocks.{in_container}
use Rattle.apfs_model.specs.Lists.{In}
use Rattle.apfs_model.proofs.BoolTests.{test_or, both-true, left-or, right-or, false-not}
use Rattle.apfs_model.proofs.Searches.{in-left, in-right, in-map, get-in}
use Rattle.obj_base.specs.declared.stop.Stop.{Stop}
use Rattle.obj_base.specs.declared.stop.Stop.TheVariants.{Found, Unsupported}
use Rattle.bt_keys.specs.Shapes.{ext_shape}
use Rattle.bt_keys.specs.declared.record_key.ExtKey.{ExtKey}
use Rattle.bt_cursor.specs.Tree.{Tree}
use Rattle.bt_cursor.specs.Line.{Item, line_of}
use Rattle.bt_cursor.specs.Counts.{is_counted}
use Rattle.bt_cursor.specs.Met.{is_walkable}
use Rattle.bt_cursor.specs.Order.{is_ordered}
use Rattle.bt_cursor.specs.Whole.{is_whole}
use Rattle.bt_cursor.specs.declared.fault.WalkFault.{WalkFault}
use Rattle.bt_cursor.specs.declared.fault.WalkFault.TheVariants as walks
use Rattle.nx_ring.specs.Checkpoint.{Seen, site_of}
use Rattle.obj_base.specs.declared.site.Site.{Site}
use Rattle.fs_name.specs.Normal.{are_hashed}
use Rattle.vol_view.specs.Volumes.{Loaded}
use Rattle.vol_view.specs.Views.{past_of, views_of}
use Rattle.vol_view.specs.declared.volume.Snapshot.{Snapshot}
use Rattle.vol_view.specs.declared.volume.View.{View}
use Rattle.ext_ref.specs.Ranges.{ext_tree}
use Rattle.ext_ref.specs.Stops.{is_short_item}
use Rattle.ext_ref.specs.Scanned.{has_long_values, is_right_tree}
use Rattle.reach_rules.specs.declared.fault.Why.TheVariants.{Node}
use Rattle.reach_rules.specs.declared.fault.ReachFault.TheVariants as sweeps
use Rattle.reach_rules.specs.declared.naming.LookUp.{LookUp}
use Rattle.reach_rules.specs.declared.naming.LookUp.TheVariants.{ByBlock}
use Rattle.reach_rules.specs.declared.naming.Namer.{Namer}
use Rattle.reach_rules.specs.declared.naming.Namer.TheVariants.{Kept}
use Rattle.reach_rules.specs.declared.naming.TreeKind.TheVariants.{ExtentRefs, SnapMetadata}
use Rattle.reach_rules.specs.declared.naming.Expected.TheVariants.{TreeRoot}
use Rattle.reach_rules.specs.declared.naming.Naming.{Naming}
use Rattle.reach_rules.specs.Naming.{naming}
use Rattle.reach_rules.specs.Next.{unless_zero}
use Rattle.reach_rules.specs.Faults.{within_of, xid_of}
use Rattle.reach_rules.specs.Trees.{tree_line, misplaced, has_counts, IsRightTree}
use Rattle.reach_rules.specs.Accounted.{IsAccounted}
use Rattle.reach_rules.proofs.Nexts.{in-unless}
use Rattle.reach_rules.proofs.Refutes as reached
use Rattle.reach_rules.proofs.Walks.{IsRootNaming, Told, walkable-from}
use Rattle.reach_rules.proofs.Looks.{extents-walk}
use Rattle.reach_gather.specs.Volumes.Told.{map_of, live_at, told_view, told_snapshots, past_view_of}
use Rattle.reach_gather.specs.Volumes.Parts.{volume_namer}
use Rattle.use_report.specs.Given.{IsGiven, IsRight}
use Rattle.use_report.specs.Holding.{IsRightView}
use Rattle.use_report.specs.Sets.{AreRightViews}
use Rattle.use_report.specs.Views.{views_kept}
use Rattle.use_report.specs.declared.kept.KeptView.{KeptView}
use Rattle.use_report.proofs.Lists.{none-passes}
use Rattle.use_report.proofs.Stopped.{files-right}
use Rattle.use_report.proofs.Viewed.{part, past-at}
use Rattle.use_report.proofs.Walked.{volume-live, snapshot-live}

-- ---- extent reference trees
-- nothing that a walk could tell is there
told-clear : (image : List ℕ) (seen : Seen) → IsAccounted image seen → (how : LookUp) (why : Stop WalkFault) → Told image seen how why → ⊥
told-clear image seen w how (Found (walks.Unsound block why)) t = reached.refutes image seen (sweeps.Unsound block (Node why)) t w
told-clear image seen w how (Found (walks.Unnamed oid)) t = reached.refutes image seen (sweeps.Unnamed (within_of how) oid (xid_of seen how)) t w
told-clear image seen w how (Unsupported feature block) t = reached.refutes-feature image seen feature block t w
told-clear image seen w how why t = t

references-whole : (image : List ℕ) (seen : Seen) → IsAccounted image seen → (root : ℕ) → IsRootNaming image seen ExtentRefs ByBlock root → is_right_tree image (site_of seen) root ≡ true
unfolding misplaced has_counts tree_line is_right_tree has_long_values
references-whole image seen w root r =
    let tree : Tree ExtKey = ext_tree image (site_of seen) in
    let line : List Item = line_of tree root in
    let right : IsRightTree image seen ExtentRefs root = subst (IsRightTree image seen ExtentRefs) r.oid_is (w.trees r.naming ExtentRefs r.live r.expected_is) in
    let walkable = walkable-from image seen ExtentRefs ByBlock ext_shape (in_container (site_of seen).blocks) (extents-walk image seen) root r (told-clear image seen w ByBlock) in
    let ordered : is_ordered ext_shape line ≡ true = ap (λ (o : Option ℕ). is_none o) right.ordered in
    let whole : is_whole tree root ≡ true = both-true (is_walkable tree root) _ walkable (both-true (is_ordered ext_shape line) (is_counted tree root) ordered right.counted) in
    let long : not (list_any is_short_item line) ≡ true = false-not (list_any is_short_item line) (none-passes is_short_item line right.long) in
    right-or (root == 0) _ (both-true (is_whole tree root) _ whole long)

-- ---- the root of a view's extent references is named
live-root : (image : List ℕ) (seen : Seen) (volume : Loaded) → IsGiven image seen volume → (volume.extents_root == 0) ≡ false → IsRootNaming image seen ExtentRefs ByBlock volume.extents_root
live-root image seen volume given some =
    let me : Namer = volume_namer seen (part image seen volume given).mapping in
    let hashed : Bool = are_hashed volume.names in
    let lives : List Naming = told_view me (live_at seen volume.head.slot (map_of volume) hashed) volume.root_oid volume.meta_ext in
    let extents : List Naming = unless_zero me 144 (TreeRoot ExtentRefs) ByBlock volume.extents_root in
    let rest : List Naming = unless_zero me 152 (TreeRoot SnapMetadata) ByBlock volume.snaps_root ++ told_snapshots volume.head.slot (map_of volume) hashed 0 volume.snaps in
    let n : Naming = naming me 144 (TreeRoot ExtentRefs) ByBlock volume.extents_root in
    record {
      naming = n;
      live = volume-live image seen volume given n (inr (in-right n lives (extents ++ rest) (in-left n extents rest (in-unless me 144 (TreeRoot ExtentRefs) ByBlock volume.extents_root some))));
      expected_is = refl;
      how_is = refl;
      oid_is = refl;
    }

past-root : (image : List ℕ) (seen : Seen) (volume : Loaded) → IsGiven image seen volume → (k : ℕ) (snapshot : Snapshot) → slice_get volume.snaps k ≡ Some snapshot → (snapshot.extents_root == 0) ≡ false → IsRootNaming image seen ExtentRefs ByBlock snapshot.extents_root
past-root image seen volume given k snapshot found some =
    let me : Namer = Kept (past_view_of volume k snapshot) in
    let n : Naming = naming me 0 (TreeRoot ExtentRefs) ByBlock snapshot.extents_root in
    record {
      naming = n;
      live = snapshot-live image seen volume given k snapshot found n (inr (in-unless me 0 (TreeRoot ExtentRefs) ByBlock snapshot.extents_root some));
      expected_is = refl;
      how_is = refl;
      oid_is = refl;
    }

view-root : (image : List ℕ) (seen : Seen) (volume : Loaded) → IsGiven image seen volume → (kept : KeptView) → In kept (views_kept volume seen) → (kept.extents_root == 0) ≡ false → IsRootNaming image seen ExtentRefs ByBlock kept.extents_root
view-root image seen volume given kept (inl e) some =
    let root : kept.extents_root ≡ volume.extents_root = ap (λ (k : KeptView). k.extents_root) e in
    subst (IsRootNaming image seen ExtentRefs ByBlock) (sym root) (live-root image seen volume given (subst (λ r. (r == 0) ≡ false) root some))
view-root image seen volume given kept (inr h) some =
    let t = past-at volume 0 volume.snaps kept h in
    let root : kept.extents_root ≡ t.snapshot.extents_root = ap (λ (k : KeptView). k.extents_root) t.same in
    subst (IsRootNaming image seen ExtentRefs ByBlock) (sym root) (past-root image seen volume given t.k t.snapshot t.found (subst (λ r. (r == 0) ≡ false) root some))

-- ---- all of a view
-- the view is one of those whose rules are met
view-one : (seen : Seen) (volume : Loaded) (kept : KeptView) → In kept (views_kept volume seen) → In kept.view (views_of volume seen)
view-one seen volume kept (inl e) = inl (ap (λ (k : KeptView). k.view) e)
view-one seen volume kept (inr h) =
    let t = past-at volume 0 volume.snaps kept h in
    let same : past_of volume t.snapshot ≡ kept.view = sym (ap (λ (k : KeptView). k.view) t.same) in
    inr (subst (λ (v : View). In v (map (past_of volume) volume.snaps)) same (in-map (past_of volume) volume.snaps t.snapshot (get-in volume.snaps t.k t.snapshot t.found)))

pub view-right : (image : List ℕ) (seen : Seen) (volume : Loaded) → IsGiven image seen volume → IsRight image seen volume → (kept : KeptView) → In kept (views_kept volume seen) → IsRightView image (site_of seen) volume kept
unfolding is_right_tree
view-right image seen volume given right kept one =
    let rules = right.views kept.view (view-one seen volume kept one) in
    record {
      files = files-right rules.0 image (site_of seen) volume kept.view rules.1 rules.2;
      references = elim (test_or (kept.extents_root == 0)) as (λ _. is_right_tree image (site_of seen) kept.extents_root ≡ true) [
        | inl none ↦ left-or (kept.extents_root == 0) _ none
        | inr some ↦ references-whole image seen right.accounted kept.extents_root (view-root image seen volume given kept one some)
      ];
    }

pub views-right : (image : List ℕ) (seen : Seen) (volume : Loaded) (site : Site) (views : List KeptView) → site ≡ site_of seen → views ≡ views_kept volume seen → IsGiven image seen volume → IsRight image seen volume → AreRightViews image site volume views
views-right image seen volume site views s v given right view one =
    subst (λ (x : Site). IsRightView image x volume view) (sym s) (view-right image seen volume given right view (subst (λ (xs : List KeptView). In view xs) v one))
