-- What is known of the extents of a stream of a view, by the kind of the view's keys.
use Rattle.std.proofs.Common.{◌≡◌, ℕ, Bool, true, false, cond, List, inl, inr, ap, sym, ◌∙◌, subst}
use Rattle.apfs_model.proofs.BoolTests.{test_or, clash}
use Rattle.obj_base.specs.Stops.{Tells, IsFree}
use Rattle.obj_base.specs.declared.stop.Stop.{Stop}
use Rattle.obj_base.specs.declared.stop.Stop.TheVariants.{Found, Unsupported, ReadFault, NoMemory}
use Rattle.obj_base.specs.declared.site.Site.{Site}
use Rattle.bt_node.specs.Entries.{Pair}
use Rattle.bt_keys.specs.RecordKey.{file_extent_record}
use Rattle.bt_keys.specs.Shapes.{fs_shape, fs_plain_shape}
use Rattle.bt_cursor.specs.Flat.{flat_of}
use Rattle.bt_cursor.specs.Line.{line_of}
use Rattle.bt_cursor.specs.Order.{is_ordered}
use Rattle.bt_cursor.specs.From.{is_kind_whole}
use Rattle.bt_cursor.specs.Whole.{is_whole}
use Rattle.bt_cursor.specs.Faults.{IsWalkFault, HasFeature}
use Rattle.bt_cursor.proofs.Places.{tree-levelled, whole-world}
use Rattle.bt_cursor.proofs.Wholes.{whole_means}
use Rattle.fs_name.specs.Normal.{are_hashed}
use Rattle.fs_record.specs.StreamExtents.{are_extents_ordered}
use Rattle.fs_record.specs.declared.extents.FileExt.{FileExt}
use Rattle.vol_view.specs.Volumes.{Loaded}
use Rattle.vol_view.specs.Views.{view_named, hashed_tree, plain_tree, view_flat, view_line, is_view_ordered, is_view_whole, FactBy, IsViewFault, IsViewFeature}
use Rattle.vol_view.specs.Placed.{has_all_records}
use Rattle.vol_view.specs.declared.volume.View.{View}
use Rattle.file_extent.specs.Streams.{extents_for, are_extents_placed}
use Rattle.file_extent.specs.Stops.{HasRefused, IsStreamStop}
use Rattle.file_extent.specs.Opening.{IsStreamFeature, IsStreamSound, IsOpened}
use Rattle.file_extent.specs.Laid.{AreLaid}
use Rattle.file_extent.specs.Collected.{AreCollected, IsCollectStop}
use Rattle.file_extent.specs.declared.stop.StreamStop.{StreamStop}
use Rattle.file_extent.specs.declared.stop.StreamStop.TheVariants.{Walk, Extent, Order, Outside}
use Rattle.file_extent.proofs.Lays.{laid-ordered}

fact-true : (b : Bool) (P Q : Type 0) → b ≡ true → P → FactBy b P Q
fact-true b P Q test p = subst (λ c. FactBy c P Q) (sym test) p

fact-false : (b : Bool) (P Q : Type 0) → b ≡ false → Q → FactBy b P Q
fact-false b P Q test q = subst (λ c. FactBy c P Q) (sym test) q

true-fact : (b : Bool) (P Q : Type 0) → b ≡ true → FactBy b P Q → P
true-fact b P Q test f = subst (λ c. FactBy c P Q) test f

false-fact : (b : Bool) (P Q : Type 0) → b ≡ false → FactBy b P Q → Q
false-fact b P Q test f = subst (λ c. FactBy c P Q) test f

-- the records of a view
hashed-flat : (image : List ℕ) (site : Site) (volume : Loaded) (view : View) → are_hashed volume.names ≡ true → view_flat image site volume view ≡ flat_of (hashed_tree image site volume view) view.root_oid
unfolding view_flat
hashed-flat image site volume view test = ap (λ b. cond b (flat_of (hashed_tree image site volume view) view.root_oid) (flat_of (plain_tree image site volume view) view.root_oid)) test

plain-flat : (image : List ℕ) (site : Site) (volume : Loaded) (view : View) → are_hashed volume.names ≡ false → view_flat image site volume view ≡ flat_of (plain_tree image site volume view) view.root_oid
unfolding view_flat
plain-flat image site volume view test = ap (λ b. cond b (flat_of (hashed_tree image site volume view) view.root_oid) (flat_of (plain_tree image site volume view) view.root_oid)) test

hashed-order : (image : List ℕ) (site : Site) (volume : Loaded) (view : View) → are_hashed volume.names ≡ true → is_view_ordered image site volume view ≡ true → is_ordered fs_shape (line_of (hashed_tree image site volume view) view.root_oid) ≡ true
unfolding view_line
hashed-order image site volume view test ordered =
    let hashed : Bool = are_hashed volume.names in
    sym (ap (λ b. cond b (is_ordered fs_shape (cond b (line_of (hashed_tree image site volume view) view.root_oid) (line_of (plain_tree image site volume view) view.root_oid))) (is_ordered fs_plain_shape (cond b (line_of (hashed_tree image site volume view) view.root_oid) (line_of (plain_tree image site volume view) view.root_oid)))) test)
    ∙ ordered

plain-order : (image : List ℕ) (site : Site) (volume : Loaded) (view : View) → are_hashed volume.names ≡ false → is_view_ordered image site volume view ≡ true → is_ordered fs_plain_shape (line_of (plain_tree image site volume view) view.root_oid) ≡ true
unfolding view_line
plain-order image site volume view test ordered =
    sym (ap (λ b. cond b (is_ordered fs_shape (cond b (line_of (hashed_tree image site volume view) view.root_oid) (line_of (plain_tree image site volume view) view.root_oid))) (is_ordered fs_plain_shape (cond b (line_of (hashed_tree image site volume view) view.root_oid) (line_of (plain_tree image site volume view) view.root_oid)))) test)
    ∙ ordered

pub hashed_all : (image : List ℕ) (site : Site) (volume : Loaded) (view : View) (id : ℕ) (es : List FileExt) → are_hashed volume.names ≡ true → AreCollected (hashed_tree image site volume view) view.root_oid id es → is_view_ordered image site volume view ≡ true → extents_for id (view_flat image site volume view) ≡ es
hashed_all image site volume view id es test c ordered = ap (extents_for id) (hashed-flat image site volume view test) ∙ c.all (hashed-order image site volume view test ordered)

pub plain_all : (image : List ℕ) (site : Site) (volume : Loaded) (view : View) (id : ℕ) (es : List FileExt) → are_hashed volume.names ≡ false → AreCollected (plain_tree image site volume view) view.root_oid id es → is_view_ordered image site volume view ≡ true → extents_for id (view_flat image site volume view) ≡ es
plain_all image site volume view id es test c ordered = ap (extents_for id) (plain-flat image site volume view test) ∙ c.all (plain-order image site volume view test ordered)

pub hashed_whole : (image : List ℕ) (site : Site) (volume : Loaded) (view : View) (id : ℕ) (es : List FileExt) → are_hashed volume.names ≡ true → AreCollected (hashed_tree image site volume view) view.root_oid id es → is_view_ordered image site volume view ≡ true → has_all_records image site volume view id file_extent_record ≡ true
unfolding has_all_records
hashed_whole image site volume view id es test c ordered =
    ap (λ b. cond b (is_kind_whole (hashed_tree image site volume view) view.root_oid id file_extent_record) (is_kind_whole (plain_tree image site volume view) view.root_oid id file_extent_record)) test ∙ c.whole (hashed-order image site volume view test ordered)

pub plain_whole : (image : List ℕ) (site : Site) (volume : Loaded) (view : View) (id : ℕ) (es : List FileExt) → are_hashed volume.names ≡ false → AreCollected (plain_tree image site volume view) view.root_oid id es → is_view_ordered image site volume view ≡ true → has_all_records image site volume view id file_extent_record ≡ true
unfolding has_all_records
plain_whole image site volume view id es test c ordered =
    ap (λ b. cond b (is_kind_whole (hashed_tree image site volume view) view.root_oid id file_extent_record) (is_kind_whole (plain_tree image site volume view) view.root_oid id file_extent_record)) test ∙ c.whole (plain-order image site volume view test ordered)

-- ---- what is named of the tree is there in the view
pub hashed_tells : (image : List ℕ) (site : Site) (volume : Loaded) (view : View) (id : ℕ) (stop : Stop StreamStop) → are_hashed volume.names ≡ true → Tells (IsCollectStop site (hashed_tree image site volume view) view.root_oid id) (HasFeature (hashed_tree image site volume view) view.root_oid) stop →
    Tells (IsStreamStop image site volume view id) (IsStreamFeature image site volume view) stop
hashed_tells image site volume view id (Found (Walk root why)) test h = (h.0, fact-true (are_hashed volume.names) (IsWalkFault (hashed_tree image site volume view) view.root_oid why) (IsWalkFault (plain_tree image site volume view) view.root_oid why) test h.1)
hashed_tells image site volume view id (Found (Extent why)) test h = subst (λ (ps : List Pair). HasRefused ps id why) (sym (hashed-flat image site volume view test)) h
hashed_tells image site volume view id (Found Order) test h = ap (λ (ps : List Pair). are_extents_ordered site.block_size (extents_for id ps)) (hashed-flat image site volume view test) ∙ h
hashed_tells image site volume view id (Found Outside) test h = ap (λ (ps : List Pair). are_extents_placed site (extents_for id ps)) (hashed-flat image site volume view test) ∙ h
hashed_tells image site volume view id (Unsupported feature block) test h = fact-true (are_hashed volume.names) (HasFeature (hashed_tree image site volume view) view.root_oid feature block) (HasFeature (plain_tree image site volume view) view.root_oid feature block) test h
hashed_tells image site volume view id ReadFault test h = tt
hashed_tells image site volume view id NoMemory test h = tt

pub plain_tells : (image : List ℕ) (site : Site) (volume : Loaded) (view : View) (id : ℕ) (stop : Stop StreamStop) → are_hashed volume.names ≡ false → Tells (IsCollectStop site (plain_tree image site volume view) view.root_oid id) (HasFeature (plain_tree image site volume view) view.root_oid) stop →
    Tells (IsStreamStop image site volume view id) (IsStreamFeature image site volume view) stop
plain_tells image site volume view id (Found (Walk root why)) test h = (h.0, fact-false (are_hashed volume.names) (IsWalkFault (hashed_tree image site volume view) view.root_oid why) (IsWalkFault (plain_tree image site volume view) view.root_oid why) test h.1)
plain_tells image site volume view id (Found (Extent why)) test h = subst (λ (ps : List Pair). HasRefused ps id why) (sym (plain-flat image site volume view test)) h
plain_tells image site volume view id (Found Order) test h = ap (λ (ps : List Pair). are_extents_ordered site.block_size (extents_for id ps)) (plain-flat image site volume view test) ∙ h
plain_tells image site volume view id (Found Outside) test h = ap (λ (ps : List Pair). are_extents_placed site (extents_for id ps)) (plain-flat image site volume view test) ∙ h
plain_tells image site volume view id (Unsupported feature block) test h = fact-false (are_hashed volume.names) (HasFeature (hashed_tree image site volume view) view.root_oid feature block) (HasFeature (plain_tree image site volume view) view.root_oid feature block) test h
plain_tells image site volume view id ReadFault test h = tt
plain_tells image site volume view id NoMemory test h = tt

-- ---- what is known of an opened stream
pub opened : (image : List ℕ) (site : Site) (volume : Loaded) (view : View) (id size : ℕ) (es : List FileExt) → AreLaid site es → extents_for id (view_flat image site volume view) ≡ es → has_all_records image site volume view id file_extent_record ≡ true → IsOpened image site volume view id size (record { site = site; extents = es; size = size })
opened image site volume view id size es laid all whole = record {
  same = ap (λ (l : List FileExt). record { site = site; extents = l; size = size }) (sym all);
  ordered = laid-ordered site es laid;
  placed = laid.placed;
  whole = whole;
}

-- ---- where all is in order nothing of it is named
hashed-whole : (image : List ℕ) (site : Site) (volume : Loaded) (view : View) → are_hashed volume.names ≡ true → is_view_whole image site volume view ≡ true → is_whole (hashed_tree image site volume view) view.root_oid ≡ true
unfolding is_view_whole
hashed-whole image site volume view test whole = sym (ap (λ b. cond b (is_whole (hashed_tree image site volume view) view.root_oid) (is_whole (plain_tree image site volume view) view.root_oid)) test) ∙ whole

plain-whole : (image : List ℕ) (site : Site) (volume : Loaded) (view : View) → are_hashed volume.names ≡ false → is_view_whole image site volume view ≡ true → is_whole (plain_tree image site volume view) view.root_oid ≡ true
unfolding is_view_whole
plain-whole image site volume view test whole = sym (ap (λ b. cond b (is_whole (hashed_tree image site volume view) view.root_oid) (is_whole (plain_tree image site volume view) view.root_oid)) test) ∙ whole

-- a whole view has no fault and no feature in its nodes
view-free : (image : List ℕ) (site : Site) (volume : Loaded) (view : View) (stop : Stop _) → is_view_whole image site volume view ≡ true → Tells (IsViewFault image site volume view) (IsViewFeature image site volume view) stop → IsFree stop
view-free image site volume view (Found why) whole h = elim (test_or (are_hashed volume.names)) as (λ _. ⊥) [
  | inl test ↦ whole-world (hashed_tree image site volume view) view.root_oid (Found why) (tree-levelled fs_shape site (view_named site volume view) image) (whole_means (hashed_tree image site volume view) view.root_oid (hashed-whole image site volume view test whole)) (true-fact (are_hashed volume.names) (IsWalkFault (hashed_tree image site volume view) view.root_oid why) (IsWalkFault (plain_tree image site volume view) view.root_oid why) test h)
  | inr test ↦ whole-world (plain_tree image site volume view) view.root_oid (Found why) (tree-levelled fs_plain_shape site (view_named site volume view) image) (whole_means (plain_tree image site volume view) view.root_oid (plain-whole image site volume view test whole)) (false-fact (are_hashed volume.names) (IsWalkFault (hashed_tree image site volume view) view.root_oid why) (IsWalkFault (plain_tree image site volume view) view.root_oid why) test h)
]
view-free image site volume view (Unsupported feature block) whole h = elim (test_or (are_hashed volume.names)) as (λ _. ⊥) [
  | inl test ↦ whole-world (hashed_tree image site volume view) view.root_oid (Unsupported feature block) (tree-levelled fs_shape site (view_named site volume view) image) (whole_means (hashed_tree image site volume view) view.root_oid (hashed-whole image site volume view test whole)) (true-fact (are_hashed volume.names) (HasFeature (hashed_tree image site volume view) view.root_oid feature block) (HasFeature (plain_tree image site volume view) view.root_oid feature block) test h)
  | inr test ↦ whole-world (plain_tree image site volume view) view.root_oid (Unsupported feature block) (tree-levelled fs_plain_shape site (view_named site volume view) image) (whole_means (plain_tree image site volume view) view.root_oid (plain-whole image site volume view test whole)) (false-fact (are_hashed volume.names) (HasFeature (hashed_tree image site volume view) view.root_oid feature block) (HasFeature (plain_tree image site volume view) view.root_oid feature block) test h)
]
view-free image site volume view ReadFault whole h = tt
view-free image site volume view NoMemory whole h = tt

pub sound_free : (image : List ℕ) (site : Site) (volume : Loaded) (view : View) (id : ℕ) (stop : Stop StreamStop) → IsStreamSound image site volume view id → Tells (IsStreamStop image site volume view id) (IsStreamFeature image site volume view) stop → IsFree stop
sound_free image site volume view id (Found (Walk root why)) s h = view-free image site volume view (Found why) s.whole h.1
sound_free image site volume view id (Found (Extent why)) s h = s.readable why h
sound_free image site volume view id (Found Order) s h = clash (are_extents_ordered site.block_size (extents_for id (view_flat image site volume view))) s.ordered h
sound_free image site volume view id (Found Outside) s h = clash (are_extents_placed site (extents_for id (view_flat image site volume view))) s.placed h
sound_free image site volume view id (Unsupported feature block) s h = view-free image site volume view (Unsupported feature block) s.whole h
sound_free image site volume view id ReadFault s h = tt
sound_free image site volume view id NoMemory s h = tt
