-- Why the blocks of a view can't be gone through, said of the view.
use Rattle.std.proofs.Common.{◌≡◌, ℕ, Bool, true, false, not, ◌==◌, List, [], ◌∷◌, ◌++◌, length, Option, Some, None, Result, Ok, Err, is_ok, refl, ap, sym, ◌∙◌, subst, if◌then◌else◌}
use Rattle.std.specs.Prelude.{slice_get}
use Rattle.std.specs.List.{list_any}
use Rattle.apfs_model.specs.Lists.{In}
use Rattle.apfs_model.proofs.BoolTests.{clash, equal-from, never-true, not-false}
use Rattle.apfs_model.proofs.Searches.{from-map}
use Rattle.obj_base.specs.declared.site.Site.{Site}
use Rattle.obj_base.specs.declared.stop.Stop.{Stop}
use Rattle.obj_base.specs.Stops.{Tells, raised}
use Rattle.obj_base.proofs.StopLemmas.{raised_tells, tells_more}
use Rattle.bt_keys.specs.RecordKey.{record_kind_of, inode_record, attribute_record, sibling_link_record, file_extent_record, entry_record, sibling_map_record}
use Rattle.bt_node.specs.Entries.{Pair}
use Rattle.bt_cursor.specs.Line.{Item, is_leaf_item}
use Rattle.bt_cursor.specs.Gathered.{IsRefused}
use Rattle.bt_cursor.specs.declared.gathering.GatherFault.{GatherFault}
use Rattle.bt_cursor.specs.declared.gathering.GatherFault.TheVariants as gathers
use Rattle.fs_name.specs.declared.naming.Names.{Names}
use Rattle.fs_record.specs.Facts.{Fact, read_inode, read_entry, read_attribute, read_link, read_sibling, read_extent, fault_of, refused}
use Rattle.fs_record.specs.StreamExtents.{is_extent_placed}
use Rattle.fs_record.specs.declared.extents.FileExt.{FileExt}
use Rattle.fs_record.specs.declared.fault.RecFault.{RecFault}
use Rattle.vol_view.specs.Volumes.{Loaded}
use Rattle.vol_view.specs.Views.{view_line, IsViewFeature}
use Rattle.vol_view.specs.declared.volume.View.{View}
use Rattle.ext_ref.specs.Stops.{IsExtStop}
use Rattle.ext_ref.specs.Scanned.{IsExtFeature}
use Rattle.ext_ref.specs.declared.stop.ExtStop.{ExtStop}
use Rattle.ext_ref.specs.declared.stop.ExtStop.TheVariants as extents
use Rattle.view_rules.specs.Rules.{view_facts, refusal_of, HasRecords, IsRecord, HasTreeRules}
use Rattle.view_rules.specs.Extents.{is_misplaced}
use Rattle.view_rules.specs.declared.profile.Profile.{Profile}
use Rattle.ext_ref.specs.declared.range.NewRange.{NewRange}
use Rattle.use_report.specs.Faults.{HasOutsideExtent, IsUseFaultIn}
use Rattle.use_report.specs.Stops.{IsUseFeatureIn}
use Rattle.use_report.specs.Files.{IsViewStop, LeavesOne}
use Rattle.use_report.specs.Gathered.{some_extent, extent_in, extent_at, is_refused, said}
use Rattle.use_report.specs.Holding.{of_gather, of_extents, IsFilesFault, AreRightFiles, IsReferencesFault}
use Rattle.use_report.specs.Sets.{AreFaultsOf, AreFeaturesOf}
use Rattle.use_report.specs.declared.kept.KeptView.{KeptView}
use Rattle.use_report.specs.declared.stop.UseFault.{UseFault}
use Rattle.use_report.specs.declared.stop.UseFault.TheVariants.{Walk, Value}
use Rattle.use_report.proofs.Lists.{none-any}

-- ---- a record that is refused
-- the record of an extent is refused where its reader refuses it
refused-extent : (names : Names) (pair : Pair) → record_kind_of pair.key ≡ file_extent_record → refused names pair ≡ fault_of (read_extent pair)
unfolding refused
refused-extent names pair kind =
    ap (λ k.
    if k == inode_record then fault_of (read_inode pair) else
    if k == attribute_record then fault_of (read_attribute pair) else
    if k == sibling_link_record then fault_of (read_link pair) else
    if k == file_extent_record then fault_of (read_extent pair) else
    if k == entry_record then fault_of (read_entry names pair) else
    if k == sibling_map_record then fault_of (read_sibling pair) else None) kind

-- why an item is refused
abbrev Refusal : Names → Item → Type 0
Refusal names item = (why : RecFault) × (refusal_of names item ≡ Some why)

refusal-at : (names : Names) (item : Item) → is_refused item ≡ true → Refusal names item
unfolding extent_at extent_in refusal_of
refusal-at names item e =
    let pair : Pair = item.pair in
    let by_answer : (r : Result FileExt RecFault) → read_extent pair ≡ r → is_leaf_item item ≡ true → (record_kind_of pair.key == file_extent_record) ≡ true → not (is_ok (some_extent r)) ≡ true → Refusal names item = λ r. elim r as (λ r. read_extent pair ≡ r → is_leaf_item item ≡ true → (record_kind_of pair.key == file_extent_record) ≡ true → not (is_ok (some_extent r)) ≡ true → Refusal names item) [
      | Ok x ↦ λ read leaf kind no. absurd (let z : false ≡ true = no in let q : ⊥ = cc in q)
      | Err why ↦ λ read leaf kind no. (
        why,
        ap (λ b. if b then refused names pair else None) leaf ∙ (refused-extent names pair (equal-from (record_kind_of pair.key) file_extent_record kind) ∙ ap fault_of read),
      )
    ] in
    let by_kind : (b : Bool) → (record_kind_of pair.key == file_extent_record) ≡ b → is_leaf_item item ≡ true → not (is_ok (if b then some_extent (read_extent pair) else Ok None)) ≡ true → Refusal names item = λ b. elim b as (λ b. (record_kind_of pair.key == file_extent_record) ≡ b → is_leaf_item item ≡ true → not (is_ok (if b then some_extent (read_extent pair) else Ok None)) ≡ true → Refusal names item) [
      | true ↦ λ kind leaf no. by_answer (read_extent pair) refl leaf kind no
      | false ↦ λ kind leaf no. absurd (let z : false ≡ true = no in let q : ⊥ = cc in q)
    ] in
    let by_level : (b : Bool) → is_leaf_item item ≡ b → not (is_ok (if b then extent_in pair else Ok None)) ≡ true → Refusal names item = λ b. elim b as (λ b. is_leaf_item item ≡ b → not (is_ok (if b then extent_in pair else Ok None)) ≡ true → Refusal names item) [
      | true ↦ λ leaf no. by_kind (record_kind_of pair.key == file_extent_record) refl leaf no
      | false ↦ λ leaf no. absurd (let z : false ≡ true = no in let q : ⊥ = cc in q)
    ] in
    by_level (is_leaf_item item) refl e

-- the item behind some others stands in the place of their number
seam : (before after : List Item) (item : Item) → slice_get (before ++ item ∷ after) (length before) ≡ Some item
seam [] after item = refl
seam (i ∷ before) after item = seam before after item

refused-record : (names : Names) (line : List Item) (number : ℕ) → IsRefused is_refused line number → (why : RecFault) × IsRecord names line number why
refused-record names line number r =
    let t = refusal-at names r.item r.refused in
    (t.0, record { number = length r.before; item = r.item; found = ap (λ (items : List Item). slice_get items (length r.before)) r.split ∙ seam r.before r.after r.item; part = t.1; same = r.same })

-- where all records can be read, no extent is refused
none-refused : (names : Names) (line : List Item) → HasRecords names line → list_any is_refused line ≡ false
none-refused names line records =
    none-any is_refused line (λ item one. never-true (is_refused item) (λ e.
    let t = refusal-at names item e in
    let z : ◌≡◌ {A = Option RecFault} None (Some t.0) = sym (records item one) ∙ t.1 in
    let q : ⊥ = cc in
    q))

-- ---- what stops a walk of a view's files
files-fault : (image : List ℕ) (site : Site) (volume : Loaded) (view : View) (why : GatherFault) → IsViewStop image site volume view why → IsFilesFault image site volume view (of_gather view.xid why)
files-fault image site volume view (gathers.Tree why) h = (refl, h)
files-fault image site volume view (gathers.Refused item) h = (refl, refused-record volume.names (view_line image site volume view) item h)

pub files-told : (image : List ℕ) (site : Site) (volume : Loaded) (view : View) (stop : Stop GatherFault) → Tells (IsViewStop image site volume view) (IsViewFeature image site volume view) stop →
    Tells (IsFilesFault image site volume view) (IsViewFeature image site volume view) (raised (of_gather view.xid) stop)
files-told image site volume view stop h = raised_tells (of_gather view.xid) (IsViewStop image site volume view) (IsFilesFault image site volume view) (IsViewFeature image site volume view) stop (files-fault image site volume view) h

-- an extent that leaves the container is one of the view
pub outside-extent : (image : List ℕ) (site : Site) (volume : Loaded) (view : View) (extents : List FileExt) → LeavesOne site extents → extents ≡ said (view_facts image site volume view).extents → HasOutsideExtent image site volume view
outside-extent image site volume view extents one same =
    let t = from-map (λ (f : Fact FileExt). f.what) (view_facts image site volume view).extents one.0 (subst (λ (xs : List FileExt). In one.0 xs) same one.1) in
    record { extent = t.0; one = t.1.0; leaves = subst (λ e. is_extent_placed site.block_size site.blocks e ≡ false) t.1.1 one.2 }

pub never-outside : (image : List ℕ) (site : Site) (volume : Loaded) (view : View) → AreRightFiles image site volume view → HasOutsideExtent image site volume view → ⊥
never-outside image site volume view right one = clash (is_extent_placed site.block_size site.blocks one.extent.what) (right.placed one.extent one.one) one.leaves

-- the rules of a view leave nothing that stops a walk of its files
pub files-right : (profile : Profile) (image : List ℕ) (site : Site) (volume : Loaded) (view : View) (ranges : List NewRange) → HasTreeRules profile image site volume view ranges → AreRightFiles image site volume view
unfolding is_misplaced
files-right profile image site volume view ranges rules = record {
  whole = record {
    walkable = rules.walkable;
    ordered = rules.ordered;
    counted = rules.counted;
    readable = none-refused volume.names (view_line image site volume view) rules.records;
  };
  placed = λ f one. not-false (is_extent_placed site.block_size site.blocks f.what) (rules.facts.extent_places f one);
}

-- ---- what stops a walk of its extent references
references-fault : (image : List ℕ) (site : Site) (kept : KeptView) (why : ExtStop) → IsExtStop image site kept.extents_root why → IsReferencesFault image site kept (of_extents kept.view.xid why)
references-fault image site kept (extents.Walk why) h = (refl, h)
references-fault image site kept (extents.Value item) h = (refl, h)

pub references-told : (image : List ℕ) (site : Site) (kept : KeptView) (stop : Stop ExtStop) → Tells (IsExtStop image site kept.extents_root) (IsExtFeature image site kept.extents_root) stop →
    Tells (IsReferencesFault image site kept) (IsExtFeature image site kept.extents_root) (raised (of_extents kept.view.xid) stop)
references-told image site kept stop h = raised_tells (of_extents kept.view.xid) (IsExtStop image site kept.extents_root) (IsReferencesFault image site kept) (IsExtFeature image site kept.extents_root) stop (references-fault image site kept) h

-- ---- both are of the view

-- what is there in a view is there in one of some
pub view-told : (image : List ℕ) (site : Site) (volume : Loaded) (views : List KeptView) (view : KeptView) (stop : Stop UseFault) → In view views →
    Tells (IsUseFaultIn image site volume view) (IsUseFeatureIn image site volume view) stop → Tells (AreFaultsOf image site volume views) (AreFeaturesOf image site volume views) stop
view-told image site volume views view stop one h =
    tells_more (IsUseFaultIn image site volume view) (AreFaultsOf image site volume views) (IsUseFeatureIn image site volume view) (AreFeaturesOf image site volume views) stop (λ fault t. (view, one, t)) (λ feature block t. (view, one, t)) h
