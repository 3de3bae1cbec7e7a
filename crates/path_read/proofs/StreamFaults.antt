-- What is there where a stream can't be opened.
use Rattle.std.proofs.Common.{◌≡◌, ℕ, Bool, true, false, cond, not, ◌&&◌, ◌==◌, List, [], ◌∷◌, map, Some, None, inl, inr, refl, ap, sym, ◌∙◌, subst}
use Rattle.std.specs.List.{filter, list_all}
use Rattle.std.proofs.lemmas.Option.{none-some, same_Some}
use Rattle.apfs_model.specs.Lists.{In}
use Rattle.apfs_model.proofs.BoolTests.{test_or, false-not, equal-from}
use Rattle.obj_base.specs.Stops.{Tells}
use Rattle.obj_base.specs.declared.stop.Stop.{Stop}
use Rattle.obj_base.specs.declared.stop.Stop.TheVariants.{Found, Unsupported, ReadFault, NoMemory}
use Rattle.obj_base.specs.declared.site.Site.{Site}
use Rattle.bt_node.specs.Entries.{Pair}
use Rattle.bt_keys.specs.RecordKey.{attribute_record, file_extent_record}
use Rattle.bt_cursor.specs.declared.fault.WalkFault.{WalkFault}
use Rattle.bt_cursor.specs.declared.fault.WalkFault.TheVariants.{Unsound, Order}
use Rattle.fs_record.specs.Facts.{Fact, all_for, extents_of, fault_of}
use Rattle.fs_record.specs.StreamExtents.{are_extents_ordered, is_extent_placed}
use Rattle.fs_record.specs.declared.fault.RecFault.{RecFault}
use Rattle.fs_record.specs.declared.extents.FileExt.{FileExt}
use Rattle.vol_view.specs.Volumes.{Loaded}
use Rattle.vol_view.specs.Views.{view_flat, view_line, IsViewFault}
use Rattle.vol_view.specs.declared.volume.View.{View}
use Rattle.file_extent.specs.Streams.{extents_for, are_extents_placed}
use Rattle.file_extent.specs.Stops.{HasRefused, IsStreamStop}
use Rattle.file_extent.specs.Opening.{IsStreamFeature}
use Rattle.file_extent.specs.declared.stop.StreamStop.{StreamStop}
use Rattle.file_extent.specs.declared.stop.StreamStop.TheVariants as streams
use Rattle.view_rules.specs.Facts.{Facts}
use Rattle.view_rules.specs.Extents.{is_disordered, is_misplaced, IsExtentOrder, IsExtentPlace}
use Rattle.view_rules.specs.Rules.{view_facts, HasRecords}
use Rattle.view_rules.specs.Listed.{raised}
use Rattle.view_rules.specs.declared.fault.TreeFault.TheVariants.{ExtentOrder, ExtentPlace}
use Rattle.path_search.specs.Stops.{IsPathFault}
use Rattle.path_search.specs.Calls.{IsStopThere}
use Rattle.path_search.proofs.Needed.{refused_by, records_read}
use Rattle.path_read.specs.Parts.{HasRefused as HasAttributeRefused}
use Rattle.path_read.specs.Streamed.{id_at, stream_raised}
use Rattle.path_search.specs.declared.stop.PathStop.{PathStop}
use Rattle.path_search.specs.declared.stop.PathStop.TheVariants as paths

-- ---- records that are refused
-- where all records can be read, none of an extent is refused
pub unrefused : (image : List ℕ) (site : Site) (volume : Loaded) (view : View) (id : ℕ) (why : RecFault) → HasRecords volume.names (view_line image site volume view) → HasRefused (view_flat image site volume view) id why → ⊥
unrefused image site volume view id why records there =
    none-some why (sym (records_read image site volume view records there.pair there.one) ∙ (refused_by volume.names there.pair file_extent_record there.kind ∙ ap fault_of there.refusal))

-- nor of an attribute
pub attributes_unrefused : (image : List ℕ) (site : Site) (volume : Loaded) (view : View) → HasAttributeRefused (view_flat image site volume view) → HasRecords volume.names (view_line image site volume view) → ⊥
attributes_unrefused image site volume view there records =
    none-some there.why (sym (records_read image site volume view records there.pair there.one) ∙ (refused_by volume.names there.pair attribute_record there.kind ∙ ap fault_of there.refusal))

-- ---- the extents of a stream
record FactOf {X : Type 0} (id : ℕ) (facts : List (Fact X)) (x : X) : Type 0 where
  fact : Fact X
  one : In fact facts
  same : fact.id ≡ id
  what : fact.what ≡ x

fact-if : {X : Type 0} (b : Bool) (id : ℕ) (f : Fact X) (fs : List (Fact X)) (x : X) → (f.id == id) ≡ b → In x (map (λ (g : Fact X). g.what) (cond b (f ∷ filter (λ (g : Fact X). g.id == id) fs) (filter (λ (g : Fact X). g.id == id) fs))) → (In x (all_for id fs) → FactOf id fs x) → FactOf id (f ∷ fs) x
fact-if true id f fs x test (inl same) rest = record { fact = f; one = inl refl; same = equal-from f.id id test; what = sym same }
fact-if true id f fs x test (inr one) rest = let r = rest one in record { fact = r.fact; one = inr r.one; same = r.same; what = r.what }
fact-if false id f fs x test one rest = let r = rest one in record { fact = r.fact; one = inr r.one; same = r.same; what = r.what }

fact-of : {X : Type 0} (id : ℕ) (facts : List (Fact X)) (x : X) → In x (all_for id facts) → FactOf id facts x
fact-of id [] x one = absurd one
fact-of id (f ∷ fs) x one = fact-if (f.id == id) id f fs x refl one (fact-of id fs x)

extents-are : (id : ℕ) (facts : Facts) (pairs : List Pair) → facts.extents ≡ extents_of pairs → extents_for id pairs ≡ all_for id facts.extents
unfolding extents_for
extents-are id facts pairs same = ap (all_for id) (sym same)

-- extents that aren't ordered are some
not-none : (block_size : ℕ) (es : List FileExt) → are_extents_ordered block_size es ≡ false → (e : FileExt) × In e es
unfolding are_extents_ordered
not-none block_size [] fails = absurd (let q : ⊥ = cc in q)
not-none block_size (e ∷ es) fails = (e, inl refl)

-- an extent that fails a test of all
not-all : (test : FileExt → Bool) (es : List FileExt) → list_all test es ≡ false → (e : FileExt) × (In e es × (test e ≡ false))
not-all test [] fails = absurd (let q : ⊥ = cc in q)
not-all test (e ∷ es) fails = elim (test_or (test e)) as (λ _. (x : FileExt) × (In x (e ∷ es) × (test x ≡ false))) [
  | inl passes ↦
      let rest : list_all test es ≡ false = sym (ap (λ b. b && list_all test es) passes) ∙ fails in
      let r = not-all test es rest in (r.0, (inr r.1.0, r.1.1))
  | inr fails_here ↦ (e, (inl refl, fails_here))
]

-- ExtentOrder and ExtentPlace, by what fails
pub order_there : (block_size : ℕ) (facts : Facts) (id : ℕ) → are_extents_ordered block_size (all_for id facts.extents) ≡ false → IsExtentOrder block_size facts id
unfolding is_disordered
order_there block_size facts id fails =
    let some = not-none block_size (all_for id facts.extents) fails in
    let f = fact-of id facts.extents some.0 some.1 in
    record { item = f.fact; listed = f.one; same = f.same; breach = ap (λ (n : ℕ). not (are_extents_ordered block_size (all_for n facts.extents))) f.same ∙ false-not (are_extents_ordered block_size (all_for id facts.extents)) fails }

pub place_there : (site : Site) (facts : Facts) (id : ℕ) → are_extents_placed site (all_for id facts.extents) ≡ false → IsExtentPlace site.block_size site.blocks facts id
unfolding is_misplaced are_extents_placed
place_there site facts id fails =
    let some = not-all (is_extent_placed site.block_size site.blocks) (all_for id facts.extents) fails in
    let f = fact-of id facts.extents some.0 some.1.0 in
    record { item = f.fact; listed = f.one; same = f.same; breach = false-not (is_extent_placed site.block_size site.blocks f.fact.what) (ap (is_extent_placed site.block_size site.blocks) f.what ∙ some.1.1) }

-- ---- why a stream can't be opened is there
walk_there : (image : List ℕ) (site : Site) (volume : Loaded) (view : View) (why : WalkFault) → IsViewFault image site volume view why → IsPathFault image site volume view (raised view why)
walk_there image site volume view (Unsound block why) h = λ profile ranges. h
walk_there image site volume view why h = λ profile ranges. ((refl, refl), h)

pub stream_there : (image : List ℕ) (site : Site) (volume : Loaded) (view : View) (id : ℕ) (stop : Stop StreamStop) (p : Stop PathStop) → stream_raised view id stop ≡ Some p → Tells (IsStreamStop image site volume view id) (IsStreamFeature image site volume view) stop → IsStopThere image site volume view p
stream_there image site volume view id (Found (streams.Walk root why)) p e h =
    subst (IsStopThere image site volume view) (same_Some (Found (paths.Fault (raised view why))) p e) (walk_there image site volume view why h.1)
stream_there image site volume view id (Found (streams.Extent why)) p e h = absurd (none-some p e)
stream_there image site volume view id (Found streams.Order) p e h =
    let facts : Facts = view_facts image site volume view in
    subst (IsStopThere image site volume view) (same_Some (Found (paths.Fault (ExtentOrder (id_at view id)))) p e)
    (λ profile ranges. ((refl, refl), order_there site.block_size facts id (sym (ap (are_extents_ordered site.block_size) (extents-are id facts (view_flat image site volume view) refl)) ∙ h)))
stream_there image site volume view id (Found streams.Outside) p e h =
    let facts : Facts = view_facts image site volume view in
    subst (IsStopThere image site volume view) (same_Some (Found (paths.Fault (ExtentPlace (id_at view id)))) p e)
    (λ profile ranges. ((refl, refl), place_there site facts id (sym (ap (are_extents_placed site) (extents-are id facts (view_flat image site volume view) refl)) ∙ h)))
stream_there image site volume view id (Unsupported feature block) p e h = subst (IsStopThere image site volume view) (same_Some (Unsupported feature block) p e) h
stream_there image site volume view id ReadFault p e h = subst (IsStopThere image site volume view) (same_Some ReadFault p e) tt
stream_there image site volume view id NoMemory p e h = subst (IsStopThere image site volume view) (same_Some NoMemory p e) tt

-- where it is a refused record, not all records can be read
pub stream_refused : (image : List ℕ) (site : Site) (volume : Loaded) (view : View) (id : ℕ) (stop : Stop StreamStop) → stream_raised view id stop ≡ None → Tells (IsStreamStop image site volume view id) (IsStreamFeature image site volume view) stop → HasRecords volume.names (view_line image site volume view) → ⊥
stream_refused image site volume view id (Found (streams.Extent why)) e h records = unrefused image site volume view id why records h
stream_refused image site volume view id stop e h records = let q : ⊥ = cc in q
