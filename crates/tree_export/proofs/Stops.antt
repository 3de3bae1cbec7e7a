-- What stops the call, on views that are whole or meet their rules.
use Rattle.std.proofs.Common.{◌≡◌, ◌==◌, ℕ, Bool, true, false, cond, List, Some, None, Result, Ok, refl, ap, sym, ◌∙◌, subst}
use Rattle.std.specs.Prelude.{option_map}
use Rattle.std.specs.List.{find}
use Rattle.std.proofs.lemmas.Option.{none-some}
use Rattle.apfs_model.specs.Lists.{In, value_of}
use Rattle.apfs_model.proofs.BoolTests.{equal-from}
use Rattle.apfs_model.proofs.Searches.{found-in, get-in}
use Rattle.obj_base.specs.Stops.{Tells, raised as raised_by}
use Rattle.obj_base.specs.declared.site.Site.{Site}
use Rattle.obj_base.specs.declared.stop.Stop.{Stop}
use Rattle.obj_base.specs.declared.stop.Stop.TheVariants.{Found, Unsupported, ReadFault, NoMemory}
use Rattle.bt_node.specs.Entries.{Pair}
use Rattle.bt_keys.specs.RecordKey.{id_of, record_kind_of, inode_record}
use Rattle.bt_cursor.specs.Line.{line_of}
use Rattle.bt_cursor.specs.Met.{is_walkable}
use Rattle.bt_cursor.specs.Order.{is_ordered}
use Rattle.bt_cursor.specs.Counts.{is_counted}
use Rattle.bt_cursor.specs.Whole.{is_whole}
use Rattle.bt_cursor.proofs.Wholes.{whole_means}
use Rattle.bt_keys.specs.Shapes.{fs_shape, fs_plain_shape}
use Rattle.fs_name.specs.Normal.{are_hashed}
use Rattle.fs_record.specs.Inodes.{Inode}
use Rattle.fs_record.specs.Facts.{Fact, told_by, fact_of, read_inode, first_for, inodes_of, fault_of}
use Rattle.fs_record.specs.declared.fault.RecFault.{RecFault}
use Rattle.file_extent.specs.declared.stop.StreamStop.{StreamStop}
use Rattle.file_extent.specs.declared.stop.StreamStop.TheVariants as streams
use Rattle.file_extent.specs.Stops.{IsStreamStop}
use Rattle.file_extent.specs.Opening.{IsStreamFeature}
use Rattle.vol_view.specs.Volumes.{Loaded}
use Rattle.vol_view.specs.Views.{hashed_tree, plain_tree, view_flat, view_line, is_view_walkable, is_view_counted, is_view_whole}
use Rattle.vol_view.specs.declared.volume.View.{View}
use Rattle.view_rules.specs.Rules.{view_facts}
use Rattle.view_rules.specs.Listed.{raised}
use Rattle.view_rules.specs.declared.fault.TreeFault.TheVariants.{ExtentOrder, ExtentPlace}
use Rattle.view_rules.proofs.Law.{refutes, featureless_rules}
use Rattle.view_rules.proofs.Trees.{ViewParts, view-clear, featureless}
use Rattle.path_search.specs.Stops.{IsLawful, IsPathFault}
use Rattle.path_search.specs.declared.stop.PathStop.TheVariants as paths
use Rattle.path_search.proofs.Needed.{refused_by, records_read}
use Rattle.path_search.proofs.Tallies.{in-given, mapped-at}
use Rattle.path_read.specs.Streamed.{id_at}
use Rattle.path_read.proofs.StreamFaults.{unrefused, stream_there}
use Rattle.tree_export.specs.Exported.{Wanted, items_in}
use Rattle.tree_export.specs.Faults.{HasInode, LacksInode, IsInodeOf, IsRefusedInode}
use Rattle.tree_export.specs.Stopping.{IsExportStop, IsNoInode, StopsAt, IsFailure}
use Rattle.tree_export.specs.Parts.{HasContent, IsFileStop, IsContentStop}
use Rattle.tree_export.specs.declared.content.Content.{Content}
use Rattle.tree_export.specs.declared.content.Content.TheVariants.{Stream}
use Rattle.tree_export.specs.declared.stop.ExportFault.{ExportFault}
use Rattle.tree_export.specs.declared.stop.ExportFault.TheVariants as faults
use Rattle.tree_export.specs.declared.stop.ExportStop.{ExportStop}
use Rattle.tree_export.specs.declared.stop.ExportStop.TheVariants.{Stopped}
use Rattle.tree_export.proofs.Contents.{content_stream}
use Rattle.tree_export.proofs.Rows.{items_have}

-- ---- an item without a record of its inode
whole-parts : (image : List ℕ) (site : Site) (volume : Loaded) (view : View) → is_view_whole image site volume view ≡ true → ViewParts image site volume view
unfolding is_view_whole is_view_walkable is_view_counted view_line
whole-parts image site volume view whole = go (are_hashed volume.names) whole
  where
    go : (b : Bool) → cond b (is_whole (hashed_tree image site volume view) view.root_oid) (is_whole (plain_tree image site volume view) view.root_oid) ≡ true →
        (cond b (is_walkable (hashed_tree image site volume view) view.root_oid) (is_walkable (plain_tree image site volume view) view.root_oid) ≡ true)
        × (cond b (is_ordered fs_shape (cond b (line_of (hashed_tree image site volume view) view.root_oid) (line_of (plain_tree image site volume view) view.root_oid))) (is_ordered fs_plain_shape (cond b (line_of (hashed_tree image site volume view) view.root_oid) (line_of (plain_tree image site volume view) view.root_oid))) ≡ true)
        × (cond b (is_counted (hashed_tree image site volume view) view.root_oid) (is_counted (plain_tree image site volume view) view.root_oid) ≡ true)
    go true h = let w = whole_means (hashed_tree image site volume view) view.root_oid h in (w.walkable, w.ordered, w.counted)
    go false h = let w = whole_means (plain_tree image site volume view) view.root_oid h in (w.walkable, w.ordered, w.counted)

inode-there : (pairs : List Pair) (id : ℕ) (inode : Inode) → IsInodeOf pairs id inode → HasInode pairs id
inode-there pairs id inode is = (is.0, is.1)

pub missing_only : (image : List ℕ) (site : Site) (volume : Loaded) (view : View) (id : ℕ) (stop : ExportStop) → IsExportStop image site volume view id stop → is_view_whole image site volume view ≡ true → LacksInode (view_flat image site volume view) id → IsNoInode stop
missing_only image site volume view id (Stopped (Found (faults.Stream own why))) there whole lacks =
    lacks (subst (HasInode (view_flat image site volume view)) there.0 (inode-there (view_flat image site volume view) own there.1.0 there.1.1))
missing_only image site volume view id (Stopped (Found (faults.Walk own why))) there whole lacks = view-clear image site volume view why there.1 (whole-parts image site volume view whole)
missing_only image site volume view id (Stopped (Found (faults.Value own why))) there whole lacks =
    lacks (subst (HasInode (view_flat image site volume view)) there.0 (there.1.0, there.1.1))
missing_only image site volume view id (Stopped (Unsupported feature block)) there whole lacks = featureless image site volume view feature block there (whole-parts image site volume view whole).0
missing_only image site volume view id stop there whole lacks = tt

-- ---- a content that can't be put
pub content_stops : (image : List ℕ) (site : Site) (volume : Loaded) (view : View) (id : ℕ) (content : Content) (stop : ExportStop) → HasContent (view_flat image site volume view) id content → IsContentStop image site volume view id content stop → IsExportStop image site volume view id stop
content_stops image site volume view id (Stream own size) (Stopped (Found (faults.Stream named why))) has is =
    (is.0, (has.0, subst (λ (n : ℕ). IsInodeOf (view_flat image site volume view) n has.0) (sym is.0) has.1, subst (λ (n : ℕ). IsStreamStop image site volume view n why) (content_stream has.0 own size has.2) is.1))
content_stops image site volume view id (Stream own size) (Stopped (Found why)) has is = absurd is
content_stops image site volume view id (Stream own size) stop has is = is
content_stops image site volume view id content stop has is = subst (IsExportStop image site volume view id) (sym is) tt

-- ---- on a view that meets its rules
path-refuted : (image : List ℕ) (site : Site) (volume : Loaded) (view : View) (fault : _) → IsLawful image site volume view → IsPathFault image site volume view fault → ⊥
path-refuted image site volume view fault lawful there = refutes lawful.profile image site volume view lawful.ranges fault (there lawful.profile lawful.ranges) lawful.rules

stream-refuted : (image : List ℕ) (site : Site) (volume : Loaded) (view : View) (id : ℕ) (why : StreamStop) → IsLawful image site volume view → IsStreamStop image site volume view id why → ⊥
stream-refuted image site volume view id (streams.Walk root why) lawful h =
    path-refuted image site volume view (raised view why) lawful (stream_there image site volume view id (Found (streams.Walk root why)) (Found (paths.Fault (raised view why))) refl h)
stream-refuted image site volume view id (streams.Extent why) lawful h = unrefused image site volume view id why lawful.rules.records h
stream-refuted image site volume view id streams.Order lawful h =
    path-refuted image site volume view (ExtentOrder (id_at view id)) lawful (stream_there image site volume view id (Found streams.Order) (Found (paths.Fault (ExtentOrder (id_at view id)))) refl h)
stream-refuted image site volume view id streams.Outside lawful h =
    path-refuted image site volume view (ExtentPlace (id_at view id)) lawful (stream_there image site volume view id (Found streams.Outside) (Found (paths.Fault (ExtentPlace (id_at view id)))) refl h)

value-refuted : (image : List ℕ) (site : Site) (volume : Loaded) (view : View) (id : ℕ) (why : RecFault) → IsLawful image site volume view → IsRefusedInode (view_flat image site volume view) id why → ⊥
value-refuted image site volume view id why lawful is =
    none-some why (sym (records_read image site volume view lawful.rules.records is.0 is.1.one) ∙ (refused_by volume.names is.0 inode_record is.1.kind ∙ ap (λ (r : Result Inode RecFault). fault_of r) is.2))

-- an id with an inode has a record of it
fact-if : (pair : Pair) (f : Fact Inode) (b : Bool) (r : Result Inode RecFault) → (record_kind_of pair.key == inode_record) ≡ b → cond b (option_map (told_by pair) (value_of r)) None ≡ Some f → (record_kind_of pair.key ≡ inode_record) × (id_of pair.key ≡ f.id)
fact-if pair f true (Ok x) test e = (equal-from (record_kind_of pair.key) inode_record test, let s : told_by pair x ≡ f = cc in ap (λ (g : Fact Inode). g.id) s)
fact-if pair f b r test e = absurd (let q : ⊥ = cc in q)

pub inode_recorded : (pairs : List Pair) (id : ℕ) (inode : Inode) → first_for id (inodes_of pairs) ≡ Some inode → HasInode pairs id
unfolding inodes_of
inode_recorded pairs id inode e =
    let t = mapped-at (λ (f : Fact Inode). f.what) (find (λ (f : Fact Inode). f.id == id) (inodes_of pairs)) inode e in
    let u = found-in (λ (f : Fact Inode). f.id == id) (inodes_of pairs) t.0 t.1.0 in
    let v = in-given (fact_of inode_record read_inode) pairs t.0 u.0 in
    let w = fact-if v.0 t.0 (record_kind_of v.0.key == inode_record) (read_inode v.0) refl v.1.1 in
    (v.0, record { one = v.1.0; kind = w.0; of_id = w.1 ∙ equal-from t.0.id id u.1 })

stop-free : (image : List ℕ) (site : Site) (volume : Loaded) (view : View) (id : ℕ) (stop : ExportStop) → IsLawful image site volume view → HasInode (view_flat image site volume view) id → IsExportStop image site volume view id stop → IsFailure stop
stop-free image site volume view id (Stopped (Found (faults.Stream own why))) lawful has there = stream-refuted image site volume view there.1.0.private_id why lawful there.1.2
stop-free image site volume view id (Stopped (Found (faults.Walk own why))) lawful has there = view-clear image site volume view why there.1 (lawful.rules.walkable, lawful.rules.ordered, lawful.rules.counted)
stop-free image site volume view id (Stopped (Found (faults.Value own why))) lawful has there = value-refuted image site volume view own why lawful there.1
stop-free image site volume view id (Stopped (Found (faults.NoInode own))) lawful has there = there.1.1 (subst (HasInode (view_flat image site volume view)) (sym there.0) has)
stop-free image site volume view id (Stopped (Unsupported feature block)) lawful has there = featureless_rules lawful.profile image site volume view lawful.ranges feature block there lawful.rules
stop-free image site volume view id stop lawful has there = tt

-- the items of its tree stop nothing
pub lawful_free : (image : List ℕ) (site : Site) (volume : Loaded) (view : View) (items : List Wanted) (stop : ExportStop) → IsLawful image site volume view → items ≡ items_in (view_facts image site volume view) → StopsAt image site volume view items stop → IsFailure stop
lawful_free image site volume view items stop lawful same at =
    let one : In at.item (items_in (view_facts image site volume view)) = subst (In at.item) same (get-in items at.number at.item at.at) in
    let has = items_have (view_facts image site volume view) at.item one in
    stop-free image site volume view at.item.id stop lawful (inode_recorded (view_flat image site volume view) at.item.id has.0 has.1) at.there

-- ---- a stream that can't be opened
pub stream_stops : (image : List ℕ) (site : Site) (volume : Loaded) (view : View) (id stream : ℕ) (stop : Stop StreamStop) (raise : Stop ExportFault) → raise ≡ raised_by {F = StreamStop} (faults.Stream id) stop → Tells (IsStreamStop image site volume view stream) (IsStreamFeature image site volume view) stop → IsFileStop image site volume view id stream (Stopped raise)
stream_stops image site volume view id stream (Found why) raise e h = subst (λ (s : Stop ExportFault). IsFileStop image site volume view id stream (Stopped s)) (sym e) (refl, h)
stream_stops image site volume view id stream (Unsupported feature block) raise e h = subst (λ (s : Stop ExportFault). IsFileStop image site volume view id stream (Stopped s)) (sym e) h
stream_stops image site volume view id stream ReadFault raise e h = subst (λ (s : Stop ExportFault). IsFileStop image site volume view id stream (Stopped s)) (sym e) tt
stream_stops image site volume view id stream NoMemory raise e h = subst (λ (s : Stop ExportFault). IsFileStop image site volume view id stream (Stopped s)) (sym e) tt
