-- A volume whose parts were loaded: how its records agree, its snapshots, and the whole.
use Rattle.std.specs.Prelude.{◌≡◌, ℕ, ◌+◌, ◌<◌, ◌++◌, Result, Ok, Err, IfOk, IfErr, Bool, true, cond, ◌&&◌, ◌||◌, ◌==◌, List, [], ◌∷◌, length, map, refl, bytes_eq}
use Rattle.std.specs.List.{list_all, list_any}
use Rattle.std.proofs.lemmas.List.{length-map, map-append, take_more}
use Rattle.omap_map.proofs.Lists.{contains-in}
use Rattle.std.proofs.Common.{ap, sym, ◌∙◌, subst, inl, inr, get_or, take}
use Rattle.apfs_model.specs.Lists.{In, are_distinct}
use Rattle.apfs_model.proofs.BoolTests.{left-true}
use Rattle.apfs_model.proofs.Searches.{from-map, in-map, in-append}
use Rattle.obj_base.specs.Stops.{Tells, NoFeature, IsFree}
use Rattle.obj_base.specs.declared.stop.Feature.{Feature}
use Rattle.obj_base.specs.declared.stop.Stop.{Stop}
use Rattle.obj_base.specs.declared.stop.Stop.TheVariants.{Found, Unsupported, ReadFault, NoMemory}
use Rattle.obj_base.specs.declared.stop.Within.TheVariants.{Physical, Ephemeral, Container, Volume}
use Rattle.obj_base.specs.declared.site.Site.{Site}
use Rattle.bt_node.specs.Entries.{Pair}
use Rattle.bt_cursor.specs.declared.step.Step.{Step}
use Rattle.omap_map.specs.Features.{snapshot_features}
use Rattle.omap_map.specs.Maps.{Contents, contents_of, is_whole_map}
use Rattle.omap_map.proofs.Loads.{whole-object}
use Rattle.vol_view.specs.Fields as field
use Rattle.vol_view.specs.SnapRecords.{metadata_steps, snapshot_pairs, name_pairs, snapshot_name, record_name, is_snapshot_long, is_snapshot_readable, is_name_readable}
use Rattle.vol_view.specs.Volumes.{Loaded, super_of, map_block_of, metadata_of, metadata_steps_of, empty_map, map_or_empty, snapshot_in, snapshots_in, loaded_by, loaded_of}
use Rattle.vol_view.specs.Agreement.{are_readable, is_snap_count, is_fellow, is_snapshot_named, is_name_used, are_named, are_map_snapshots, Agree}
use Rattle.vol_view.specs.Features.{volume_features, snapshot_record_features}
use Rattle.vol_view.specs.LoadStops.{counted_snapshots, map_count, map_xids, has_whole_metadata, IsSnapshotOf, IsLoadStop, IsLoadFeature, IsLoadable, IsVolumeOf}
use Rattle.vol_view.specs.Gathered.{snapshot_told, name_told, HasVolumeMap, HasMetadata, is_same, are_same, map_agrees, AgreeBy, Disagree, snapshot_for, IsRecordStop, IsRecordFeature, IsStopOfOne, IsFeatureOfOne, AreSnapshots, IsRightRecord, IsRightSnapshotOf}
use Rattle.vol_view.specs.declared.head.VolHead.{VolHead}
use Rattle.vol_view.specs.declared.volume.Snapshot.{Snapshot}
use Rattle.vol_view.specs.declared.stop.VolStop.{VolStop}
use Rattle.vol_view.specs.declared.stop.VolStop.TheVariants.{Head, Magic, Unnamed, Omap, Walk, SnapRecord, SnapCount, SnapName, OmapSnaps}
use Rattle.vol_view.specs.declared.records.SnapshotRecord.{SnapshotRecord}
use Rattle.vol_view.specs.declared.records.NameRecord.{NameRecord}
use Rattle.vol_view.proofs.Gatherings.{each-snapshot, each-name}
use Rattle.vol_view.proofs.LoadLaws.{load-refutes, load-plain}

pub all-cong : {X : Type 0} (p q : X → Bool) (xs : List X) → ((x : X) → In x xs → p x ≡ q x) → list_all p xs ≡ list_all q xs
all-cong p q [] e = refl
all-cong p q (x ∷ xs) e = ap (λ b. b && list_all p xs) (e x (inl refl)) ∙ ap (λ b. q x && b) (all-cong p q xs (λ y h. e y (inr h)))

pub any-cong : {X : Type 0} (p q : X → Bool) (xs : List X) → ((x : X) → In x xs → p x ≡ q x) → list_any p xs ≡ list_any q xs
any-cong p q [] e = refl
any-cong p q (x ∷ xs) e = ap (λ b. b || list_any p xs) (e x (inl refl)) ∙ ap (λ b. q x || b) (any-cong p q xs (λ y h. e y (inr h)))

pub all-map : {X Y : Type 0} (f : X → Y) (p : Y → Bool) (xs : List X) → list_all p (map f xs) ≡ list_all (λ x. p (f x)) xs
all-map f p [] = refl
all-map f p (x ∷ xs) = ap (λ b. p (f x) && b) (all-map f p xs)

pub any-map : {X Y : Type 0} (f : X → Y) (p : Y → Bool) (xs : List X) → list_any p (map f xs) ≡ list_any (λ x. p (f x)) xs
any-map f p [] = refl
any-map f p (x ∷ xs) = ap (λ b. p (f x) || b) (any-map f p xs)

pub map-twice : {X Y Z : Type 0} (f : X → Y) (g : Y → Z) (xs : List X) → map g (map f xs) ≡ map (λ x. g (f x)) xs
map-twice f g [] = refl
map-twice f g (x ∷ xs) = ap (λ ys. g (f x) ∷ ys) (map-twice f g xs)

-- the number of the records is that of the snapshots' records
counts-same : (stored : ℕ) (pairs : List Pair) (snapshots : List SnapshotRecord) → snapshots ≡ map snapshot_told (snapshot_pairs pairs) → is_snap_count stored pairs ≡ (stored == length snapshots)
unfolding is_snap_count
counts-same stored pairs snapshots e = ap (λ n. stored == n) (sym (ap length e ∙ length-map (snapshot_pairs pairs) snapshot_told))

-- their transactions are those of the snapshots' records
maps-same : (stored : ℕ) (xids : List ℕ) (pairs : List Pair) (snapshots : List SnapshotRecord) → snapshots ≡ map snapshot_told (snapshot_pairs pairs) → are_map_snapshots stored xids pairs ≡ map_agrees stored xids snapshots
unfolding are_map_snapshots
maps-same stored xids pairs snapshots e =
    ap (λ ys. bytes_eq xids ys && (stored == length xids)) (sym (ap (map (λ (s : SnapshotRecord). s.xid)) e ∙ map-twice snapshot_told (λ (s : SnapshotRecord). s.xid) (snapshot_pairs pairs)))

-- the records of a snapshot and of a name are fellows where what they tell is the same
fellow-same : (snapshot name : Pair) → is_snapshot_readable snapshot ≡ true → is_name_readable name ≡ true → is_fellow snapshot name ≡ is_same (snapshot_told snapshot) (name_told name)
fellow-same snapshot name e f =
    let same = is_same (snapshot_told snapshot) (name_told name) in
    ap (λ b. (b && is_name_readable name) && same) e ∙ ap (λ b. b && same) f

named-same : (pairs : List Pair) → are_readable pairs ≡ true → are_named pairs ≡ are_same (map snapshot_told (snapshot_pairs pairs)) (map name_told (name_pairs pairs))
unfolding are_named are_same
named-same pairs readable =
    let ss = snapshot_pairs pairs in
    let ns = name_pairs pairs in
    let first : list_all (is_snapshot_named pairs) ss ≡ list_all (λ snapshot. list_any (is_same snapshot) (map name_told ns)) (map snapshot_told ss) =
    all-cong (is_snapshot_named pairs) (λ s. list_any (is_same (snapshot_told s)) (map name_told ns)) ss
    (λ s h. any-cong (is_fellow s) (λ n. is_same (snapshot_told s) (name_told n)) ns (λ n k. fellow-same s n (each-snapshot pairs s readable h) (each-name pairs n readable k)) ∙ sym (any-map name_told (is_same (snapshot_told s)) ns))
    ∙ sym (all-map snapshot_told (λ snapshot. list_any (is_same snapshot) (map name_told ns)) ss) in
    let second : list_all (is_name_used pairs) ns ≡ list_all (λ name. list_any (λ snapshot. is_same snapshot name) (map snapshot_told ss)) (map name_told ns) =
    all-cong (is_name_used pairs) (λ n. list_any (λ snapshot. is_same snapshot (name_told n)) (map snapshot_told ss)) ns
    (λ n k. any-cong (λ s. is_fellow s n) (λ s. is_same (snapshot_told s) (name_told n)) ss (λ s h. fellow-same s n (each-snapshot pairs s readable h) (each-name pairs n readable k)) ∙ sym (any-map snapshot_told (λ snapshot. is_same snapshot (name_told n)) ss))
    ∙ sym (all-map name_told (λ name. list_any (λ snapshot. is_same snapshot name) (map snapshot_told ss)) ns) in
    let third : are_distinct (map snapshot_name ss) ≡ are_distinct (map (λ (s : SnapshotRecord). s.name) (map snapshot_told ss)) = ap are_distinct (sym (map-twice snapshot_told (λ (s : SnapshotRecord). s.name) ss)) in
    let fourth : are_distinct (map record_name ns) ≡ are_distinct (map (λ (n : NameRecord). n.name) (map name_told ns)) = ap are_distinct (sym (map-twice name_told (λ (n : NameRecord). n.name) ns)) in
    ap (λ b. (b && list_all (is_name_used pairs) ns) && (are_distinct (map snapshot_name ss) && are_distinct (map record_name ns))) first
    ∙ (ap (λ b. (list_all (λ snapshot. list_any (is_same snapshot) (map name_told ns)) (map snapshot_told ss) && b) && (are_distinct (map snapshot_name ss) && are_distinct (map record_name ns))) second
    ∙ (ap (λ b. (list_all (λ snapshot. list_any (is_same snapshot) (map name_told ns)) (map snapshot_told ss) && list_all (λ name. list_any (λ snapshot. is_same snapshot name) (map snapshot_told ss)) (map name_told ns)) && (b && are_distinct (map record_name ns))) third
    ∙ ap (λ b. (list_all (λ snapshot. list_any (is_same snapshot) (map name_told ns)) (map snapshot_told ss) && list_all (λ name. list_any (λ snapshot. is_same snapshot name) (map snapshot_told ss)) (map name_told ns)) && (are_distinct (map (λ (s : SnapshotRecord). s.name) (map snapshot_told ss)) && b)) fourth))

names-same : (pairs : List Pair) (snapshots : List SnapshotRecord) (names : List NameRecord) → are_readable pairs ≡ true → snapshots ≡ map snapshot_told (snapshot_pairs pairs) → names ≡ map name_told (name_pairs pairs) → are_named pairs ≡ are_same snapshots names
names-same pairs snapshots names readable e f = named-same pairs readable ∙ (ap (λ ss. are_same ss (map name_told (name_pairs pairs))) (sym e) ∙ ap (are_same snapshots) (sym f))

-- the parts of a volume that were loaded, before its snapshots' superblocks
pub record HasParts (image : List ℕ) (site : Site) (head : VolHead) (bytes : List ℕ) (contents : Contents) (snapshots : List SnapshotRecord) (names : List NameRecord) : Type 0 where
  pub same : bytes ≡ super_of image site head
  pub map : HasVolumeMap image site (field.omap_oid_of bytes) contents
  pub metadata : HasMetadata image site (field.snaps_root_of bytes) snapshots names

abbrev xids_of : Contents → List ℕ
xids_of contents = map (λ (s : ℕ × ℕ). s.0) contents.snapshots

parts-map : (image : List ℕ) (site : Site) (head : VolHead) (bytes : List ℕ) (contents : Contents) (snapshots : List SnapshotRecord) (names : List NameRecord) → HasParts image site head bytes contents snapshots names → HasVolumeMap image site (map_block_of image site head) contents
parts-map image site head bytes contents snapshots names parts = subst (λ bs. HasVolumeMap image site (field.omap_oid_of bs) contents) parts.same parts.map

parts-metadata : (image : List ℕ) (site : Site) (head : VolHead) (bytes : List ℕ) (contents : Contents) (snapshots : List SnapshotRecord) (names : List NameRecord) → HasParts image site head bytes contents snapshots names → HasMetadata image site (field.snaps_root_of (super_of image site head)) snapshots names
parts-metadata image site head bytes contents snapshots names parts = subst (λ bs. HasMetadata image site (field.snaps_root_of bs) snapshots names) parts.same parts.metadata

-- what doesn't agree is there
pub agree-tells : (image : List ℕ) (site : Site) (head : VolHead) (bytes : List ℕ) (contents : Contents) (snapshots : List SnapshotRecord) (names : List NameRecord) (stop : Stop VolStop) → HasParts image site head bytes contents snapshots names
    → Tells (Disagree head.slot (field.snapshots_of bytes) contents.snap_count (xids_of contents) snapshots names) NoFeature stop → Tells (IsLoadStop image site head) (IsLoadFeature image site head) stop
agree-tells image site head bytes contents snapshots names (Found (Head block why)) parts h = absurd h
agree-tells image site head bytes contents snapshots names (Found (Magic block)) parts h = absurd h
agree-tells image site head bytes contents snapshots names (Found (Unnamed within oid)) parts h = absurd h
agree-tells image site head bytes contents snapshots names (Found (Omap fault)) parts h = absurd h
agree-tells image site head bytes contents snapshots names (Found (Walk root why)) parts h = absurd h
agree-tells image site head bytes contents snapshots names (Found (SnapRecord slot)) parts h = absurd h
agree-tells image site head bytes contents snapshots names (Found (SnapCount slot)) parts (at, h) =
    let metadata = parts-metadata image site head bytes contents snapshots names parts in
    (at, counts-same (counted_snapshots image site head) (metadata_of image site head) snapshots metadata.told.snapshots_same ∙ (ap (λ bs. field.snapshots_of bs == length snapshots) (sym parts.same) ∙ h))
agree-tells image site head bytes contents snapshots names (Found (SnapName slot)) parts (at, h) =
    let metadata = parts-metadata image site head bytes contents snapshots names parts in
    (at, names-same (metadata_of image site head) snapshots names metadata.readable metadata.told.snapshots_same metadata.told.names_same ∙ h)
agree-tells image site head bytes contents snapshots names (Found (OmapSnaps slot)) parts (at, h) =
    let metadata = parts-metadata image site head bytes contents snapshots names parts in
    let loaded = (parts-map image site head bytes contents snapshots names parts).loaded in (
      at,
      whole-object image site (map_block_of image site head) loaded.whole,
      maps-same (map_count image site head) (map_xids image site head) (metadata_of image site head) snapshots metadata.told.snapshots_same
          ∙ (ap (λ (c : Contents). map_agrees c.snap_count (xids_of c) snapshots) (sym loaded.same) ∙ h),
    )
agree-tells image site head bytes contents snapshots names (Unsupported feature block) parts h = absurd h
agree-tells image site head bytes contents snapshots names ReadFault parts h = tt
agree-tells image site head bytes contents snapshots names NoMemory parts h = tt

-- what agrees, agrees by the definition
parts-agree : (image : List ℕ) (site : Site) (head : VolHead) (bytes : List ℕ) (contents : Contents) (snapshots : List SnapshotRecord) (names : List NameRecord) → HasParts image site head bytes contents snapshots names
    → AgreeBy (field.snapshots_of bytes) contents.snap_count (xids_of contents) snapshots names → Agree (counted_snapshots image site head) (map_count image site head) (map_xids image site head) (metadata_of image site head)
parts-agree image site head bytes contents snapshots names parts agreed =
    let metadata = parts-metadata image site head bytes contents snapshots names parts in
    let loaded = (parts-map image site head bytes contents snapshots names parts).loaded in
    record {
      readable = metadata.readable;
      counted = counts-same (counted_snapshots image site head) (metadata_of image site head) snapshots metadata.told.snapshots_same ∙ (ap (λ bs. field.snapshots_of bs == length snapshots) (sym parts.same) ∙ agreed.counted);
      named = names-same (metadata_of image site head) snapshots names metadata.readable metadata.told.snapshots_same metadata.told.names_same ∙ agreed.named;
      mapped = maps-same (map_count image site head) (map_xids image site head) (metadata_of image site head) snapshots metadata.told.snapshots_same
          ∙ (ap (λ (c : Contents). map_agrees c.snap_count (xids_of c) snapshots) (sym loaded.same) ∙ agreed.mapped);
    }

readable-long : (p : Pair) → is_snapshot_readable p ≡ true → is_snapshot_long p ≡ true
unfolding is_snapshot_readable
readable-long p e = left-true _ _ (left-true _ _ e)

-- a record that was kept is one of a snapshot of the volume
record IsFrom (image : List ℕ) (site : Site) (head : VolHead) (told : SnapshotRecord) : Type 0 where
  pair : Pair
  one : IsSnapshotOf image site head pair
  same : told ≡ snapshot_told pair

told-from : (image : List ℕ) (site : Site) (head : VolHead) (bytes : List ℕ) (contents : Contents) (snapshots : List SnapshotRecord) (names : List NameRecord) (told : SnapshotRecord) → HasParts image site head bytes contents snapshots names → In told snapshots → IsFrom image site head told
told-from image site head bytes contents snapshots names told parts h =
    let metadata = parts-metadata image site head bytes contents snapshots names parts in
    let pairs = metadata_of image site head in
    let found = from-map snapshot_told (snapshot_pairs pairs) told (subst (λ xs. In told xs) metadata.told.snapshots_same h) in
    record { pair = found.0; one = record { one = found.1.0; long = readable-long found.0 (each-snapshot pairs found.0 metadata.readable found.1.0) }; same = found.1.1 }

record-tells : (image : List ℕ) (site : Site) (head : VolHead) (told : SnapshotRecord) (stop : Stop VolStop) → IsFrom image site head told → Tells (IsRecordStop image site told) (IsRecordFeature image site told) stop → Tells (IsLoadStop image site head) (IsLoadFeature image site head) stop
record-tells image site head told (Found (Head block why)) from h =
    (record { named = record { pair = from.pair; one = from.one; same = ap (λ (t : SnapshotRecord). t.super_block) (sym from.same) ∙ h.0 }; inside = h.1 }, h.2)
record-tells image site head told (Found (Magic block)) from h =
    (record { named = record { pair = from.pair; one = from.one; same = ap (λ (t : SnapshotRecord). t.super_block) (sym from.same) ∙ h.0 }; inside = h.1 }, h.2, h.3)
record-tells image site head told (Found (Unnamed Physical oid)) from h =
    (inr (record { pair = from.pair; one = from.one; same = ap (λ (t : SnapshotRecord). t.super_block) (sym from.same) ∙ h.0 }), h.1)
record-tells image site head told (Found (Unnamed Container oid)) from h = absurd h
record-tells image site head told (Found (Unnamed Ephemeral oid)) from h = absurd h
record-tells image site head told (Found (Unnamed (Volume slot) oid)) from h = absurd h
record-tells image site head told (Found (Omap fault)) from h = absurd h
record-tells image site head told (Found (Walk root why)) from h = absurd h
record-tells image site head told (Found (SnapRecord slot)) from h = absurd h
record-tells image site head told (Found (SnapCount slot)) from h = absurd h
record-tells image site head told (Found (SnapName slot)) from h = absurd h
record-tells image site head told (Found (OmapSnaps slot)) from h = absurd h
record-tells image site head told (Unsupported feature block) from h = inr (inr (inr (inr (record {
  pair = from.pair;
  one = from.one;
  same = ap (λ (t : SnapshotRecord). t.super_block) (sym from.same) ∙ h.0;
  has = elim h.1 [ inl x ↦ inl (subst (λ (t : SnapshotRecord). In feature (snapshot_record_features t.flags)) from.same x) | inr y ↦ inr y ];
}))))
record-tells image site head told ReadFault from h = tt
record-tells image site head told NoMemory from h = tt

-- why the snapshots stop is there
pub snapshots-tell : (image : List ℕ) (site : Site) (head : VolHead) (bytes : List ℕ) (contents : Contents) (snapshots : List SnapshotRecord) (names : List NameRecord) (stop : Stop VolStop) → HasParts image site head bytes contents snapshots names
    → Tells (IsStopOfOne image site snapshots) (IsFeatureOfOne image site snapshots) stop → Tells (IsLoadStop image site head) (IsLoadFeature image site head) stop
snapshots-tell image site head bytes contents snapshots names (Found fault) parts (told, here, why) = record-tells image site head told (Found fault) (told-from image site head bytes contents snapshots names told parts here) why
snapshots-tell image site head bytes contents snapshots names (Unsupported feature block) parts (told, here, why) = record-tells image site head told (Unsupported feature block) (told-from image site head bytes contents snapshots names told parts here) why
snapshots-tell image site head bytes contents snapshots names ReadFault parts h = tt
snapshots-tell image site head bytes contents snapshots names NoMemory parts h = tt

-- why one snapshot stops is why they stop
pub one-tells : (image : List ℕ) (site : Site) (records : List SnapshotRecord) (told : SnapshotRecord) (stop : Stop VolStop) → In told records → Tells (IsRecordStop image site told) (IsRecordFeature image site told) stop → Tells (IsStopOfOne image site records) (IsFeatureOfOne image site records) stop
one-tells image site records told (Found fault) h why = (told, h, why)
one-tells image site records told (Unsupported feature block) h why = (told, h, why)
one-tells image site records told ReadFault h why = tt
one-tells image site records told NoMemory h why = tt

-- the item of a place is one of them
pub item-in : {X : Type 0} (xs : List X) (i : ℕ) (x : X) → i < length xs → x ≡ get_or xs i x → In x xs
item-in xs i x low e = contains-in xs x i low (sym e)

-- one more snapshot
pub snapshots-more : (image : List ℕ) (site : Site) (records : List SnapshotRecord) (i : ℕ) (told : SnapshotRecord) (snaps later : List Snapshot) (snap : Snapshot) → i < length records → told ≡ get_or records i told → AreSnapshots image site (take i records) snaps → IsRightSnapshotOf image site told snap → later ≡ snaps ++ snap ∷ []
    → AreSnapshots image site (take (i + 1) records) later
snapshots-more image site records i told snaps later snap low e had one more =
    let taken : take (i + 1) records ≡ take i records ++ told ∷ [] = take_more records i told low ∙ ap (λ t. take i records ++ t ∷ []) (sym e) in
    record {
      right = λ other h. elim (in-append other (take i records) (told ∷ []) (subst (λ xs. In other xs) taken h)) as (λ _. IsRightRecord image site other) [
        | inl a ↦ had.right other a
        | inr b ↦ last-right image site told other one b
      ];
      same = more ∙ (ap (λ xs. xs ++ snap ∷ []) had.same ∙ (ap (λ s. map (snapshot_for image site) (take i records) ++ s ∷ []) one.same ∙ (sym (map-append (snapshot_for image site) (take i records) (told ∷ [])) ∙ ap (map (snapshot_for image site)) (sym taken))));
    }
  where
    last-right : (image : List ℕ) (site : Site) (told other : SnapshotRecord) {snap : Snapshot} → IsRightSnapshotOf image site told snap → In other (told ∷ []) → IsRightRecord image site other
    last-right image site told other one (inl e) = subst (IsRightRecord image site) (sym e) one.right
    last-right image site told other one (inr h) = absurd h

map-same : (image : List ℕ) (site : Site) (block : ℕ) → is_whole_map image site block ≡ true → contents_of image site block ≡ map_or_empty image site block
unfolding map_or_empty
map-same image site block e = ap (λ (b : Bool). cond b (contents_of image site block) empty_map) (sym e)

snapshot-in : (image : List ℕ) (site : Site) (pair : Pair) → snapshot_for image site (snapshot_told pair) ≡ snapshot_in image site pair
unfolding snapshot_in
snapshot-in image site pair = refl

map-each : {X Y : Type 0} (f g : X → Y) (xs : List X) → ((x : X) → f x ≡ g x) → map f xs ≡ map g xs
map-each f g [] e = refl
map-each f g (x ∷ xs) e = ap (λ y. y ∷ map f xs) (e x) ∙ ap (λ ys. g x ∷ ys) (map-each f g xs e)

snapshots-same : (image : List ℕ) (site : Site) (head : VolHead) (records : List SnapshotRecord) (snaps : List Snapshot) → records ≡ map snapshot_told (snapshot_pairs (metadata_of image site head)) → snaps ≡ map (snapshot_for image site) records → snaps ≡ snapshots_in image site head
snapshots-same image site head records snaps e f =
    let pairs = snapshot_pairs (metadata_of image site head) in
    f ∙ (ap (map (snapshot_for image site)) e ∙ (map-twice snapshot_told (snapshot_for image site) pairs ∙ map-each (λ p. snapshot_for image site (snapshot_told p)) (snapshot_in image site) pairs (snapshot-in image site)))

loaded-same : (image : List ℕ) (site : Site) (head : VolHead) (bytes : List ℕ) (contents : Contents) (steps : List Step) (snaps : List Snapshot) → bytes ≡ super_of image site head → contents ≡ map_or_empty image site (map_block_of image site head) → steps ≡ metadata_steps_of image site head → snaps ≡ snapshots_in image site head
    → loaded_by head bytes contents steps snaps ≡ loaded_of image site head
unfolding loaded_of
loaded-same image site head bytes contents steps snaps e f t h =
    let own = super_of image site head in
    let found = map_or_empty image site (map_block_of image site head) in
    ap (λ bs. loaded_by head bs contents steps snaps) e ∙ (ap (λ c. loaded_by head own c steps snaps) f ∙ (ap (λ ts. loaded_by head own found ts snaps) t ∙ ap (loaded_by head own found (metadata_steps_of image site head)) h))

metadata-whole : (image : List ℕ) (site : Site) (head : VolHead) (snapshots : List SnapshotRecord) (names : List NameRecord) → HasMetadata image site (field.snaps_root_of (super_of image site head)) snapshots names → has_whole_metadata image site head ≡ true
unfolding has_whole_metadata
metadata-whole image site head snapshots names metadata = metadata.whole

-- the parts make the volume
pub parts-volume : (image : List ℕ) (site : Site) (head : VolHead) (bytes : List ℕ) (contents : Contents) (snapshots : List SnapshotRecord) (names : List NameRecord) (steps : List Step) (snaps : List Snapshot) → HasParts image site head bytes contents snapshots names → volume_features bytes ≡ []
    → AgreeBy (field.snapshots_of bytes) contents.snap_count (xids_of contents) snapshots names → steps ≡ metadata_steps image site (field.snaps_root_of bytes) → AreSnapshots image site snapshots snaps → IsVolumeOf image site head (loaded_by head bytes contents steps snaps)
parts-volume image site head bytes contents snapshots names steps snaps parts plain agreed taken made =
    let metadata = parts-metadata image site head bytes contents snapshots names parts in
    let map_has = parts-map image site head bytes contents snapshots names parts in
    record {
      right = record {
        plain = subst (λ bs. volume_features bs ≡ []) parts.same plain;
        map = map_has.loaded.whole;
        settled = map_has.loaded.settled;
        unmarked = subst (λ (c : Contents). snapshot_features c.snapshots ≡ []) map_has.loaded.same map_has.unmarked;
        metadata = metadata-whole image site head snapshots names metadata;
        agreed = parts-agree image site head bytes contents snapshots names parts agreed;
        snapshots = λ pair h.
            let right = made.right (snapshot_told pair) (subst (λ xs. In (snapshot_told pair) xs) (sym metadata.told.snapshots_same) (in-map snapshot_told (snapshot_pairs (metadata_of image site head)) pair h)) in
            record { inside = right.inside; super = right.super; unmarked = right.unmarked; plain = right.plain };
      };
      same = loaded-same image site head bytes contents steps snaps parts.same (map_has.loaded.same ∙ map-same image site (map_block_of image site head) map_has.loaded.whole)
          (taken ∙ ap (λ bs. metadata_steps image site (field.snaps_root_of bs)) parts.same) (snapshots-same image site head snapshots snaps metadata.told.snapshots_same made.same);
    }

-- where a volume can be loaded, only the source or the memory stops `load`
pub load-free : (image : List ℕ) (site : Site) (head : VolHead) (stop : Stop VolStop) → IsLoadable image site head → Tells (IsLoadStop image site head) (IsLoadFeature image site head) stop → IsFree stop
load-free image site head (Found fault) right h = load-refutes image site head fault right h
load-free image site head (Unsupported feature block) right h = load-plain image site head feature block right h
load-free image site head ReadFault right h = tt
load-free image site head NoMemory right h = tt

-- the parts, as they were handed on
pub parts-of : (image : List ℕ) (r s : Site) (head : VolHead) (bytes b1 b2 b3 : List ℕ) (contents : Contents) (snapshots later : List SnapshotRecord) (names further : List NameRecord) → r ≡ s → bytes ≡ super_of image r head → b1 ≡ bytes → b2 ≡ bytes → b3 ≡ bytes → later ≡ snapshots → further ≡ names
    → HasVolumeMap image r (field.omap_oid_of b1) contents → HasMetadata image r (field.snaps_root_of b2) snapshots names → HasParts image s head b3 contents later further
parts-of image r s head bytes b1 b2 b3 contents snapshots later names further same found e1 e2 e3 e4 e5 map_has metadata = record {
  same = e3 ∙ (found ∙ ap (λ t. super_of image t head) same);
  map = subst (λ t. HasVolumeMap image t (field.omap_oid_of b3) contents) same (subst (λ b. HasVolumeMap image r (field.omap_oid_of b) contents) (e1 ∙ sym e3) map_has);
  metadata = subst (λ t. HasMetadata image t (field.snaps_root_of b3) later further) same
      (subst (λ ns. HasMetadata image r (field.snaps_root_of b3) later ns) (sym e5) (subst (λ ss. HasMetadata image r (field.snaps_root_of b3) ss names) (sym e4) (subst (λ b. HasMetadata image r (field.snaps_root_of b) snapshots names) (e2 ∙ sym e3) metadata)));
}

-- a volume that is made of them is the defined one
pub made-volume : (P : Loaded → Type 0) (r : Result Loaded (Stop VolStop)) (volume : Loaded) → IfOk r (λ made. made ≡ volume) → P volume → IfOk r P
made-volume P (Ok made) volume e h = subst P (sym e) h
made-volume P (Err stop) volume e h = tt

-- a stop that is free tells of nothing
pub free-tells : (is_stop : VolStop → Type 0) (is_feature : Feature → ℕ → Type 0) (stop : Stop VolStop) → IsFree stop → Tells is_stop is_feature stop
free-tells is_stop is_feature (Found f) h = absurd h
free-tells is_stop is_feature (Unsupported name at) h = absurd h
free-tells is_stop is_feature ReadFault h = tt
free-tells is_stop is_feature NoMemory h = tt

-- nor does one that is of memory
pub memory-free : {X : Type 0} (r : Result X (Stop VolStop)) → IfErr r (λ stop. stop ≡ NoMemory) → IfErr r IsFree
memory-free (Ok x) e = tt
memory-free (Err stop) e = subst IsFree (sym e) tt

pub memory-tells : {X : Type 0} (is_stop : VolStop → Type 0) (is_feature : Feature → ℕ → Type 0) (r : Result X (Stop VolStop)) → IfErr r (λ stop. stop ≡ NoMemory) → IfErr r (Tells is_stop is_feature)
memory-tells is_stop is_feature (Ok x) e = tt
memory-tells is_stop is_feature (Err stop) e = subst (Tells is_stop is_feature) (sym e) tt
