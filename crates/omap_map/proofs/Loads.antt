-- What the parts of a map tell of the whole.
use Rattle.std.specs.Prelude.{◌≡◌, ℕ, ◌+◌, ◌≤◌, ◌<◌, ◌&&◌, ◌||◌, Bool, true, false, ◌==◌, List, [], ◌∷◌, ◌++◌, Option, None, Some, Result, Ok, Err, refl, is_ok, is_some, if◌then◌else◌}
use Rattle.std.proofs.Common.{arith, ap, sym, ◌∙◌, subst, inl, inr}
use Rattle.std.proofs.lemmas.Bool.Decides.{nat_tests}
use Rattle.apfs_model.specs.Blocks.{in_container}
use Rattle.apfs_model.specs.Lists.{In}
use Rattle.obj_base.specs.declared.header.Header.{Header}
use Rattle.obj_base.specs.declared.header.HeadFault.{HeadFault}
use Rattle.obj_base.specs.declared.stop.Bad.{Bad}
use Rattle.obj_base.specs.declared.stop.Bad.TheVariants as bads
use Rattle.obj_base.specs.declared.stop.Feature.TheVariants.{Revert}
use Rattle.obj_base.specs.declared.stop.Stop.{Stop}
use Rattle.obj_base.specs.declared.stop.Stop.TheVariants.{Found, Unsupported, ReadFault, NoMemory}
use Rattle.obj_base.specs.Stops.{Tells, IsFree}
use Rattle.obj_base.specs.declared.site.Site.{Site}
use Rattle.bt_cursor.specs.Faults.{HasFeature}
use Rattle.bt_cursor.specs.Flat.{flat_of}
use Rattle.bt_cursor.specs.Whole.{is_whole}
use Rattle.bt_cursor.specs.Steps.{steps_of}
use Rattle.bt_cursor.specs.declared.step.Step.{Step}
use Rattle.bt_cursor.proofs.Places.{whole-world, tree-levelled}
use Rattle.bt_cursor.proofs.Wholes.{whole_means}
use Rattle.bt_keys.specs.Shapes.{omap_shape, omap_snap_shape}
use Rattle.omap_map.specs.Fields.{snap_count_of, tree_of, snap_tree_of}
use Rattle.omap_map.specs.Records.{records_of, snapshots_of}
use Rattle.omap_map.specs.Resolve.{resolved}
use Rattle.omap_map.specs.Features.{is_reverting}
use Rattle.omap_map.specs.Maps.{Contents, map_in, head_of, is_map_object, record_tree, snapshot_tree, map_records, map_snapshots, map_steps, map_snap_steps, contents_of, has_no_snapshots, has_whole_snapshots, is_whole_map, resolved_in, IsTreeFault, IsMapFault, IsMapFeature}
use Rattle.omap_map.specs.Loading.{map_nodes, after_header, object_of, IsLoaded}
use Rattle.omap_map.specs.Gathered.{IsTree, HasSnapshots, IsSnapshotsFault, IsSnapshotsFeature}
use Rattle.omap_map.specs.declared.records.OmapRecord.{OmapRecord}
use Rattle.omap_map.specs.declared.fault.OmapFault.{OmapFault}
use Rattle.omap_map.specs.declared.fault.OmapFault.TheVariants.{Head, Tree as TreeFault}

-- a block above 0 and below the container's end is one of the container
pub block_inside : (blocks block : ℕ) → 0 < block → block < blocks → in_container blocks block ≡ Some block
block_inside blocks block low high = grind (arith, nat_tests)

reverting-stop : (block : ℕ) (bytes : List ℕ) (stop : Stop OmapFault) (b : Bool) → is_reverting bytes ≡ b → (if b then Err (Unsupported Revert block) else Ok bytes) ≡ Err stop → (b ≡ true) × (stop ≡ Unsupported Revert block)
reverting-stop block bytes stop true e f = (refl, cc)
reverting-stop block bytes stop false e f = absurd (cc)

-- why the object of a map stops is there
header-stops : (image : List ℕ) (site : Site) (block : ℕ) (stop : Stop OmapFault) (r : Result Header (Bad HeadFault)) → in_container site.blocks block ≡ Some block → head_of image site block ≡ r → is_map_object image site block ≡ is_ok r
    → after_header block (map_in image site block) r ≡ Err stop → Tells (IsMapFault image site block) (IsMapFeature image site block) stop
header-stops image site block stop (Ok h) inside e sound f =
    let pending = reverting-stop block (map_in image site block) stop (is_reverting (map_in image site block)) refl f in
    subst (Tells (IsMapFault image site block) (IsMapFeature image site block)) (sym pending.1)
    (inr (sound, inl (refl, subst (λ (b : Bool). In Revert (if b then Revert ∷ [] else [])) (sym pending.0) (inl refl))))
header-stops image site block stop (Err (bads.Found why)) inside e sound f =
    let same : stop ≡ Found (Head block why) = cc in
    subst (Tells (IsMapFault image site block) (IsMapFeature image site block)) (sym same) (refl, inside, e)
header-stops image site block stop (Err (bads.Unsupported feature)) inside e sound f =
    let same : stop ≡ Unsupported feature block = cc in
    subst (Tells (IsMapFault image site block) (IsMapFeature image site block)) (sym same) (inl (refl, inside, e))

object-sound : (image : List ℕ) (site : Site) (block : ℕ) → in_container site.blocks block ≡ Some block → is_map_object image site block ≡ is_ok (head_of image site block)
unfolding is_map_object
object-sound image site block inside = ap (λ (o : Option ℕ). is_some o && is_ok (head_of image site block)) inside

pub object-stops : (image : List ℕ) (site : Site) (block : ℕ) (stop : Stop OmapFault) → in_container site.blocks block ≡ Some block → object_of image site block ≡ Err stop → Tells (IsMapFault image site block) (IsMapFeature image site block) stop
unfolding object_of
object-stops image site block stop inside e = header-stops image site block stop (head_of image site block) inside refl (object-sound image site block inside) e

-- the object of a map that doesn't stop is sound, and no revert is pending
pub record IsObject (image : List ℕ) (site : Site) (block : ℕ) (bytes : List ℕ) : Type 0 where
  pub same : bytes ≡ map_in image site block
  pub sound : is_map_object image site block ≡ true
  pub settled : is_reverting (map_in image site block) ≡ false

abbrev as_stop : Stop OmapFault → Stop OmapFault
as_stop stop = stop

reverting-none : (block : ℕ) (bytes other : List ℕ) (b : Bool) → (if b then Err (as_stop (Unsupported Revert block)) else Ok bytes) ≡ Ok other → (b ≡ false) × (other ≡ bytes)
reverting-none block bytes other true f = absurd (cc)
reverting-none block bytes other false f = (refl, cc)

header-means : (image : List ℕ) (site : Site) (block : ℕ) (bytes : List ℕ) (r : Result Header (Bad HeadFault)) → is_map_object image site block ≡ is_ok r → after_header block (map_in image site block) r ≡ Ok bytes → IsObject image site block bytes
header-means image site block bytes (Ok h) sound f =
    let settled = reverting-none block (map_in image site block) bytes (is_reverting (map_in image site block)) f in
    record { same = settled.1; sound = sound; settled = settled.0 }
header-means image site block bytes (Err bad) sound f = absurd (cc)

pub object-means : (image : List ℕ) (site : Site) (block : ℕ) (bytes : List ℕ) → in_container site.blocks block ≡ Some block → object_of image site block ≡ Ok bytes → IsObject image site block bytes
unfolding object_of
object-means image site block bytes inside e = header-means image site block bytes (head_of image site block) (object-sound image site block inside) e

-- why the tree of records stops is there
pub records-stop : (image : List ℕ) (site : Site) (block : ℕ) (bytes : List ℕ) (root : ℕ) (stop : Stop OmapFault) → IsObject image site block bytes → root ≡ tree_of bytes
    → Tells (IsTreeFault (record_tree image site) root) (HasFeature (record_tree image site) root) stop → Tells (IsMapFault image site block) (IsMapFeature image site block) stop
records-stop image site block bytes root (Found (Head at why)) object e h = absurd h
records-stop image site block bytes root (Found (TreeFault other why)) object e h =
    (object.sound, inl (subst (λ r. IsTreeFault (record_tree image site) r (TreeFault other why)) (e ∙ ap tree_of object.same) h))
records-stop image site block bytes root (Unsupported feature at) object e h =
    inr (object.sound, inr (inl (subst (λ r. HasFeature (record_tree image site) r feature at) (e ∙ ap tree_of object.same) h)))
records-stop image site block bytes root ReadFault object e h = tt
records-stop image site block bytes root NoMemory object e h = tt

-- why the tree of snapshots stops is there
pub snapshots-stop : (image : List ℕ) (site : Site) (block : ℕ) (bytes : List ℕ) (root : ℕ) (stop : Stop OmapFault) → IsObject image site block bytes → root ≡ snap_tree_of bytes
    → Tells (IsSnapshotsFault image site root) (IsSnapshotsFeature image site root) stop → Tells (IsMapFault image site block) (IsMapFeature image site block) stop
snapshots-stop image site block bytes root (Found (Head at why)) object e h = absurd h.1
snapshots-stop image site block bytes root (Found (TreeFault other why)) object e h =
    (object.sound, inr (subst (λ r. IsSnapshotsFault image site r (TreeFault other why)) (e ∙ ap snap_tree_of object.same) h))
snapshots-stop image site block bytes root (Unsupported feature at) object e h =
    inr (object.sound, inr (inr (subst (λ r. IsSnapshotsFeature image site r feature at) (e ∙ ap snap_tree_of object.same) h)))
snapshots-stop image site block bytes root ReadFault object e h = tt
snapshots-stop image site block bytes root NoMemory object e h = tt

-- the parts that were loaded
pub record HasParts (image : List ℕ) (site : Site) (block : ℕ) (contents : Contents) (start first second last : ℕ) : Type 0 where
  pub bytes : List ℕ
  pub object : IsObject image site block bytes
  pub records : IsTree records_of (record_tree image site) (tree_of bytes) contents.records contents.steps first second
  pub snapshots : HasSnapshots image site (snap_tree_of bytes) contents.snapshots contents.snap_steps second last
  pub count : contents.snap_count ≡ snap_count_of bytes
  pub block_is : contents.block ≡ block
  pub tree_is : contents.tree ≡ tree_of bytes
  pub snap_tree_is : contents.snap_tree ≡ snap_tree_of bytes

abbrev made : List OmapRecord → List (ℕ × ℕ) → ℕ → ℕ → ℕ → ℕ → List Step → List Step → Contents
made r s n at t u ss us = record { records = r; snapshots = s; snap_count = n; block = at; tree = t; snap_tree = u; steps = ss; snap_steps = us }

contents-same : (a b : Contents) → a.records ≡ b.records → a.snapshots ≡ b.snapshots → a.snap_count ≡ b.snap_count → a.block ≡ b.block → a.tree ≡ b.tree → a.snap_tree ≡ b.snap_tree → a.steps ≡ b.steps → a.snap_steps ≡ b.snap_steps → a ≡ b
contents-same a b e f g h i j k l =
    ap (λ (x : List OmapRecord). made x a.snapshots a.snap_count a.block a.tree a.snap_tree a.steps a.snap_steps) e
    ∙ (ap (λ (x : List (ℕ × ℕ)). made b.records x a.snap_count a.block a.tree a.snap_tree a.steps a.snap_steps) f
    ∙ (ap (λ (x : ℕ). made b.records b.snapshots x a.block a.tree a.snap_tree a.steps a.snap_steps) g
    ∙ (ap (λ (x : ℕ). made b.records b.snapshots b.snap_count x a.tree a.snap_tree a.steps a.snap_steps) h
    ∙ (ap (λ (x : ℕ). made b.records b.snapshots b.snap_count b.block x a.snap_tree a.steps a.snap_steps) i
    ∙ (ap (λ (x : ℕ). made b.records b.snapshots b.snap_count b.block b.tree x a.steps a.snap_steps) j
    ∙ (ap (λ (x : List Step). made b.records b.snapshots b.snap_count b.block b.tree b.snap_tree x a.snap_steps) k
    ∙ (ap (λ (x : List Step). made b.records b.snapshots b.snap_count b.block b.tree b.snap_tree b.steps x) l)))))))

parts-records : (image : List ℕ) (site : Site) (block : ℕ) (records : List OmapRecord) → records ≡ records_of (flat_of (record_tree image site) (tree_of (map_in image site block))) → records ≡ map_records image site block
unfolding map_records
parts-records image site block records e = e

parts-snapshots : (image : List ℕ) (site : Site) (block : ℕ) (snapshots : List (ℕ × ℕ)) → snapshots ≡ (if has_no_snapshots (map_in image site block) then [] else snapshots_of (flat_of (snapshot_tree image site) (snap_tree_of (map_in image site block)))) → snapshots ≡ map_snapshots image site block
unfolding map_snapshots
parts-snapshots image site block snapshots e = e

parts-steps : (image : List ℕ) (site : Site) (block : ℕ) (steps : List Step) → steps ≡ steps_of (record_tree image site) (tree_of (map_in image site block)) → steps ≡ map_steps image site block
unfolding map_steps
parts-steps image site block steps e = e

parts-snap-steps : (image : List ℕ) (site : Site) (block : ℕ) (steps : List Step) → steps ≡ (if has_no_snapshots (map_in image site block) then [] else steps_of (snapshot_tree image site) (snap_tree_of (map_in image site block))) → steps ≡ map_snap_steps image site block
unfolding map_snap_steps
parts-snap-steps image site block steps e = e

parts-whole : (image : List ℕ) (site : Site) (block : ℕ) → is_map_object image site block ≡ true → is_whole (record_tree image site) (tree_of (map_in image site block)) ≡ true
    → (has_no_snapshots (map_in image site block) || is_whole (snapshot_tree image site) (snap_tree_of (map_in image site block))) ≡ true → is_whole_map image site block ≡ true
unfolding is_whole_map has_whole_snapshots
parts-whole image site block e f g = ap (λ (b : Bool). b && (is_whole (record_tree image site) (tree_of (map_in image site block)) && has_whole_snapshots image site block)) e ∙ (ap (λ (b : Bool). b && has_whole_snapshots image site block) f ∙ g)

-- they are those of a whole map
pub parts-loaded : (image : List ℕ) (site : Site) (block : ℕ) (contents : Contents) (start first second last : ℕ) → HasParts image site block contents start first second last → IsLoaded image site block contents
parts-loaded image site block contents start first second last parts =
    let same = parts.object.same in
    let tree = subst (λ bytes. IsTree records_of (record_tree image site) (tree_of bytes) contents.records contents.steps first second) same parts.records in
    let snapshots = subst (λ bytes. HasSnapshots image site (snap_tree_of bytes) contents.snapshots contents.snap_steps second last) same parts.snapshots in
    let bytes = map_in image site block in
    record {
      whole = parts-whole image site block parts.object.sound tree.whole snapshots.whole;
      settled = parts.object.settled;
      same = contents-same contents (contents_of image site block) (parts-records image site block contents.records tree.same) (parts-snapshots image site block contents.snapshots snapshots.same) (parts.count ∙ ap snap_count_of same) parts.block_is (parts.tree_is ∙ ap tree_of same) (parts.snap_tree_is ∙ ap snap_tree_of same)
          (parts-steps image site block contents.steps tree.taken) (parts-snap-steps image site block contents.snap_steps snapshots.taken);
    }

-- and there were no more reads than its object and its nodes
pub parts-few : (image : List ℕ) (site : Site) (block : ℕ) (contents : Contents) (start first second last : ℕ) → first ≤ start + 1 → HasParts image site block contents start first second last → last ≤ start + (1 + map_nodes image site block)
unfolding map_nodes
parts-few image site block contents start first second last one parts =
    let same = parts.object.same in
    let tree = subst (λ bytes. IsTree records_of (record_tree image site) (tree_of bytes) contents.records contents.steps first second) same parts.records in
    let snapshots = subst (λ bytes. HasSnapshots image site (snap_tree_of bytes) contents.snapshots contents.snap_steps second last) same parts.snapshots in
    omega (arith, tree.few, snapshots.few, one)

-- why the object of a map stops is there, as its answer tells it
pub object-tells : (image : List ℕ) (site : Site) (block : ℕ) (stop : Stop OmapFault) → in_container site.blocks block ≡ Some block
    → Tells (λ f. object_of image site block ≡ Err (Found f)) (λ name at. object_of image site block ≡ Err (Unsupported name at)) stop → Tells (IsMapFault image site block) (IsMapFeature image site block) stop
object-tells image site block (Found f) inside h = object-stops image site block (Found f) inside h
object-tells image site block (Unsupported name at) inside h = object-stops image site block (Unsupported name at) inside h
object-tells image site block ReadFault inside h = tt
object-tells image site block NoMemory inside h = tt

and-left : (a b : Bool) → (a && b) ≡ true → a ≡ true
and-left true b e = refl
and-left false b e = e

and-right : (a b : Bool) → (a && b) ≡ true → b ≡ true
and-right true b e = e
and-right false b e = absurd (cc)

or-right : (a b : Bool) → a ≡ false → (a || b) ≡ true → b ≡ true
or-right true b e f = absurd (cc)
or-right false b e f = f

-- a whole map has a sound object, in a block of the container
pub whole-object : (image : List ℕ) (site : Site) (block : ℕ) → is_whole_map image site block ≡ true → is_map_object image site block ≡ true
unfolding is_whole_map
whole-object image site block e = and-left (is_map_object image site block) (is_whole (record_tree image site) (tree_of (map_in image site block)) && has_whole_snapshots image site block) e

pub object-inside : (image : List ℕ) (site : Site) (block : ℕ) → is_map_object image site block ≡ true → is_some (in_container site.blocks block) ≡ true
unfolding is_map_object
object-inside image site block e = and-left (is_some (in_container site.blocks block)) (is_ok (head_of image site block)) e

object-head : (image : List ℕ) (site : Site) (block : ℕ) → is_map_object image site block ≡ true → is_ok (head_of image site block) ≡ true
unfolding is_map_object
object-head image site block e = and-right (is_some (in_container site.blocks block)) (is_ok (head_of image site block)) e

whole-records : (image : List ℕ) (site : Site) (block : ℕ) → is_whole_map image site block ≡ true → is_whole (record_tree image site) (tree_of (map_in image site block)) ≡ true
unfolding is_whole_map
whole-records image site block e =
    and-left (is_whole (record_tree image site) (tree_of (map_in image site block))) (has_whole_snapshots image site block)
    (and-right (is_map_object image site block) (is_whole (record_tree image site) (tree_of (map_in image site block)) && has_whole_snapshots image site block) e)

whole-snapshots : (image : List ℕ) (site : Site) (block : ℕ) → is_whole_map image site block ≡ true → has_no_snapshots (map_in image site block) ≡ false → is_whole (snapshot_tree image site) (snap_tree_of (map_in image site block)) ≡ true
unfolding is_whole_map has_whole_snapshots
whole-snapshots image site block e f =
    or-right (has_no_snapshots (map_in image site block)) (is_whole (snapshot_tree image site) (snap_tree_of (map_in image site block))) f
    (and-right (is_whole (record_tree image site) (tree_of (map_in image site block))) (has_whole_snapshots image site block)
    (and-right (is_map_object image site block) (is_whole (record_tree image site) (tree_of (map_in image site block)) && has_whole_snapshots image site block) e))

ok-err : {T E : Type 0} (r : Result T E) (e : E) → r ≡ Err e → is_ok r ≡ true → ⊥
ok-err (Ok x) e f g = cc
ok-err (Err d) e f g = cc

-- in a whole map of which no revert is pending, nothing is there that `load` could name
pub whole-free : (image : List ℕ) (site : Site) (block : ℕ) (stop : Stop OmapFault) → is_whole_map image site block ≡ true → is_reverting (map_in image site block) ≡ false
    → Tells (IsMapFault image site block) (IsMapFeature image site block) stop → IsFree stop
whole-free image site block (Found (Head at why)) whole settled h = ok-err (head_of image site block) (bads.Found why) h.2 (object-head image site block (whole-object image site block whole))
whole-free image site block (Found (TreeFault root why)) whole settled (sound, inl h) =
    whole-world (record_tree image site) (tree_of (map_in image site block)) (Found why) (tree-levelled omap_shape site (in_container site.blocks) image)
    (whole_means (record_tree image site) (tree_of (map_in image site block)) (whole-records image site block whole)) h.1
whole-free image site block (Found (TreeFault root why)) whole settled (sound, inr h) =
    whole-world (snapshot_tree image site) (snap_tree_of (map_in image site block)) (Found why) (tree-levelled omap_snap_shape site (in_container site.blocks) image)
    (whole_means (snapshot_tree image site) (snap_tree_of (map_in image site block)) (whole-snapshots image site block whole h.0)) h.1.1
whole-free image site block (Unsupported feature at) whole settled (inl h) = ok-err (head_of image site block) (bads.Unsupported feature) h.2 (object-head image site block (whole-object image site block whole))
whole-free image site block (Unsupported feature at) whole settled (inr (sound, inl h)) = subst (λ (b : Bool). In feature (if b then Revert ∷ [] else [])) settled h.1
whole-free image site block (Unsupported feature at) whole settled (inr (sound, inr (inl h))) =
    whole-world (record_tree image site) (tree_of (map_in image site block)) (Unsupported feature at) (tree-levelled omap_shape site (in_container site.blocks) image)
    (whole_means (record_tree image site) (tree_of (map_in image site block)) (whole-records image site block whole)) h
whole-free image site block (Unsupported feature at) whole settled (inr (sound, inr (inr h))) =
    whole-world (snapshot_tree image site) (snap_tree_of (map_in image site block)) (Unsupported feature at) (tree-levelled omap_snap_shape site (in_container site.blocks) image)
    (whole_means (snapshot_tree image site) (snap_tree_of (map_in image site block)) (whole-snapshots image site block whole h.0)) h.1
whole-free image site block ReadFault whole settled h = tt
whole-free image site block NoMemory whole settled h = tt

-- through a loaded map an id resolves to the record of the image's map, and names its block
pub resolved-loaded : (image : List ℕ) (site : Site) (block : ℕ) (contents : Contents) → IsLoaded image site block contents → (oid x : ℕ) → resolved contents.records oid x ≡ resolved_in image site block oid x
unfolding resolved_in
resolved-loaded image site block contents loaded oid x =
    ap (λ (c : Contents). resolved c.records oid x) loaded.same ∙ ap (λ (b : Bool). if b then resolved (map_records image site block) oid x else None) (sym loaded.whole)
