-- What the steps of `load` say of the volume.
use Rattle.std.specs.Prelude.{◌≡◌, ℕ, Bool, true, false, cond, ◌&&◌, ◌||◌, ◌==◌, nat_lt, List, [], ◌∷◌, None, Some, Result, Ok, Err, refl, is_ok}
use Rattle.std.proofs.Common.{ap, sym, ◌∙◌, subst, inl, inr}
use Rattle.apfs_model.specs.Blocks.{in_container}
use Rattle.apfs_model.specs.Lists.{In}
use Rattle.obj_base.specs.Stops.{Tells, raised}
use Rattle.obj_base.specs.declared.stop.Feature.{Feature}
use Rattle.obj_base.specs.declared.stop.Feature.TheVariants.{SnapshotState}
use Rattle.obj_base.specs.declared.stop.Stop.{Stop}
use Rattle.obj_base.specs.declared.stop.Stop.TheVariants.{Found, Unsupported, ReadFault, NoMemory}
use Rattle.obj_base.specs.declared.header.Header.{Header}
use Rattle.obj_base.specs.declared.header.HeadFault.{HeadFault}
use Rattle.obj_base.specs.declared.stop.Bad.{Bad}
use Rattle.obj_base.specs.declared.stop.Bad.TheVariants as bads
use Rattle.obj_base.specs.declared.site.Site.{Site}
use Rattle.bt_cursor.specs.Line.{line_of}
use Rattle.bt_cursor.specs.WholeTree.{leaf_pairs}
use Rattle.bt_cursor.specs.Flat.{flat_of}
use Rattle.bt_cursor.specs.Steps.{steps_of}
use Rattle.bt_cursor.specs.declared.step.Step.{Step}
use Rattle.bt_cursor.specs.Whole.{is_whole}
use Rattle.bt_cursor.specs.Faults.{HasFeature}
use Rattle.bt_cursor.specs.Gathered.{IsGatherFault, IsGathered}
use Rattle.bt_cursor.specs.declared.gathering.GatherFault.{GatherFault}
use Rattle.bt_cursor.specs.declared.gathering.GatherFault.TheVariants as gathers
use Rattle.bt_cursor.proofs.Flats.{line-pairs}
use Rattle.bt_cursor.proofs.Wholes.{means_whole}
use Rattle.omap_map.specs.Features.{has_snapshot_state}
use Rattle.omap_map.specs.Maps.{Contents, map_snapshots, IsMapFault, IsMapFeature}
use Rattle.omap_map.specs.Loading.{IsLoaded}
use Rattle.omap_map.specs.declared.fault.OmapFault.{OmapFault}
use Rattle.omap_map.proofs.Loads.{whole-object}
use Rattle.vol_view.specs.Heads.{super_in, super_test, has_magic, is_super}
use Rattle.vol_view.specs.Slots.{map_raised, after_header, tested}
use Rattle.vol_view.specs.SnapRecords.{metadata_tree, metadata_pairs, metadata_steps}
use Rattle.vol_view.specs.Volumes.{map_block_of, metadata_of}
use Rattle.vol_view.specs.Agreement.{are_readable}
use Rattle.vol_view.specs.LoadStops.{metadata_root, IsLoadStop, IsLoadFeature}
use Rattle.vol_view.specs.Gathered.{first_of, is_refused, Tell, Gives, metadata_stop, HasMetadata}
use Rattle.vol_view.specs.declared.head.VolHead.{VolHead}
use Rattle.vol_view.specs.declared.volume.Snapshot.{Snapshot}
use Rattle.vol_view.specs.declared.stop.VolStop.{VolStop}
use Rattle.vol_view.specs.declared.stop.VolStop.TheVariants.{Magic}
use Rattle.vol_view.specs.declared.records.SnapshotRecord.{SnapshotRecord}
use Rattle.vol_view.specs.declared.records.NameRecord.{NameRecord}
use Rattle.vol_view.proofs.Gatherings.{kept-readable, refused-unreadable}

-- the first of some features is one of them
pub first-in : (feature : Feature) (features : List Feature) → Some feature ≡ first_of features → In feature features
first-in feature [] e = absurd (cc)
first-in feature (other ∷ features) e = inl (cc)

-- where there is no first, there is none
pub first-none : (features : List Feature) → None ≡ first_of features → features ≡ []
first-none [] e = refl
first-none (other ∷ features) e = absurd (cc)

abbrev pub made_of : ℕ → ℕ → List ℕ → ℕ → ℕ → ℕ → ℕ → Snapshot
made_of xid created name block extents root meta = record { xid = xid; created = created; name = name; super_block = block; extents_root = extents; root_oid = root; meta_ext = meta }

-- a block that a site has is in the container
pub inside-site : (blocks block : ℕ) → (nat_lt 0 block && nat_lt block blocks) ≡ true → in_container blocks block ≡ Some block
inside-site blocks block e = ap (λ b. cond b (Some block) None) e

abbrev MagicIs : Bool → ℕ → List ℕ → List ℕ → Type 0
MagicIs b block bytes bs = let answer : Result (List ℕ) (Stop VolStop) = Ok bs in cond b (Ok bytes) (Err (Found (Magic block))) ≡ answer

magic-step : (b : Bool) (block : ℕ) (bytes bs : List ℕ) → MagicIs b block bytes bs → b ≡ true
magic-step true block bytes bs e = refl
magic-step false block bytes bs e = absurd (cc)

super-step : (block : ℕ) (bytes bs : List ℕ) (r : Result Header (Bad HeadFault)) → after_header block bytes r ≡ Ok bs → (is_ok r && has_magic bytes) ≡ true
super-step block bytes bs (Ok h) e = magic-step (has_magic bytes) block bytes bs e
super-step block bytes bs (Err (bads.Found why)) e = absurd (cc)
super-step block bytes bs (Err (bads.Unsupported feature)) e = absurd (cc)

-- a superblock that passes its tests is sound
pub tested-super : (image : List ℕ) (site : Site) (block : ℕ) (bs : List ℕ) → tested site None block (super_in image site block) ≡ Ok bs → is_super image site None block ≡ true
unfolding is_super
tested-super image site block bs e = super-step block (super_in image site block) bs (super_test image site None block) e

-- why the map of a volume stops is there
pub map-tells : (image : List ℕ) (site : Site) (head : VolHead) (block : ℕ) (stop : Stop OmapFault) → block ≡ map_block_of image site head
    → Tells (IsMapFault image site block) (IsMapFeature image site block) stop → Tells (IsLoadStop image site head) (IsLoadFeature image site head) (map_raised stop)
map-tells image site head block (Found fault) same h = subst (λ b. IsMapFault image site b fault) same h
map-tells image site head block (Unsupported feature at) same h = inr (inl (subst (λ b. IsMapFeature image site b feature at) same h))
map-tells image site head block ReadFault same h = tt
map-tells image site head block NoMemory same h = tt

-- a snapshot of the map of a volume is being deleted or reverted to
pub map-marked : (image : List ℕ) (site : Site) (head : VolHead) (block : ℕ) (contents : Contents) → IsLoaded image site block contents → block ≡ map_block_of image site head → has_snapshot_state contents.snapshots ≡ true → IsLoadFeature image site head SnapshotState block
map-marked image site head block contents loaded same marked =
    let there : has_snapshot_state (map_snapshots image site block) ≡ true = subst (λ (c : Contents). has_snapshot_state c.snapshots ≡ true) loaded.same marked in
    inr (inr (inl (same, whole-object image site block loaded.whole, subst (λ (b : Bool). In SnapshotState (cond b (SnapshotState ∷ []) [])) (sym there) (inl refl))))

pairs-some : (image : List ℕ) (site : Site) (root : ℕ) → (root == 0) ≡ false → metadata_pairs image site root ≡ flat_of (metadata_tree image site) root
unfolding metadata_pairs
pairs-some image site root some = ap (λ (b : Bool). cond b [] (flat_of (metadata_tree image site) root)) some

pairs-none : (image : List ℕ) (site : Site) (root : ℕ) → root ≡ 0 → metadata_pairs image site root ≡ []
unfolding metadata_pairs
pairs-none image site root none = ap (λ (r : ℕ). cond (r == 0) [] (flat_of (metadata_tree image site) r)) none

steps-some : (image : List ℕ) (site : Site) (root : ℕ) → (root == 0) ≡ false → metadata_steps image site root ≡ steps_of (metadata_tree image site) root
unfolding metadata_steps
steps-some image site root some = ap (λ (b : Bool). cond b [] (steps_of (metadata_tree image site) root)) some

-- where a volume has no snapshot metadata tree, there are no steps
pub steps-none : (image : List ℕ) (site : Site) (root : ℕ) → root ≡ 0 → metadata_steps image site root ≡ []
unfolding metadata_steps
steps-none image site root none = ap (λ (r : ℕ). cond (r == 0) [] (steps_of (metadata_tree image site) r)) none

none-readable : are_readable [] ≡ true
unfolding are_readable
none-readable = refl

-- where a volume has no snapshot metadata tree, no record is gathered
pub no-metadata : (image : List ℕ) (site : Site) (root : ℕ) → root ≡ 0 → HasMetadata image site root [] []
no-metadata image site root none =
    let empty = pairs-none image site root none in
    record {
      whole = ap (λ (r : ℕ). r == 0 || is_whole (metadata_tree image site) r) none;
      readable = ap are_readable empty ∙ none-readable;
      told = subst (λ ps. Tell ps [] []) (sym empty) (record { snapshots_same = refl; names_same = refl });
    }

-- the records of a whole snapshot metadata tree were gathered
pub gathered-metadata : (image : List ℕ) (site : Site) (root : ℕ) (snapshots : List SnapshotRecord) (names : List NameRecord) (steps : List Step) → (root == 0) ≡ false
    → IsGathered (metadata_tree image site) root (λ items. Gives items snapshots names steps) is_refused → HasMetadata image site root snapshots names
gathered-metadata image site root snapshots names steps some all =
    let tree = metadata_tree image site in
    let pairs : leaf_pairs (line_of tree root) ≡ metadata_pairs image site root = line-pairs tree root ∙ sym (pairs-some image site root some) in
    record {
      whole = ap (λ (b : Bool). root == 0 || b) (means_whole tree root all.whole) ∙ ap (λ (b : Bool). b || true) some;
      readable = ap are_readable (sym pairs) ∙ kept-readable (line_of tree root) all.none_refused;
      told = subst (λ ps. Tell ps snapshots names) pairs all.held.told;
    }

-- and the steps of the tree
pub gathered-steps : (image : List ℕ) (site : Site) (root : ℕ) (snapshots : List SnapshotRecord) (names : List NameRecord) (steps : List Step) → (root == 0) ≡ false
    → IsGathered (metadata_tree image site) root (λ items. Gives items snapshots names steps) is_refused → steps ≡ metadata_steps image site root
gathered-steps image site root snapshots names steps some all = all.held.taken ∙ sym (steps-some image site root some)

-- why the snapshot metadata tree of a volume stops is there
pub metadata-tells : (image : List ℕ) (site : Site) (head : VolHead) (root : ℕ) (stop : Stop GatherFault) → root ≡ metadata_root image site head → (root == 0) ≡ false
    → Tells (IsGatherFault (metadata_tree image site) root is_refused) (HasFeature (metadata_tree image site) root) stop
    → Tells (IsLoadStop image site head) (IsLoadFeature image site head) (raised (metadata_stop head.slot root) stop)
metadata-tells image site head root (Found (gathers.Tree why)) same some h = (same, some, h)
metadata-tells image site head root (Found (gathers.Refused number)) same some h =
    let tree = metadata_tree image site in
    let pairs : leaf_pairs (line_of tree root) ≡ metadata_of image site head = line-pairs tree root ∙ (sym (pairs-some image site root some) ∙ ap (metadata_pairs image site) same) in
    (refl, subst (λ ps. are_readable ps ≡ false) pairs (refused-unreadable (line_of tree root) number h))
metadata-tells image site head root (Unsupported feature block) same some h =
    inr (inr (inr (inl (subst (λ (r : ℕ). ((r == 0) ≡ false) × HasFeature (metadata_tree image site) r feature block) same (some, h)))))
metadata-tells image site head root ReadFault same some h = tt
metadata-tells image site head root NoMemory same some h = tt

-- two snapshots with the same fields are the same
pub snapshot-same : (xid created : ℕ) (name other : List ℕ) (block extents root meta root2 meta2 : ℕ) → other ≡ name → root ≡ root2 → meta ≡ meta2
    → made_of xid created other block extents root meta ≡ made_of xid created name block extents root2 meta2
snapshot-same xid created name other block extents root meta root2 meta2 e f g =
    ap (λ n. made_of xid created n block extents root meta) e
    ∙ (ap (λ r. made_of xid created name block extents r meta) f ∙ ap (λ m. made_of xid created name block extents root2 m) g)
