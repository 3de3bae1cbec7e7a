-- The naming of an object map that was loaded.
use Rattle.std.proofs.Common.{◌≡◌, ℕ, true, false, List, [], ◌++◌, Some, is_ok, refl, ap, ◌∙◌}
use Rattle.std.specs.Prelude.{is_some, ◌&&◌}
use Rattle.apfs_model.specs.Blocks.{in_container}
use Rattle.apfs_model.proofs.BoolTests.{left-true, right-true, other-true}
use Rattle.apfs_model.proofs.Inside.{inside-itself}
use Rattle.obj_base.specs.Features.{with_feature}
use Rattle.obj_base.specs.declared.stop.Feature.TheVariants.{Revert}
use Rattle.obj_base.specs.declared.site.Site.{Site}
use Rattle.bt_cursor.specs.Whole.{is_whole}
use Rattle.nx_block.specs.Super.{omap_oid_of}
use Rattle.nx_ring.specs.Checkpoint.{Seen, site_of}
use Rattle.omap_map.specs.Fields as maps
use Rattle.omap_map.specs.Features.{is_reverting, map_features, snapshot_features, container_features}
use Rattle.omap_map.specs.Maps.{map_in, map_snapshots, head_of, is_map_object, record_tree, snapshot_tree, has_no_snapshots, has_whole_snapshots, is_whole_map}
use Rattle.omap_map.proofs.Loads.{whole-object, object-inside}
use Rattle.vol_view.specs.Stops.{IsPlainMap}
use Rattle.reach_rules.specs.declared.naming.LookUp.TheVariants.{ByBlock}
use Rattle.reach_rules.specs.declared.naming.Object.TheVariants.{Newest, InBlock}
use Rattle.reach_rules.specs.declared.naming.Namer.{Namer}
use Rattle.reach_rules.specs.declared.naming.Namer.TheVariants.{Whole}
use Rattle.reach_rules.specs.declared.naming.Expected.{Expected}
use Rattle.reach_rules.specs.declared.naming.Expected.TheVariants.{ContainerMap, VolumeMap}
use Rattle.reach_rules.specs.declared.naming.Naming.{Naming}
use Rattle.reach_rules.specs.Naming.{naming}
use Rattle.reach_rules.specs.Resolved.{Found, standing}
use Rattle.reach_rules.specs.Tested.{tested}
use Rattle.reach_rules.specs.Next.{names, map_namings}
use Rattle.reach_rules.specs.Features.{placed_in, field_features}
use Rattle.reach_rules.proofs.SpaceLifted.{block-found}
use Rattle.reach_gather.proofs.OfKinds.{records-kind, snapshots-kind}
use Rattle.reach_gather.specs.Volumes.Parts.{IsMapPart, container_map}
use Rattle.reach_gather.specs.Volumes.Told.{map_in_volume}
use Rattle.reach_gather.proofs.VolumeLemmas.Leads.{container-passes, map-passes}
use Rattle.reach_gather.proofs.VolumeLemmas.Trees.{whole-tree}
use Rattle.reach_gather.proofs.Container.{plain-by}
use Rattle.reach_gather.proofs.Parts.{sound-next}

object-head : (image : List ℕ) (site : Site) (block : ℕ) → is_map_object image site block ≡ true → is_ok (head_of image site block) ≡ true
unfolding is_map_object
object-head image site block e = right-true (is_some (in_container site.blocks block)) (is_ok (head_of image site block)) e

pub records-whole : (image : List ℕ) (site : Site) (block : ℕ) → is_whole_map image site block ≡ true → is_whole (record_tree image site) (maps.tree_of (map_in image site block)) ≡ true
unfolding is_whole_map
records-whole image site block e =
    left-true (is_whole (record_tree image site) (maps.tree_of (map_in image site block))) (has_whole_snapshots image site block)
    (right-true (is_map_object image site block) (is_whole (record_tree image site) (maps.tree_of (map_in image site block)) && has_whole_snapshots image site block) e)

pub snapshots-whole : (image : List ℕ) (site : Site) (block : ℕ) → is_whole_map image site block ≡ true → has_no_snapshots (map_in image site block) ≡ false → is_whole (snapshot_tree image site) (maps.snap_tree_of (map_in image site block)) ≡ true
unfolding is_whole_map has_whole_snapshots
snapshots-whole image site block e some =
    other-true (has_no_snapshots (map_in image site block)) (is_whole (snapshot_tree image site) (maps.snap_tree_of (map_in image site block))) some
    (right-true (is_whole (record_tree image site) (maps.tree_of (map_in image site block))) (has_whole_snapshots image site block)
    (right-true (is_map_object image site block) (is_whole (record_tree image site) (maps.tree_of (map_in image site block)) && has_whole_snapshots image site block) e))

-- a whole map, whatever names it
map-part : (image : List ℕ) (seen : Seen) (namer : Namer) (at : ℕ) (e : Expected) (oid : ℕ) → is_whole_map image (site_of seen) oid ≡ true → is_reverting (map_in image (site_of seen) oid) ≡ false →
    (is_ok (head_of image (site_of seen) oid) ≡ true → is_ok (tested (site_of seen) e oid (map_in image (site_of seen) oid)) ≡ true) →
    ((me : Namer) (bytes : List ℕ) → names image seen ByBlock e me bytes ≡ map_namings me bytes) →
    field_features image seen e oid (map_in image (site_of seen) oid) ≡ [] → IsMapPart image seen (naming namer at e ByBlock oid)
map-part image seen namer at e oid whole settled passes leads fields =
    let n : Naming = naming namer at e ByBlock oid in
    let f : Found = standing image (site_of seen) (InBlock oid) oid in
    let object : is_map_object image (site_of seen) oid ≡ true = whole-object image (site_of seen) oid whole in
    let inside : in_container (site_of seen).blocks oid ≡ Some oid = inside-itself (site_of seen).blocks oid (object-inside image (site_of seen) oid object) in
    let found = block-found image seen namer at e oid inside in
    let sound : is_ok (tested (site_of seen) e oid (map_in image (site_of seen) oid)) ≡ true = passes (object-head image (site_of seen) oid object) in
    record {
      plain = plain-by image seen n f found sound refl fields;
      leads = sound-next image seen n f found sound ∙ leads (Whole (InBlock oid)) (map_in image (site_of seen) oid);
      whole = whole;
      settled = settled;
      records = whole-tree (records-kind image seen) (maps.tree_of (map_in image (site_of seen) oid)) (λ item. refl) (records-whole image (site_of seen) oid whole);
      snapshots = λ some. whole-tree (snapshots-kind image seen) (maps.snap_tree_of (map_in image (site_of seen) oid)) (λ item. refl) (snapshots-whole image (site_of seen) oid whole some);
    }

-- a map's fields and snapshots without a feature
map-plain : (block : ℕ) (bytes : List ℕ) (snapshots : List (ℕ × ℕ)) → is_reverting bytes ≡ false → snapshot_features snapshots ≡ [] → map_features bytes ++ snapshot_features snapshots ≡ []
map-plain block bytes snapshots settled unmarked = ap (λ b. with_feature b Revert [] ++ snapshot_features snapshots) settled ∙ unmarked

-- the container's map
pub container-part : (image : List ℕ) (seen : Seen) → IsPlainMap image seen → IsMapPart image seen (container_map seen)
container-part image seen right =
    let oid : ℕ = omap_oid_of seen.nx in
    let bytes : List ℕ = map_in image (site_of seen) oid in
    let snapshots : List (ℕ × ℕ) = map_snapshots image (site_of seen) oid in
    map-part image seen (Whole Newest) 160 ContainerMap oid right.whole right.settled (container-passes (site_of seen) oid bytes) (λ me b. refl)
    (ap (λ xs. placed_in oid (xs ++ container_features (maps.snap_count_of bytes))) (map-plain oid bytes snapshots right.settled right.unmarked)
    ∙ ap (placed_in oid) right.plain)

-- the map of a volume
pub volume-map-part : (image : List ℕ) (seen : Seen) (namer : Namer) (oid : ℕ) → is_whole_map image (site_of seen) oid ≡ true → is_reverting (map_in image (site_of seen) oid) ≡ false → snapshot_features (map_snapshots image (site_of seen) oid) ≡ [] →
    IsMapPart image seen (map_in_volume namer oid)
volume-map-part image seen namer oid whole settled unmarked =
    let bytes : List ℕ = map_in image (site_of seen) oid in
    map-part image seen namer 128 VolumeMap oid whole settled (map-passes (site_of seen) oid bytes) (λ me b. refl)
    (ap (placed_in oid) (map-plain oid bytes (map_snapshots image (site_of seen) oid) settled unmarked))
