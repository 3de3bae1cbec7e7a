-- The two object maps are whole, and each has its one record.
use Rattle.std.proofs.Common.{arith, ◌≡◌, ℕ, suc, true, false, ◌==◌, List, [], ◌∷◌, length, map, Option, Some, None, is_ok, refl, ap, sym, ◌∙◌, if◌then◌else◌}
use Rattle.std.specs.Prelude.{option_and_then, is_some}
use Rattle.apfs_model.specs.Blocks.{in_container}
use Rattle.apfs_model.specs.Object.{map_kind}
use Rattle.apfs_model.specs.Bytes.{u32_at, u64_at}
use Rattle.bt_node.specs.Shape.{Shape}
use Rattle.bt_keys.specs.Values.{omap_value_of}
use Rattle.bt_keys.specs.Shapes.{omap_shape}
use Rattle.bt_cursor.specs.Tree.{root_place, tree_in, node_named, judged}
use Rattle.bt_cursor.specs.Order.{is_ordered}
use Rattle.bt_cursor.specs.Flat.{flat_of}
use Rattle.bt_cursor.specs.Whole.{is_whole}
use Rattle.obj_base.specs.declared.site.Site.{Site}
use Rattle.omap_map.specs.Fields.{tree_of}
use Rattle.omap_map.specs.Features.{is_reverting}
use Rattle.omap_map.specs.Records.{record_of, records_of}
use Rattle.omap_map.specs.Resolve.{latest, resolved}
use Rattle.omap_map.specs.Maps.{map_in, head_of, is_map_object, record_tree, map_records, map_snapshots, has_no_snapshots, has_whole_snapshots, is_whole_map, resolved_in}
use Rattle.apfs_model.proofs.BoolTests.{both-true, left-or}
use Rattle.img_format.specs.declared.spec.Spec.{Spec}
use Rattle.img_format.specs.Valid.{IsValid}
use Rattle.img_format.specs.Tables.{num}
use Rattle.img_format.specs.Blocks.{map_entry}
use Rattle.fresh_law.specs.Site.{site, block_at}
use Rattle.fresh_law.specs.Facts.{pair_of, IsRootLeaf, IsObjectMap, IsFresh}
use Rattle.fresh_law.proofs.Leaves.{IsLeaf, leaf_items, leaf-flat, leaf-whole}
use Rattle.fresh_law.proofs.Heads.{head-sound}
use Rattle.fresh_law.proofs.Sites.{inside}
use Rattle.fresh_law.proofs.Roots.{mapped}

-- a physical root that is a leaf, in the tree of its block
pub leaf-in : {K : Type 0} (shape : Shape K) (spec : Spec) (image : List ℕ) (named : ℕ → Option ℕ) (oid block : ℕ) (entries : List (List ℕ × List ℕ)) →
    IsRootLeaf shape spec oid entries (block_at image block) → named oid ≡ Some block → in_container spec.blocks block ≡ Some block →
    IsLeaf (tree_in shape (site spec) named image) oid (map pair_of entries)
leaf-in shape spec image named oid block entries r n i = record {
  node = block_at image block;
  found =
      ap (λ o. node_named shape (site spec) image (root_place oid) (option_and_then (in_container spec.blocks) o)) n
      ∙ ap (λ o. node_named shape (site spec) image (root_place oid) o) i
      ∙ ap (judged block) r.sound;
  level = r.level;
  entries = r.pairs;
  keys = r.keys ∙ sym (length-pairs entries);
  nodes = r.nodes;
}
  where
    length-pairs : (es : List (List ℕ × List ℕ)) → length (map pair_of es) ≡ length es
    length-pairs [] = refl
    length-pairs (e ∷ es) = ap (λ n. suc n) (length-pairs es)

-- what a map's tree must be, by its one entry: its record, and a Line in order
record IsOne (oid block : ℕ) : Type 0 where
  record_is : records_of (map pair_of (map_entry oid block ∷ [])) ≡ mapped oid block ∷ []
  ordered : (root : ℕ) → is_ordered omap_shape (leaf_items root 0 (map pair_of (map_entry oid block ∷ []))) ≡ true

volume-one : IsOne 1026 51
unfolding record_of omap_value_of u32_at u64_at num
volume-one = record { record_is = refl; ordered = λ root. refl }

files-one : IsOne 1028 54
unfolding record_of omap_value_of u32_at u64_at num
files-one = record { record_is = refl; ordered = λ root. refl }

-- a map in a block, with its tree's root in another
record IsMapAt (spec : Spec) (image : List ℕ) (block tree oid at : ℕ) : Type 0 where
  object : IsObjectMap block tree (block_at image block)
  root : IsRootLeaf omap_shape spec tree (map_entry oid at ∷ []) (block_at image tree)
  object_inside : in_container spec.blocks block ≡ Some block
  root_inside : in_container spec.blocks tree ≡ Some tree
  one : IsOne oid at

map-leaf : (spec : Spec) (image : List ℕ) (block tree oid at : ℕ) → IsMapAt spec image block tree oid at → IsLeaf (record_tree image (site spec)) tree (map pair_of (map_entry oid at ∷ []))
map-leaf spec image block tree oid at m = leaf-in omap_shape spec image (in_container spec.blocks) tree tree (map_entry oid at ∷ []) m.root m.root_inside m.root_inside

map-object : (spec : Spec) (image : List ℕ) (block tree oid at : ℕ) → IsMapAt spec image block tree oid at → is_map_object image (site spec) block ≡ true
unfolding is_map_object
map-object spec image block tree oid at m =
    both-true (is_some (in_container spec.blocks block)) (is_ok (head_of image (site spec) block))
    (ap is_some m.object_inside)
    (head-sound block 0x4000000b 0 map_kind 1 (block_at image block) m.object.head refl refl refl (omega arith))

map-whole : (spec : Spec) (image : List ℕ) (block tree oid at : ℕ) → IsMapAt spec image block tree oid at → is_whole_map image (site spec) block ≡ true
unfolding is_whole_map has_whole_snapshots
map-whole spec image block tree oid at m =
    both-true (is_map_object image (site spec) block) _ (map-object spec image block tree oid at m)
    (both-true (is_whole (record_tree image (site spec)) (tree_of (map_in image (site spec) block))) _
    (ap (λ root. is_whole (record_tree image (site spec)) root) m.object.tree_is ∙ leaf-whole (record_tree image (site spec)) tree _ (map-leaf spec image block tree oid at m) (m.one.ordered tree))
    (left-or (has_no_snapshots (map_in image (site spec) block)) _ (ap (λ n. n == 0) m.object.snap_tree)))

map-records : (spec : Spec) (image : List ℕ) (block tree oid at : ℕ) → IsMapAt spec image block tree oid at → map_records image (site spec) block ≡ mapped oid at ∷ []
unfolding map_records
map-records spec image block tree oid at m =
    ap (λ root. records_of (flat_of (record_tree image (site spec)) root)) m.object.tree_is
    ∙ ap records_of (leaf-flat (record_tree image (site spec)) tree _ (map-leaf spec image block tree oid at m))
    ∙ m.one.record_is

map-snapshots : (spec : Spec) (image : List ℕ) (block tree oid at : ℕ) → IsMapAt spec image block tree oid at → map_snapshots image (site spec) block ≡ []
unfolding map_snapshots
map-snapshots spec image block tree oid at m = rw m.object.snap_tree

settled : (block tree : ℕ) (bytes : List ℕ) → IsObjectMap block tree bytes → is_reverting bytes ≡ false
unfolding is_reverting
settled block tree bytes o = rw (o.least, o.greatest)

map-resolved : (spec : Spec) (image : List ℕ) (block tree oid at : ℕ) → IsMapAt spec image block tree oid at → resolved (mapped oid at ∷ []) oid 1 ≡ Some (mapped oid at) → resolved_in image (site spec) block oid 1 ≡ Some (mapped oid at)
unfolding resolved_in
map-resolved spec image block tree oid at m e =
    ap (λ b. if b then resolved (map_records image (site spec) block) oid 1 else None) (map-whole spec image block tree oid at m)
    ∙ ap (λ rs. resolved rs oid 1) (map-records spec image block tree oid at m)
    ∙ e

-- what is known of a map
pub record HasMap (image : List ℕ) (s : Site) (block tree oid at : ℕ) : Type 0 where
  pub object : is_map_object image s block ≡ true
  pub whole : is_whole_map image s block ≡ true
  pub records : map_records image s block ≡ mapped oid at ∷ []
  pub snapshots : map_snapshots image s block ≡ []
  pub settled : is_reverting (block_at image block) ≡ false
  pub resolved : resolved_in image s block oid 1 ≡ Some (mapped oid at)

has-map : (spec : Spec) (image : List ℕ) (block tree oid at : ℕ) → IsMapAt spec image block tree oid at → resolved (mapped oid at ∷ []) oid 1 ≡ Some (mapped oid at) → HasMap image (site spec) block tree oid at
has-map spec image block tree oid at m e = record {
  object = map-object spec image block tree oid at m;
  whole = map-whole spec image block tree oid at m;
  records = map-records spec image block tree oid at m;
  snapshots = map-snapshots spec image block tree oid at m;
  settled = settled block tree (block_at image block) m.object;
  resolved = map-resolved spec image block tree oid at m e;
}

resolves-volume : resolved (mapped 1026 51 ∷ []) 1026 1 ≡ Some (mapped 1026 51)
unfolding resolved latest
resolves-volume = refl

resolves-files : resolved (mapped 1028 54 ∷ []) 1028 1 ≡ Some (mapped 1028 54)
unfolding resolved latest
resolves-files = refl

pub container-map : (spec : Spec) (image : List ℕ) → IsValid spec → IsFresh spec image → HasMap image (site spec) 25 26 1026 51
container-map spec image v f = has-map spec image 25 26 1026 51 (record {
  object = f.container_map;
  root = f.container_tree;
  object_inside = inside spec v 25 (omega arith) (omega arith);
  root_inside = inside spec v 26 (omega arith) (omega arith);
  one = volume-one;
}) resolves-volume

pub volume-map : (spec : Spec) (image : List ℕ) → IsValid spec → IsFresh spec image → HasMap image (site spec) 52 53 1028 54
volume-map spec image v f = has-map spec image 52 53 1028 54 (record {
  object = f.volume_map;
  root = f.volume_tree;
  object_inside = inside spec v 52 (omega arith) (omega arith);
  root_inside = inside spec v 53 (omega arith) (omega arith);
  one = files-one;
}) resolves-files
