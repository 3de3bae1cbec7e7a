-- Where an extent reference tree is right, nothing that could be named of it is there.
use Rattle.std.specs.Prelude.{◌≡◌, ℕ, true, false, ◌==◌, List}
use Rattle.apfs_model.specs.Blocks.{in_container}
use Rattle.apfs_model.proofs.BoolTests.{denied, former-true, latter-true}
use Rattle.apfs_model.proofs.Searches.{any-passes}
use Rattle.obj_base.specs.declared.stop.Feature.{Feature}
use Rattle.obj_base.specs.declared.stop.Stop.TheVariants.{Found, Unsupported}
use Rattle.obj_base.specs.declared.site.Site.{Site}
use Rattle.bt_keys.specs.Shapes.{ext_shape}
use Rattle.bt_cursor.specs.Line.{line_of}
use Rattle.bt_cursor.specs.WholeTree.{IsWhole}
use Rattle.bt_cursor.proofs.Places.{whole-world, tree-levelled}
use Rattle.bt_cursor.proofs.Wholes.{whole_means}
use Rattle.ext_ref.specs.Ranges.{ext_tree}
use Rattle.ext_ref.specs.Stops.{is_short_item, HasShortItem, IsExtStop}
use Rattle.ext_ref.specs.Scanned.{IsExtFeature, has_long_values, is_right_tree}
use Rattle.ext_ref.specs.declared.stop.ExtStop.{ExtStop}
use Rattle.ext_ref.specs.declared.stop.ExtStop.TheVariants.{Walk, Value}

tree-whole : (image : List ℕ) (site : Site) (root : ℕ) → (root == 0) ≡ false → is_right_tree image site root ≡ true → IsWhole (ext_tree image site) root
unfolding is_right_tree
tree-whole image site root some right = whole_means (ext_tree image site) root (former-true _ _ _ some right)

tree-values : (image : List ℕ) (site : Site) (root : ℕ) → (root == 0) ≡ false → is_right_tree image site root ≡ true → has_long_values image site root ≡ true
unfolding is_right_tree
tree-values image site root some right = latter-true _ _ _ some right

no-short : (image : List ℕ) (site : Site) (root item : ℕ) → has_long_values image site root ≡ true → HasShortItem image site root item → ⊥
unfolding has_long_values
no-short image site root item long short = denied _ (any-passes is_short_item (line_of (ext_tree image site) root) short.number short.short) long

-- where a tree is right, no fault of it is there
pub ext-refutes : (image : List ℕ) (site : Site) (root : ℕ) (stop : ExtStop) → is_right_tree image site root ≡ true → IsExtStop image site root stop → ⊥
ext-refutes image site root (Walk why) right (some, fault) = whole-world (ext_tree image site) root (Found why) (tree-levelled ext_shape site (in_container site.blocks) image) (tree-whole image site root some right) fault
ext-refutes image site root (Value item) right (some, short) = no-short image site root item (tree-values image site root some right) short

-- where a tree is right, no feature of it is there
pub ext-plain : (image : List ℕ) (site : Site) (root : ℕ) (feature : Feature) (block : ℕ) → is_right_tree image site root ≡ true → IsExtFeature image site root feature block → ⊥
ext-plain image site root feature block right (some, has) = whole-world (ext_tree image site) root (Unsupported feature block) (tree-levelled ext_shape site (in_container site.blocks) image) (tree-whole image site root some right) has
