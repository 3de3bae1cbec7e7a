-- What a scan of an extent reference tree has gathered, and which features it may name.
use Rattle.std.specs.Prelude.{ℕ, ◌&&◌, ◌==◌, List, [], ◌∷◌, map, if◌then◌else◌, ◌≡◌, Bool, true, false, not, ◌||◌}
use Rattle.obj_base.specs.declared.site.Site.{Site}
use Rattle.bt_cursor.specs.Steps.{steps_of}
use Rattle.bt_cursor.specs.declared.step.Step.{Step}
use Rattle.ext_ref.specs.declared.range.NewRange.{NewRange}
use Rattle.ext_ref.specs.Ranges.{ext_tree, ranges_of}
use Rattle.std.specs.List.{list_any}
use Rattle.obj_base.specs.declared.stop.Feature.{Feature}
use Rattle.bt_cursor.specs.Line.{line_of}
use Rattle.bt_cursor.specs.Whole.{is_whole}
use Rattle.bt_cursor.specs.Faults.{HasFeature}
use Rattle.ext_ref.specs.Stops.{is_short_item}
use Rattle.fs_record.specs.declared.extents.FileExt.{FileExt}
use Rattle.ext_ref.specs.References.{streams_of}

-- the steps of the tree of a root, none where the root is 0
unfoldable pub ext_steps : List ℕ → Site → ℕ → List Step
ext_steps image site root = if root == 0 then [] else steps_of (ext_tree image site) root

-- the blocks of the nodes of a tree by its root and its steps, none where the root is 0; a node's oid is its block
abbrev pub blocks_by : ℕ → List Step → List ℕ
blocks_by root steps = if root == 0 then [] else root ∷ map (λ (s : Step). s.child) steps

-- a feature of a node of an extent reference tree is there
abbrev pub IsExtFeature : List ℕ → Site → ℕ → Feature → ℕ → Type 0
IsExtFeature image site root feature block = ((root == 0) ≡ false) × HasFeature (ext_tree image site) root feature block

-- no record's value is too short
unfoldable pub has_long_values : List ℕ → Site → ℕ → Bool
has_long_values image site root = not (list_any is_short_item (line_of (ext_tree image site) root))

-- the tree of a root is whole with values that can be read, where there is one
unfoldable pub is_right_tree : List ℕ → Site → ℕ → Bool
is_right_tree image site root = (root == 0) || (is_whole (ext_tree image site) root && has_long_values image site root)

-- the tree of a root is right, and these are its steps and its new ranges
pub record IsScanned (image : List ℕ) (site : Site) (root : ℕ) (steps : List Step) (ranges : List NewRange) : Type 0 where
  pub right : is_right_tree image site root ≡ true
  pub steps_are : steps ≡ ext_steps image site root
  pub ranges_are : ranges ≡ ranges_of image site root

-- that number for each range
abbrev pub references_of : ℕ → List NewRange → List (ℕ × FileExt) → List ℕ
references_of block_size ranges extents = map (streams_of block_size extents) ranges
