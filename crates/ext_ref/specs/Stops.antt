-- What is there where an extent reference tree can't be read, and what holds where it can.
use Rattle.std.specs.Prelude.{◌≡◌, ℕ, Bool, true, false, ◌&&◌, ◌==◌, List, slice_get, is_none}
use Rattle.apfs_model.specs.Counts.{given}
use Rattle.apfs_model.specs.Lists.{passes}
use Rattle.bt_node.specs.Entries.{bytes_in}
use Rattle.obj_base.specs.declared.site.Site.{Site}
use Rattle.bt_keys.specs.Values.{ext_value_of}
use Rattle.bt_cursor.specs.Line.{Item, line_of, is_leaf_item}
use Rattle.bt_cursor.specs.Faults.{IsWalkFault}
use Rattle.ext_ref.specs.Ranges.{ext_tree}
use Rattle.ext_ref.specs.declared.stop.ExtStop.{ExtStop}
use Rattle.ext_ref.specs.declared.stop.ExtStop.TheVariants.{Walk, Value}

-- an item of the Line is a record whose value is too short
unfoldable pub is_short_item : Item → Bool
is_short_item item = is_leaf_item item && is_none (ext_value_of (bytes_in item.pair.value))

-- Record: such an item is there, and this is its number as it is given
pub record HasShortItem (image : List ℕ) (site : Site) (root item : ℕ) : Type 0 where
  pub number : ℕ
  pub short : passes (slice_get (line_of (ext_tree image site) root) number) is_short_item ≡ true
  pub same : item ≡ given number

-- what is named of the extent reference tree of a root is there; where the root is 0 there is no tree
abbrev pub IsExtStop : List ℕ → Site → ℕ → ExtStop → Type 0
IsExtStop image site root (Walk why) = ((root == 0) ≡ false) × IsWalkFault (ext_tree image site) root why
IsExtStop image site root (Value item) = ((root == 0) ≡ false) × HasShortItem image site root item
