-- What a search leaves of a cursor and its source, and what stops it. These are for the contracts of this crate's own functions.
use Rattle.std.specs.Prelude.{◌≡◌, ℕ, List, Option, Some}
use Rattle.apfs_model.specs.Counts.{Rose}
use Rattle.apfs_model.specs.Kept.{IsKept}
use Rattle.obj_base.specs.Stops.{Tells}
use Rattle.obj_base.specs.declared.stop.Stop.{Stop}
use Rattle.obj_base.specs.declared.stop.Stop.TheVariants.{ReadFault}
use Rattle.bt_node.specs.declared.key.TreeKey as keys
use Rattle.bt_cursor.specs.declared.namer.Namer as namers
use Rattle.bt_cursor.specs.declared.cursor.Cursor.{Cursor}
use Rattle.bt_cursor.specs.declared.fault.WalkFault.{WalkFault}
use Rattle.bt_cursor.specs.Cursors.{site_of, root_of, tree_of, IsOn}
use Rattle.bt_cursor.specs.Faults.{IsNodeFault, HasFeature}

-- a cursor and its source after some calls: its site, its root and its tree are those that it had, its buffers hold nodes of that tree, and the source is kept
pub record Stays {S K N : Type 0} {k : keys.Ghosts K} {n : namers.Ghosts N} (bytes : S → Option (List ℕ)) (size faults : S → ℕ) (before after : S) (old new : Cursor K N k n) : Type 0 where
  pub site : site_of new ≡ site_of old
  pub root : root_of new ≡ root_of old
  pub tree : tree_of new ≡ tree_of old
  pub within : (image : List ℕ) → bytes before ≡ Some image → IsOn image old → IsOn image new
  pub kept : IsKept bytes size faults before after

-- why a search from a cursor stops: a fault that is named is one of a node of its tree, and so is a feature; where a read failed the count of faults rose
pub record StopsFrom {S K N : Type 0} {k : keys.Ghosts K} {n : namers.Ghosts N} (bytes : S → Option (List ℕ)) (faults : S → ℕ) (before after : S) (old : Cursor K N k n) (stop : Stop WalkFault) : Type 0 where
  pub present : (image : List ℕ) → bytes before ≡ Some image → IsOn image old → Tells (IsNodeFault (tree_of old image) (root_of old)) (HasFeature (tree_of old image) (root_of old)) stop
  pub cause : stop ≡ ReadFault → Rose (faults before) (faults after)
