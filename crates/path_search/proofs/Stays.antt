-- Searches one after the other.
use Rattle.std.proofs.Common.{◌≡◌, ◌∙◌, ℕ, true, List, Option, Some, Result, Ok, Err, arith}
use Rattle.std.specs.Prelude.{IfErr, IsErrOf}
use Rattle.apfs_model.specs.Counts.{Rose}
use Rattle.apfs_model.specs.Kept.{IsKept}
use Rattle.obj_base.specs.Stops.{Tells}
use Rattle.obj_base.specs.declared.stop.Stop.{Stop}
use Rattle.obj_base.specs.declared.stop.Stop.TheVariants.{ReadFault}
use Rattle.bt_node.specs.declared.key.TreeKey as keys
use Rattle.bt_cursor.specs.declared.namer.Namer as namers
use Rattle.bt_cursor.specs.declared.cursor.Cursor.{Cursor}
use Rattle.bt_cursor.specs.declared.fault.WalkFault.{WalkFault}
use Rattle.bt_cursor.specs.Tree.{Tree}
use Rattle.bt_cursor.specs.Line.{line_of}
use Rattle.bt_cursor.specs.Order.{is_ordered}
use Rattle.bt_cursor.specs.Cursors.{site_of, root_of, tree_of, IsOn}
use Rattle.bt_cursor.specs.Faults.{IsNodeFault, HasFeature}
use Rattle.path_search.specs.Stays.{Stays, StopsFrom}
use Rattle.path_search.proofs.Searched.{kept_on, tells_same, ordered_same, ordered_at}
use Rattle.path_search.proofs.Needed.{in_same, in_at}

-- what a call keeps that says so clause by clause
pub stays_by : {S K N : Type 0} {k : keys.Ghosts K} {n : namers.Ghosts N} {bytes : S → Option (List ℕ)} {size faults : S → ℕ} {before after : S} (old new : Cursor K N k n) →
    site_of new ≡ site_of old → root_of new ≡ root_of old → tree_of new ≡ tree_of old → IsKept bytes size faults before after → ((image : List ℕ) → bytes before ≡ Some image → IsOn image old → IsOn image new) → Stays bytes size faults before after old new
stays_by old new site root tree kept within = record { site = site; root = root; tree = tree; within = within; kept = kept }

-- a cursor that stays over some calls, and then over some more, stays over all of them
pub stays_on : {S K N : Type 0} {k : keys.Ghosts K} {n : namers.Ghosts N} {bytes : S → Option (List ℕ)} {size faults : S → ℕ} {before between after : S} {old mid new : Cursor K N k n} → Stays bytes size faults before between old mid → Stays bytes size faults between after mid new → Stays bytes size faults before after old new
stays_on one other = record {
  site = other.site ∙ one.site;
  root = other.root ∙ one.root;
  tree = other.tree ∙ one.tree;
  within = λ image told on. other.within image (one.kept.same_bytes ∙ told) (one.within image told on);
  kept = kept_on one.kept other.kept;
}

-- what stops the calls that come after stops all of them
pub stops_on : {S K N : Type 0} {k : keys.Ghosts K} {n : namers.Ghosts N} {bytes : S → Option (List ℕ)} {size faults : S → ℕ} {before between after : S} {old mid : Cursor K N k n} {stop : Stop WalkFault} → Stays bytes size faults before between old mid → StopsFrom bytes faults between after mid stop → StopsFrom bytes faults before after old stop
stops_on {old = old} {mid = mid} {stop = stop} one other = record {
  present = λ image told on. tells_same (tree_of old) (tree_of mid) (root_of old) (root_of mid) image stop one.tree one.root (other.present image (one.kept.same_bytes ∙ told) (one.within image told on));
  cause = λ e. omega (arith, one.kept.later, other.cause e);
}

-- what a later call says of the cursor's tree is so of the tree that it had before
pub says_on : {S K N : Type 0} {k : keys.Ghosts K} {n : namers.Ghosts N} {bytes : S → Option (List ℕ)} {size faults : S → ℕ} {before after : S} {old new : Cursor K N k n} (P : Tree K → ℕ → Type 0) → Stays bytes size faults before after old new →
    ((image : List ℕ) → bytes after ≡ Some image → IsOn image new → is_ordered k.shape (line_of (tree_of new image) (root_of new)) ≡ true → P (tree_of new image) (root_of new)) →
    (image : List ℕ) → bytes before ≡ Some image → IsOn image old → is_ordered k.shape (line_of (tree_of old image) (root_of old)) ≡ true → P (tree_of old image) (root_of old)
says_on {k = k} {old = old} {new = new} P one says image told on ordered =
    in_same P (tree_of old) (tree_of new) (root_of old) (root_of new) image one.tree one.root
    (says image (one.kept.same_bytes ∙ told) (one.within image told on) (ordered_same k.shape (tree_of old) (tree_of new) (root_of old) (root_of new) image one.tree one.root ordered))

-- what is said of the tree of a cursor is so of the same tree, such as that of the view that it was made on
pub says_at : {K N : Type 0} {k : keys.Ghosts K} {n : namers.Ghosts N} {tree : Tree K} {root : ℕ} (P : Tree K → ℕ → Type 0) (cursor : Cursor K N k n) (image : List ℕ) → tree_of cursor image ≡ tree → root_of cursor ≡ root → is_ordered k.shape (line_of tree root) ≡ true →
    (is_ordered k.shape (line_of (tree_of cursor image) (root_of cursor)) ≡ true → P (tree_of cursor image) (root_of cursor)) → P tree root
says_at {k = k} {tree = tree} {root = root} P cursor image e f ordered says =
    in_at P (tree_of cursor image) tree (root_of cursor) root e f (says (ordered_at k.shape (tree_of cursor image) tree (root_of cursor) root e f ordered))

-- what an answer says where it stops: a fault or a feature that is there, or that a read failed
module _ {S K N T : Type 0} {k : keys.Ghosts K} {n : namers.Ghosts N} (bytes : S → Option (List ℕ)) (faults : S → ℕ) (before after : S) (old : Cursor K N k n) where
  pub tells_stop : (result : Result T (Stop WalkFault)) → IfErr result (StopsFrom bytes faults before after old) → (image : List ℕ) → bytes before ≡ Some image → IsOn image old → IfErr result (Tells (IsNodeFault (tree_of old image) (root_of old)) (HasFeature (tree_of old image) (root_of old)))
  tells_stop (Ok x) stops image told on = tt
  tells_stop (Err stop) stops image told on = stops.present image told on

  pub read_failed : (result : Result T (Stop WalkFault)) → IfErr result (StopsFrom bytes faults before after old) → IsErrOf result ReadFault → Rose (faults before) (faults after)
  read_failed (Ok x) stops e = absurd cc
  read_failed (Err stop) stops e = stops.cause cc
