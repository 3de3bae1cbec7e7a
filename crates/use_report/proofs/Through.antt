-- What a walk over the tree of a view gives, said of the view.
use Rattle.std.proofs.Common.{◌≡◌, ℕ, Bool, true, false, List, ◌∷◌, ap, sym, ◌∙◌, subst}
use Rattle.std.specs.List.{list_any}
use Rattle.obj_base.specs.Stops.{Tells}
use Rattle.obj_base.specs.declared.site.Site.{Site}
use Rattle.obj_base.specs.declared.stop.Stop.{Stop}
use Rattle.obj_base.specs.declared.stop.Stop.TheVariants.{Found, Unsupported}
use Rattle.bt_cursor.specs.Faults.{HasFeature}
use Rattle.bt_cursor.specs.Gathered.{IsGathered, IsGatherFault}
use Rattle.bt_cursor.specs.Line.{line_of}
use Rattle.bt_cursor.specs.Tree.{Tree}
use Rattle.bt_cursor.specs.WholeTree.{IsWhole}
use Rattle.bt_cursor.specs.declared.gathering.GatherFault.{GatherFault}
use Rattle.bt_cursor.specs.declared.gathering.GatherFault.TheVariants as gathers
use Rattle.bt_cursor.proofs.Flats.{line-pairs}
use Rattle.bt_cursor.proofs.Gathers.{ids-walkable}
use Rattle.fs_name.specs.Normal.{are_hashed}
use Rattle.fs_record.specs.Facts.{extents_of}
use Rattle.vol_view.specs.Volumes.{Loaded}
use Rattle.vol_view.specs.Views.{hashed_tree, plain_tree, view_flat, view_line, is_view_walkable, is_view_counted, FactBy, IsViewFeature}
use Rattle.vol_view.specs.Placed.{view_nodes}
use Rattle.vol_view.specs.declared.volume.View.{View}
use Rattle.use_report.specs.Gathered.{said, is_refused, Gathers}
use Rattle.use_report.specs.Files.{AreOfTree, AreOfView, AreWholeFiles, IsViewStop}
use Rattle.use_report.specs.declared.files.Files.{Files}

-- what was gathered of a whole tree
pub gathered-files : {K : Type 0} (tree : Tree K) (root : ℕ) (files : Files) → IsGathered tree root (Gathers files.below.items files.extents.items) is_refused → AreOfTree tree root files
gathered-files tree root files all = record {
  whole = all.whole;
  nodes = ap (λ (ids : List ℕ). root ∷ ids) all.held.nodes ∙ sym (ids-walkable tree root all.whole.walkable);
  extents = all.held.same ∙ ap (λ ps. said (extents_of ps)) (line-pairs tree root);
}

-- ---- a view's tree is one with hashed names, or one with names that aren't
pub files-hashed : (image : List ℕ) (site : Site) (volume : Loaded) (view : View) (files : Files) → are_hashed volume.names ≡ true → AreOfTree (hashed_tree image site volume view) view.root_oid files → AreOfView image site volume view files
unfolding view_flat view_nodes is_view_walkable
files-hashed image site volume view files e h = record { walkable = rw e h.whole.walkable; nodes = rw e h.nodes; extents = rw e h.extents }

pub files-plain : (image : List ℕ) (site : Site) (volume : Loaded) (view : View) (files : Files) → are_hashed volume.names ≡ false → AreOfTree (plain_tree image site volume view) view.root_oid files → AreOfView image site volume view files
unfolding view_flat view_nodes is_view_walkable
files-plain image site volume view files e h = record { walkable = rw e h.whole.walkable; nodes = rw e h.nodes; extents = rw e h.extents }

by-true : (b : Bool) (P Q : Type 0) → b ≡ true → P → FactBy b P Q
by-true b P Q e p = subst (λ t. FactBy t P Q) (sym e) p

by-false : (b : Bool) (P Q : Type 0) → b ≡ false → Q → FactBy b P Q
by-false b P Q e q = subst (λ t. FactBy t P Q) (sym e) q

pub tells-hashed : (image : List ℕ) (site : Site) (volume : Loaded) (view : View) (stop : Stop GatherFault) → are_hashed volume.names ≡ true
    → Tells (IsGatherFault (hashed_tree image site volume view) view.root_oid is_refused) (HasFeature (hashed_tree image site volume view) view.root_oid) stop → Tells (IsViewStop image site volume view) (IsViewFeature image site volume view) stop
unfolding view_line
tells-hashed image site volume view (Found (gathers.Tree why)) e h = by-true (are_hashed volume.names) _ _ e h
tells-hashed image site volume view (Found (gathers.Refused item)) e h = rw e h
tells-hashed image site volume view (Unsupported feature block) e h = by-true (are_hashed volume.names) _ _ e h
tells-hashed image site volume view stop e h = tt

pub tells-plain : (image : List ℕ) (site : Site) (volume : Loaded) (view : View) (stop : Stop GatherFault) → are_hashed volume.names ≡ false
    → Tells (IsGatherFault (plain_tree image site volume view) view.root_oid is_refused) (HasFeature (plain_tree image site volume view) view.root_oid) stop → Tells (IsViewStop image site volume view) (IsViewFeature image site volume view) stop
unfolding view_line
tells-plain image site volume view (Found (gathers.Tree why)) e h = by-false (are_hashed volume.names) _ _ e h
tells-plain image site volume view (Found (gathers.Refused item)) e h = rw e h
tells-plain image site volume view (Unsupported feature block) e h = by-false (are_hashed volume.names) _ _ e h
tells-plain image site volume view stop e h = tt

-- the files of a view that are whole are those of its tree
abbrev IsReadableTree : {K : Type 0} → Tree K → ℕ → Type 0
IsReadableTree tree root = IsWhole tree root × (list_any is_refused (line_of tree root) ≡ false)

pub whole-hashed : (image : List ℕ) (site : Site) (volume : Loaded) (view : View) → are_hashed volume.names ≡ true → AreWholeFiles image site volume view → IsReadableTree (hashed_tree image site volume view) view.root_oid
unfolding view_line is_view_walkable is_view_counted
whole-hashed image site volume view e h = (record { walkable = rw e at h.walkable; ordered = rw e at h.ordered; counted = rw e at h.counted }, rw e at h.readable)

pub whole-plain : (image : List ℕ) (site : Site) (volume : Loaded) (view : View) → are_hashed volume.names ≡ false → AreWholeFiles image site volume view → IsReadableTree (plain_tree image site volume view) view.root_oid
unfolding view_line is_view_walkable is_view_counted
whole-plain image site volume view e h = (record { walkable = rw e at h.walkable; ordered = rw e at h.ordered; counted = rw e at h.counted }, rw e at h.readable)
