-- The namings of a tree, made from its steps.
use Rattle.std.specs.Prelude.{◌≡◌, ◌≤◌, ◌+◌, ℕ, zero, suc, Bool, List, [], ◌∷◌, map, flat_map, count_by, Some}
use Rattle.apfs_model.specs.Lists.{In, Lists}
use Rattle.nx_ring.specs.Checkpoint.{Seen, site_of}
use Rattle.omap_map.specs.Maps.{record_tree, snapshot_tree}
use Rattle.vol_view.specs.SnapRecords.{metadata_tree}
use Rattle.ext_ref.specs.Ranges.{ext_tree}
use Rattle.space_pool.specs.Queues.{queue_tree}
use Rattle.bt_cursor.specs.Steps.{steps_of}
use Rattle.bt_cursor.specs.declared.step.Step.{Step}
use Rattle.reach_rules.specs.declared.naming.LookUp.{LookUp}
use Rattle.reach_rules.specs.declared.naming.Object.{Object}
use Rattle.reach_rules.specs.declared.naming.Namer.TheVariants.{Whole}
use Rattle.reach_rules.specs.declared.naming.TreeKind.{TreeKind}
use Rattle.reach_rules.specs.declared.naming.TreeKind.TheVariants.{MapRecords, MapSnapshots, ExtentRefs, SnapMetadata, FreeQueue, Files}
use Rattle.reach_rules.specs.declared.naming.Expected.TheVariants.{TreeNode}
use Rattle.reach_rules.specs.declared.naming.Naming.{Naming}
use Rattle.reach_rules.specs.Naming.{naming}
use Rattle.reach_rules.specs.Resolved.{Found, resolved}
use Rattle.reach_rules.specs.Next.{next}
use Rattle.reach_rules.specs.Live.{Live, IsSoundFor}
use Rattle.reach_rules.specs.Features.{features_through}

-- the steps of the tree of a root; a view's is not looked at here
unfoldable pub tree_steps : List ℕ → Seen → TreeKind → ℕ → List Step
tree_steps image seen MapRecords root = steps_of (record_tree image (site_of seen)) root
tree_steps image seen MapSnapshots root = steps_of (snapshot_tree image (site_of seen)) root
tree_steps image seen ExtentRefs root = steps_of (ext_tree image (site_of seen)) root
tree_steps image seen SnapMetadata root = steps_of (metadata_tree image (site_of seen)) root
tree_steps image seen (FreeQueue which) root = steps_of (queue_tree image seen) root
tree_steps image seen (Files hashed) root = []

-- the level below a level
abbrev pub level_below : ℕ → ℕ
level_below zero = zero
level_below (suc level) = level

-- a step names its child; the namer is the object of the node from which it is taken
abbrev pub step_naming : (ℕ → Object) → TreeKind → LookUp → Step → Naming
step_naming object kind how step = naming (Whole (object step.node)) step.at (TreeNode kind (level_below step.level)) how step.child

-- the namings of a tree by its steps, from that of its root on
abbrev pub tree_namings : (ℕ → Object) → TreeKind → Naming → List Step → List Naming
tree_namings object kind root steps = root ∷ map (step_naming object kind root.how) steps

-- a naming resolves to an object that is sound as it expects, and no feature is there through it
pub record IsPlainNaming (image : List ℕ) (seen : Seen) (n : Naming) : Type 0 where
  pub object : Found
  pub found : resolved image seen n ≡ Some object
  pub sound : IsSoundFor seen n object
  pub plain : features_through image seen n ≡ []

-- of each kind of naming, these and a rest have no more than the first ones and all those to which these lead
abbrev pub AreCounted : List ℕ → Seen → List Naming → List Naming → List Naming → Type 0
AreCounted image seen first these rest = (test : Naming → Bool) → count_by test these + count_by test rest ≤ count_by test first + count_by test (flat_map (next image seen) these)

-- what is live from a naming are these namings, each of which resolves, is sound, and has no feature; and they are counted
pub record AreNamingsOf (image : List ℕ) (seen : Seen) (root : Naming) (namings : List Naming) : Type 0 where
  pub live : Lists namings (Live (root ∷ []) (next image seen))
  pub counted : AreCounted image seen (root ∷ []) namings []
  pub plain : (n : Naming) → In n namings → IsPlainNaming image seen n
