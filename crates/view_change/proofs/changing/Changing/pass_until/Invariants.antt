-- The facts of the leaves before are those that were passed, and none of these leaves is the one that is looked for.
use Rattle.std.proofs.Common.{◌≡◌, ◌++◌, ℕ, false, Some, List, length}
use Rattle.obj_base.specs.declared.site.Site.{Site}
use Rattle.view_change.specs.declared.leaf.Leaf.{Leaf}
use Rattle.view_change.specs.declared.changing.Changing.{Changing}
use Rattle.view_change.specs.Shared.{is_among}
use Rattle.view_change.specs.Changing.{leaves_left, HasChanged}
use Rattle.view_change.proofs.changing.Changing.pass_until.Given as goal

abbrev pub invariant-gone : goal.invariant-gone
invariant-gone g l = record {
  held : (start : Changing) (site : Site) (image : List ℕ) (leaves : List Leaf) → HasChanged g.K.TreeKey.shape site image leaves start l.fn.self → HasChanged g.K.TreeKey.shape site image leaves start l.self;
  others : (leaf : Leaf) → l.leaf ≡ Some leaf → (passed : List Leaf) × (leaves_left l.fn.self ≡ passed ++ leaves_left l.self) × (is_among passed leaf ≡ false);
}

abbrev pub decreases-gone : goal.decreases-gone
decreases-gone g l = length l.self.leaves.items
