-- Why the facts of a view can't be gathered.
use Rattle.std.specs.Prelude.{◌≡◌, ◌⊎◌, ℕ}
use Rattle.obj_base.specs.declared.stop.Stop.{Stop}
use Rattle.obj_base.specs.declared.stop.Stop.TheVariants.{Found, Unsupported, ReadFault, NoMemory}
use Rattle.bt_cursor.specs.Tree.{Tree}
use Rattle.bt_cursor.specs.Faults.{IsWalkFault}
use Rattle.bt_cursor.specs.declared.fault.WalkFault.{WalkFault}
use Rattle.bt_cursor.specs.declared.gathering.GatherFault.{GatherFault}
use Rattle.bt_cursor.specs.declared.gathering.GatherFault.TheVariants as gathers
use Rattle.vol_view.specs.declared.volume.View.{View}
use Rattle.view_rules.specs.Listed.{raised}
use Rattle.fs_record.specs.declared.fault.RecFault.{RecFault}
use Rattle.view_rules.specs.declared.fault.TreeFault.{TreeFault}
use Rattle.view_rules.specs.declared.fault.TreeFault.TheVariants.{Record}

-- why a walk stops, said of the view; no item is refused in it
abbrev pub SaysOfView : View → Stop GatherFault → Stop TreeFault → Type 0
SaysOfView view (Found (gathers.Tree why)) stop = stop ≡ Found (raised view why)
SaysOfView view (Found (gathers.Refused item)) stop = ⊥
SaysOfView view (Unsupported feature block) stop = stop ≡ Unsupported feature block
SaysOfView view ReadFault stop = stop ≡ ReadFault
SaysOfView view NoMemory stop = stop ≡ NoMemory

-- a fault of a view is one of a tree, which is there
pub record IsRaised {K : Type 0} (view : View) (tree : Tree K) (root : ℕ) (fault : TreeFault) : Type 0 where
  pub why : WalkFault
  pub same : fault ≡ raised view why
  pub there : IsWalkFault tree root why

-- a fault of a view that a walk over its tree names
abbrev pub IsOfWalk : View → TreeFault → Type 0
IsOfWalk view fault = (why : WalkFault) × (fault ≡ raised view why)

-- a fault that a walk over all records of a view names: one of the walk, or Record
abbrev pub IsOfRecords : View → TreeFault → Type 0
IsOfRecords view fault = IsOfWalk view fault ⊎ ((item : ℕ) × (why : RecFault) × (fault ≡ Record view.slot view.xid item why))
