-- What a walk over an extent reference tree gives.
use Rattle.std.specs.Prelude.{◌≡◌, ℕ, List, [], ◌∷◌}
use Rattle.bt_cursor.specs.declared.gathering.GatherFault.{GatherFault}
use Rattle.bt_cursor.specs.declared.gathering.GatherFault.TheVariants as gathers
use Rattle.bt_cursor.specs.Line.{Item}
use Rattle.bt_cursor.specs.WholeTree.{leaf_pairs}
use Rattle.bt_cursor.specs.Steps.{steps_in}
use Rattle.bt_cursor.specs.declared.step.Step.{Step}
use Rattle.ext_ref.specs.Ranges.{ranges_in}
use Rattle.ext_ref.specs.declared.range.NewRange.{NewRange}
use Rattle.ext_ref.specs.declared.stop.ExtStop.{ExtStop}
use Rattle.ext_ref.specs.declared.stop.ExtStop.TheVariants.{Walk, Value}

-- the new range that an item gives: that of an entry of a leaf
abbrev pub ranges_at : Item → List NewRange
ranges_at item = ranges_in (leaf_pairs (item ∷ []))

-- these are the new ranges that some items give, and the steps among them
pub record Gathers (ranges : List NewRange) (steps : List Step) (items : List Item) : Type 0 where
  pub same : ranges ≡ ranges_in (leaf_pairs items)
  pub taken : steps ≡ steps_in items

-- why a tree can't be gathered, said of an extent reference tree: an item that is refused has a value that is too short
abbrev pub said : GatherFault → ExtStop
said (gathers.Tree why) = Walk why
said (gathers.Refused item) = Value item
