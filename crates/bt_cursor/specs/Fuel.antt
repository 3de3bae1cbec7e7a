-- How far a walk can still go, whatever the source gives: a number that falls with each step.
use Rattle.std.specs.Prelude.{ℕ, zero, suc, ◌+◌, ◌-◌, ◌*◌, Bool, true, false, List, [], ◌∷◌}
use Rattle.bt_node.specs.Node.{level_of, count_of}
use Rattle.bt_cursor.specs.declared.way.Step.{Step}
use Rattle.bt_cursor.specs.declared.way.Way.{Way}

-- more than all that is below an entry of a level
abbrev pub weight : ℕ → ℕ
weight zero = 1
weight (suc level) = 65537 * weight level

abbrev pub fuel_at : List ℕ → ℕ → ℕ
fuel_at node next = (count_of node - next) * weight (level_of node)

abbrev pub fuel_above : List Step → ℕ
fuel_above [] = 0
fuel_above (step ∷ steps) = fuel_at step.block.items step.next + fuel_above steps

abbrev pub fuel_way : Way → ℕ
fuel_way way = fuel_at way.last.block.items way.last.next + fuel_above way.above.items

-- at most what is below an entry whose child is still to come
abbrev pub pending : Bool → List ℕ → ℕ
pending true node = 65536 * weight (level_of node - 1)
pending false node = 0

abbrev pub fuel_if : Bool → Way → ℕ
fuel_if deep way = pending deep way.last.block.items + fuel_way way
