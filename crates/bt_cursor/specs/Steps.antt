-- The steps of a tree: the items above the leaves, each of which names a child.
use Rattle.std.specs.Prelude.{ℕ, ◌==◌, List, [], ◌∷◌, flat_map, if◌then◌else◌}
use Rattle.bt_cursor.specs.Tree.{Tree, child_in}
use Rattle.bt_cursor.specs.Line.{Item, line_of}
use Rattle.bt_cursor.specs.declared.step.Step.{Step}

-- the step that an item is, above the leaves
abbrev pub step_in : Item → List Step
step_in item = if item.level == 0 then [] else record { node = item.node; at = item.at; level = item.level; child = child_in item.pair } ∷ []

-- those of some items
abbrev pub steps_in : List Item → List Step
steps_in items = flat_map step_in items

-- the steps of a tree by its root, in the order in which a walk takes them, each as often as it is taken
abbrev pub steps_of : {K : Type 0} → Tree K → ℕ → List Step
steps_of tree root = steps_in (line_of tree root)
