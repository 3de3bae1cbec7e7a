-- Rows as they are kept: of its path a row keeps how much it shares with the path of the row before it.
use Rattle.std.specs.Prelude.{ℕ, List, [], ◌∷◌, ◌++◌, take}
use Rattle.fs_name.specs.Shown.{shown_name}
use Rattle.path_search.specs.Paths.{slash}
use Rattle.path_search.specs.declared.target.Target.{Target}
use Rattle.view_tree.specs.declared.kept.Held.{Held}
use Rattle.view_tree.specs.declared.kept.Held.TheVariants.{Lone, Below}
use Rattle.view_tree.specs.declared.kept.Row.{Row}

-- the path of a row, by that of the row before it with a slash after that
abbrev pub path_after : List ℕ → Row → List ℕ
path_after before row = take row.shared before ++ shown_name row.target.name

-- rows as they are told, one after the other
abbrev pub told_rows : List ℕ → List Row → List (List ℕ × Target)
told_rows before [] = []
told_rows before (row ∷ rows) = (path_after before row, row.target) ∷ told_rows (path_after before row ++ slash ∷ []) rows

-- the path of the last of them, with a slash after it
abbrev pub last_path : List ℕ → List Row → List ℕ
last_path before [] = before
last_path before (row ∷ rows) = last_path (path_after before row ++ slash ∷ []) rows

-- the rows of a tree as they are told
abbrev pub held_told : Held → List (List ℕ × Target)
held_told (Lone path target) = (path, target) ∷ []
held_told (Below rows) = told_rows [] rows.items
