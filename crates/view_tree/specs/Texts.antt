-- What the command `tree` writes.
use Rattle.std.specs.Prelude.{ℕ, List}
use Rattle.std.specs.List.{flat_map}
use Rattle.path_search.specs.Texts.{line_text}
use Rattle.path_search.specs.declared.target.Target.{Target}

-- the line of a row: the shown path in the name's place
abbrev pub row_text : List ℕ × Target → List ℕ
row_text row = line_text row.1 row.0

-- `tree`: a line for each row
abbrev pub tree_text : List (List ℕ × Target) → List ℕ
tree_text rows = flat_map row_text rows
