-- What is under a directory: depth first, each directory before what it has.
use Rattle.std.specs.Prelude.{ℕ, zero, suc, Bool, ◌&&◌, ◌++◌, nat_le, List, [], ◌∷◌, length, map, Result, Ok, if◌then◌else◌}
use Rattle.apfs_model.specs.Lists.{and_then}
use Rattle.fs_record.specs.Facts.{first_user_id}
use Rattle.view_rules.specs.Facts.{Facts, is_directory}
use Rattle.path_search.specs.Paths.{slash}
use Rattle.path_search.specs.Places.{Place, target_of}
use Rattle.path_search.specs.Found.{found}
use Rattle.path_search.specs.Listing.{children}
use Rattle.fs_name.specs.Shown.{shown_name}
use Rattle.path_search.specs.Shown.{shown_at}
use Rattle.path_search.specs.declared.answer.Answer.{Answer}
use Rattle.path_search.specs.declared.target.Target.{Target}

-- a row of a tree: a place, and the shown names that lead to it, joined by slashes
pub record Row : Type 0 where
  pub path : List ℕ
  pub place : Place

-- a directory that is entered where it is met on the way: one of 16 or more
abbrev pub is_opened : Place → Bool
is_opened place = is_directory place.inode && nat_le first_user_id place.id

-- the row of a place, after what leads to it
abbrev pub row_after : List ℕ → Place → Row
row_after before place = record { path = before ++ shown_name place.name; place = place }

-- the rows of what a directory has
abbrev pub rows_of : Facts → List ℕ → ℕ → List Row
rows_of facts before id = map (row_after before) (children facts id)

-- the rows right under a row; a place that isn't entered has none
unfoldable pub rows_under : Facts → Row → List Row
rows_under facts row = if is_opened row.place then rows_of facts (row.path ++ slash ∷ []) row.place.id else []

-- n rows of a tree, or all: the first row that is left, then what is under it, then the other rows
abbrev pub rows_from : Facts → ℕ → List Row → List Row
rows_from facts zero rows = []
rows_from facts (suc n) [] = []
rows_from facts (suc n) (row ∷ rows) = row ∷ rows_from facts n (rows_under facts row ++ rows)

-- the rows under a directory: no more than the view has entries, since none is met twice
unfoldable pub rows_below : Facts → ℕ → List Row
rows_below facts id = rows_from facts (length facts.entries) (rows_of facts [] id)

-- the row of a place that is no directory
abbrev pub lone_row : Place → Row
lone_row place = record { path = shown_at place.id place.name; place = place }

-- the rows of a place: those under the directory, whatever its id, or its own
abbrev pub rows_at : Facts → Place → List Row
rows_at facts place = if is_directory place.inode then rows_below facts place.id else lone_row place ∷ []

-- a row as it is told
abbrev pub row_told : Row → List ℕ × Target
row_told row = (row.path, target_of row.place)

-- the tree of a path, or the answer
abbrev pub tree : Facts → List ℕ → Result (List (List ℕ × Target)) Answer
tree facts path = and_then (found facts path) (λ (place : Place). Ok (map row_told (rows_at facts place)))
