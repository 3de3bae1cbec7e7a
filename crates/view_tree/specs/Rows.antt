-- What the rows of a tree show of the entries that it meets.
use Rattle.std.specs.Prelude.{◌≡◌, ◌⊎◌, ℕ, Bool, true, ◌&&◌, ◌==◌, nat_le, List, Ok}
use Rattle.apfs_model.specs.Lists.{In}
use Rattle.fs_record.specs.Facts.{directory_kind, first_user_id}
use Rattle.view_rules.specs.Facts.{Facts, has_inode, is_directory}
use Rattle.path_search.specs.Places.{Place}
use Rattle.path_search.specs.Found.{found}
use Rattle.path_search.specs.declared.target.Target.{Target}
use Rattle.view_tree.specs.Met.{Spot, IsEntryOf, taken, is_user_id}

-- a row of a tree names a directory that is entered: one of 16 or more
abbrev pub is_row_entered : List ℕ × Target → Bool
is_row_entered row = (row.1.kind == directory_kind) && nat_le first_user_id row.1.id

-- a tree with these rows has what is in a directory: the one that its path leads to, or one that a row names and that is entered
abbrev pub IsShown : Facts → List ℕ → List (List ℕ × Target) → ℕ → Type 0
IsShown facts path rows id =
    ((place : Place) × (found facts path ≡ Ok place) × (is_directory place.inode ≡ true) × (place.id ≡ id))
    ⊎ ((row : List ℕ × Target) × In row rows × (is_row_entered row ≡ true) × (row.1.id ≡ id))

-- an entry that a tree with these rows met: one that its path takes, or one of a directory of which it has what is in it
abbrev pub IsShownAt : Facts → List ℕ → List (List ℕ × Target) → Spot → Type 0
IsShownAt facts path rows spot = In spot (taken facts path) ⊎ IsShown facts path rows spot.id

-- two different entries that a tree with these rows met, those of the path among them, name one directory of 16 or more
pub record IsShownTwice (facts : Facts) (path : List ℕ) (rows : List (List ℕ × Target)) (id : ℕ) : Type 0 where
  pub one : Spot
  pub other : Spot
  pub different : one ≡ other → ⊥
  pub one_met : IsShownAt facts path rows one
  pub other_met : IsShownAt facts path rows other
  pub one_names : IsEntryOf facts one id
  pub other_names : IsEntryOf facts other id
  pub directory : is_user_id facts id ≡ true

-- the file of each entry that a tree with these rows met has an inode
abbrev pub HaveMetFiles : Facts → List ℕ → List (List ℕ × Target) → Type 0
HaveMetFiles facts path rows = (spot : Spot) (file : ℕ) → IsShownAt facts path rows spot → IsEntryOf facts spot file → has_inode facts file ≡ true
