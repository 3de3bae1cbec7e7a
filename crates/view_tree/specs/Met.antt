-- The entries that a tree meets, those of its path among them; and DirNames of a tree, where two of them name one directory.
use Rattle.std.specs.Prelude.{◌≡◌, ◌⊎◌, ℕ, Bool, true, ◌&&◌, nat_le, List, [], ◌∷◌, slice_get, Option, None, Some, option_map, Ok, if◌then◌else◌}
use Rattle.std.specs.List.{cons_option}
use Rattle.apfs_model.specs.Lists.{In, through, value_of}
use Rattle.fs_record.specs.Entries.{Entry}
use Rattle.fs_record.specs.Facts.{first_user_id}
use Rattle.view_rules.specs.Facts.{Facts, is_directory, has_directory}
use Rattle.path_search.specs.Paths.{components}
use Rattle.path_search.specs.Places.{Place, root_of}
use Rattle.path_search.specs.Found.{entries_in, step, found, number_named}

-- where an entry stands: the id of its directory, and its number among the entries there
pub record Spot : Type 0 where
  pub id : ℕ
  pub number : ℕ

-- a spot by its parts
abbrev pub spot_in : ℕ → ℕ → Spot
spot_in id number = record { id = id; number = number }

-- an entry stands at a spot, and it names a file
pub record IsEntryOf (facts : Facts) (spot : Spot) (file : ℕ) : Type 0 where
  pub entry : Entry
  pub there : slice_get (entries_in facts spot.id) spot.number ≡ Some entry
  pub names : entry.file_id ≡ file

-- the spot of the entry that a name takes at a place, where that is a directory
abbrev pub spot_named : Facts → Place → List ℕ → Option Spot
spot_named facts place name =
    if is_directory place.inode then option_map (spot_in place.id) (number_named facts.names name (entries_in facts place.id)) else None

-- the spots of the entries that components take, from a place on
abbrev pub taken_from : Facts → List (List ℕ) → Place → List Spot
taken_from facts [] place = []
taken_from facts (name ∷ names) place =
    cons_option (spot_named facts place name) (through (value_of (step facts place name)) (λ (next : Place). taken_from facts names next))

-- the spots of the entries that a path takes
unfoldable pub taken : Facts → List ℕ → List Spot
taken facts path = through (root_of facts) (λ (root : Place). taken_from facts (components path) root)

-- a directory that is entered where it is met: one of 16 or more
abbrev pub is_user_id : Facts → ℕ → Bool
is_user_id facts id = has_directory facts id && nat_le first_user_id id

-- a directory that a tree enters: the first, and each of 16 or more that an entry of an entered one names
pub data IsEntered (facts : Facts) (first : ℕ) : ℕ → Type 0 where
  own : IsEntered facts first first
  below : (spot : Spot) (id : ℕ) → IsEntered facts first spot.id → IsEntryOf facts spot id → is_user_id facts id ≡ true → IsEntered facts first id

-- a spot in a directory that the tree of a path enters
pub record IsUnder (facts : Facts) (path : List ℕ) (spot : Spot) : Type 0 where
  pub place : Place
  pub found_there : found facts path ≡ Ok place
  pub directory : is_directory place.inode ≡ true
  pub entered : IsEntered facts place.id spot.id

-- the tree of a path meets what stands at a spot
abbrev pub IsMet : Facts → List ℕ → Spot → Type 0
IsMet facts path spot = In spot (taken facts path) ⊎ IsUnder facts path spot

-- DirNames of a tree: two different entries that it met, those of the path among them, name one directory of 16 or more
pub record IsMetTwice (facts : Facts) (path : List ℕ) (id : ℕ) : Type 0 where
  pub one : Spot
  pub other : Spot
  pub different : one ≡ other → ⊥
  pub one_met : IsMet facts path one
  pub other_met : IsMet facts path other
  pub one_names : IsEntryOf facts one id
  pub other_names : IsEntryOf facts other id
  pub directory : is_user_id facts id ≡ true
