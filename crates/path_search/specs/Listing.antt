-- What a directory has, and what is listed of a path.
use Rattle.std.specs.Prelude.{ℕ, List, [], ◌∷◌, map, filter_map, Result, Ok, if◌then◌else◌}
use Rattle.apfs_model.specs.Lists.{and_then}
use Rattle.view_rules.specs.Facts.{Facts, is_directory}
use Rattle.path_search.specs.Places.{Place, target_of}
use Rattle.path_search.specs.Found.{entries_in, place_by, found}
use Rattle.path_search.specs.Order.{by_name}
use Rattle.path_search.specs.declared.answer.Answer.{Answer}
use Rattle.path_search.specs.declared.target.Target.{Target}

-- what a directory has: the places of its entries' files, by name
unfoldable pub children : Facts → ℕ → List Place
children facts id = by_name (λ (p : Place). p.name) (filter_map (place_by facts) (entries_in facts id))

-- what is listed of a place: what a directory has, or the place alone
abbrev pub listed : Facts → Place → List Place
listed facts place = if is_directory place.inode then children facts place.id else place ∷ []

-- what is listed of a path, or the answer
abbrev pub listing : Facts → List ℕ → Result (List Target) Answer
listing facts path = and_then (found facts path) (λ (place : Place). Ok (map target_of (listed facts place)))
