-- Where a path leads: from the root on, each component takes an entry of the directory that was reached.
use Rattle.std.specs.Prelude.{ℕ, Bool, not, List, [], ◌∷◌, bytes_eq, Option, None, Some, Result, Ok, Err, if◌then◌else◌}
use Rattle.std.specs.List.{find, position}
use Rattle.std.specs.Option.{option_or, ok_or}
use Rattle.apfs_model.specs.Lists.{and_then}
use Rattle.fs_name.specs.Normal.{is_same_name}
use Rattle.fs_name.specs.declared.naming.Names.{Names}
use Rattle.fs_record.specs.Entries.{Entry}
use Rattle.fs_record.specs.Facts.{all_for, is_reserved}
use Rattle.view_rules.specs.Facts.{Facts, is_directory}
use Rattle.path_search.specs.Paths.{components}
use Rattle.path_search.specs.Places.{Place, place_of, root_of, target_of}
use Rattle.path_search.specs.declared.answer.Answer.{Answer}
use Rattle.path_search.specs.declared.answer.Answer.TheVariants.{NotFound, NotDirectory}
use Rattle.path_search.specs.declared.target.Target.{Target}

-- the entries of a directory, in record order; those of a reserved directory are neither followed nor listed
unfoldable pub entries_in : Facts → ℕ → List Entry
entries_in facts id = if is_reserved id then [] else all_for id facts.entries

-- an entry has a name, byte by byte
abbrev pub has_name : List ℕ → Entry → Bool
has_name name e = bytes_eq e.name name

-- an entry has a name by their normal forms
abbrev pub has_form : Names → List ℕ → Entry → Bool
has_form names name e = is_same_name names e.name name

-- the entry that a name takes: the one of the same bytes, otherwise the first of the same normal form
unfoldable pub entry_named : Names → List ℕ → List Entry → Option Entry
entry_named names name es = option_or (find (has_name name) es) (find (has_form names name) es)

-- the number of the entry that a name takes
unfoldable pub number_named : Names → List ℕ → List Entry → Option ℕ
number_named names name es = option_or (position (has_name name) es) (position (has_form names name) es)

-- the place of an entry's file
abbrev pub place_by : Facts → Entry → Option Place
place_by facts e = place_of facts e.file_id e.name

-- NotFound: there is no entry
abbrev pub followed : Facts → Option Entry → Result Place Answer
followed facts None = Err NotFound
followed facts (Some e) = ok_or (place_by facts e) NotFound

-- one component on from a place; NotDirectory where that is no directory
abbrev pub step : Facts → Place → List ℕ → Result Place Answer
step facts place name =
    if not (is_directory place.inode) then Err NotDirectory else
    followed facts (entry_named facts.names name (entries_in facts place.id))

-- some components on from a place
abbrev pub walk : Facts → List (List ℕ) → Place → Result Place Answer
walk facts [] place = Ok place
walk facts (name ∷ names) place = and_then (step facts place name) (λ next. walk facts names next)

-- where a path leads, or the answer
unfoldable pub found : Facts → List ℕ → Result Place Answer
found facts path = and_then (ok_or (root_of facts) NotFound) (λ root. walk facts (components path) root)

-- what a path leads to, as it is told, or the answer
abbrev pub target_found : Facts → List ℕ → Result Target Answer
target_found facts path = and_then (found facts path) (λ (place : Place). Ok (target_of place))
