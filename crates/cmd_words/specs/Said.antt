-- What words say by a grammar of values by place, options with a value, and flags.
use Rattle.std.specs.Prelude.{ℕ, ◌==◌, ◌&&◌, Bool, true, not, List, [], ◌∷◌, Option, Some, None}
use Rattle.std.specs.Prelude.{option_map, option_and_then, if◌then◌else◌, codes, find}
use Rattle.std.specs.List.{after_first, before_first, list_all, list_any}
use Rattle.std.specs.Str.{bytes_eq}

abbrev pub Text : Type 0
Text = List ℕ

-- a name with its value
abbrev pub Said : Type 0
Said = Text × Text

-- the names that words may give a value to
pub record Grammar : Type 0 where
  -- `--name VALUE` or `--name=VALUE`
  pub options : List Text
  -- `--name` alone
  pub flags : List Text
  -- values by their place, in order
  pub places : List Text
  -- those that must have a value
  pub required : List Text

-- the word may be a value: it has no hyphen (45) at its head, or is the hyphen alone
abbrev pub is_value : Text → Bool
is_value [] = true
is_value (c ∷ []) = true
is_value (c ∷ d ∷ rest) = not (c == 45)

-- the text before its first `=` (61), and the text after it if there is one
abbrev pub parted : Text → Text × Option Text
parted text = (
  before_first (λ x. x == 61) text,
  if list_any (λ x. x == 61) text then Some (after_first (λ x. x == 61) text) else None,
)

-- `--name` or `--name=value`, as the name and the value; `--` alone is none
abbrev pub named : Text → Option (Text × Option Text)
named (c ∷ d ∷ e ∷ rest) = if c == 45 && d == 45 then Some (parted (e ∷ rest)) else None
named _ = None

abbrev pub is_among : Text → List Text → Bool
is_among name names = list_any (λ n. bytes_eq n name) names

-- a value of a name, before what is said after it
abbrev pub first_said : Text → Text → Option (List Said) → Option (List Said)
first_said name value = option_map (λ more. (name, value) ∷ more)

-- a value by its place, where `places` are the names of those still to come
abbrev pub by_place : List Text → Text → (List Text → Option (List Said)) → Option (List Said)
by_place [] word next = None
by_place (name ∷ places) word next = first_said name word (next places)

-- the words after `--`: each is a value by its place
abbrev pub all_by_place : List Text → List Text → Option (List Said)
all_by_place places [] = Some []
all_by_place places (word ∷ rest) = by_place places word (λ left. all_by_place left rest)

-- an option: `--name=value`, or `--name`, which waits for the next word
abbrev pub with_value : Text → Option Text → (Option Text → Option (List Said)) → Option (List Said)
with_value name (Some value) next = first_said name value (next None)
with_value name None next = next (Some name)

-- a flag: `--name`, which says `true`, and takes no value
abbrev pub without_value : Text → Option Text → (Option Text → Option (List Said)) → Option (List Said)
without_value name (Some value) next = None
without_value name None next = first_said name (codes "true") (next None)

-- a name with the value that is attached to it
abbrev pub by_name : Grammar → Option (Text × Option Text) → (Option Text → Option (List Said)) → Option (List Said)
by_name grammar None next = None
by_name grammar (Some p) next =
    if is_among p.0 grammar.options then with_value p.0 p.1 next
    else (if is_among p.0 grammar.flags then without_value p.0 p.1 next else None)

-- what the words say, where `places` are still to come and `waiting` is the option that waits for its value
abbrev pub said_from : Grammar → List Text → Option Text → List Text → Option (List Said)
said_from grammar places None [] = Some []
said_from grammar places (Some name) [] = None
said_from grammar places (Some name) (word ∷ rest) =
    if is_value word then first_said name word (said_from grammar places None rest) else None
said_from grammar places None (word ∷ rest) =
    if is_value word then by_place places word (λ left. said_from grammar left None rest)
    else (if bytes_eq word (codes "--") then all_by_place places rest
    else by_name grammar (named word) (λ waiting. said_from grammar places waiting rest))

-- a name has a value
abbrev pub says : Text → List Said → Bool
says name all = list_any (λ s. bytes_eq s.0 name) all

-- no name has two values
abbrev pub is_once : List Said → Bool
is_once [] = true
is_once (s ∷ rest) = not (says s.0 rest) && is_once rest

-- no name has two values, and what is required has one
abbrev pub is_whole : List Text → List Said → Bool
is_whole required all = is_once all && list_all (λ name. says name all) required

-- what the words say by a grammar; None where they don't follow it
abbrev pub said_by_words : Grammar → List Text → Option (List Said)
said_by_words grammar words = option_and_then (λ all.
    if is_whole grammar.required all then Some all else None) (said_from grammar grammar.places None words)

-- the value that was said for a name
abbrev pub value_said : Text → List Said → Option Text
value_said name all = option_map (λ s. s.1) (find (λ s. bytes_eq s.0 name) all)
