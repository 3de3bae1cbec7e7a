-- A command whose arguments are places, options with one value each, and flags.
use Rattle.std.proofs.Common.{◌≡◌, ◌+◌, ℕ, Bool, true, false, List, [], ◌∷◌, Option, Some, None, min, map, codes}
use Rattle.clap.specs.Lexer.{usize_max}
use Rattle.clap.specs.Walk.{Row, Rule, arg_by_id, arg_by_index, arg_by_long, arg_by_short}
use Rattle.clap.specs.Simple.{Shape, new_shape}
use Rattle.clap.specs.Values.{reading_of}
use Rattle.clap.specs.declared.builder.action.ArgAction.TheVariants.{Set}
use Rattle.clap.specs.declared.builder.value_parser.ValueParser.TheVariants as vp
use Rattle.clap.specs.declared.parser.matches.ValueSource.TheVariants.{CommandLine}
use Rattle.cmd_words.specs.Said.{Grammar, Said, Text, is_among}

-- an argument with one value, as building leaves it
abbrev pub set_rule : Text → Option Text → Option ℕ → Bool → Rule
set_rule id long index required = record {
  id = id;
  long = long;
  aliases = [];
  short = None;
  short_aliases = [];
  index = index;
  action = Some Set;
  range = Some (record { start_inclusive = 1; end_inclusive = 1 });
  value_names = 0;
  defaults = [];
  missing = [];
  trailing_var_arg = false;
  parser = Some vp.String;
  ignore_case = false;
  required = required;
  is_simple = true;
  is_free = true;
}

-- a flag, which says `true`, as building leaves it
abbrev pub flag_rule : Text → Rule
flag_rule name = record (set_rule name (Some name) None false) {
  range = Some (record { start_inclusive = 0; end_inclusive = 0 });
  missing = codes "true" ∷ [];
}

-- a command with these arguments alone, as building leaves it
abbrev pub shape_with : List Rule → Shape
shape_with c = record (new_shape []) {
  rules = c;
  no_binary_name = true;
  disable_help_flag = true;
  disable_help_subcommand = true;
  is_built = true;
}

-- what clap keeps of a value
abbrev pub row_for : Said → Row
row_for s = record { id = s.0; values = s.1 ∷ []; count = None; source = Some CommandLine; reading = reading_of vp.String }

abbrev pub rows_for : List Said → List Row
rows_for = map row_for

-- the rule of a name, however it was found
pub record HasRule (c : List Rule) (name : Text) (found : Option Rule) : Type 0 where
  pub long : Option Text
  pub index : Option ℕ
  pub required : Bool
  pub is : found ≡ Some (set_rule name long index required)
  pub by_id : arg_by_id c name ≡ Some (set_rule name long index required)

-- the places from a position on are these
abbrev pub HasPlaces : List Rule → ℕ → List Text → Type 0
HasPlaces c k [] = arg_by_index c k ≡ None
HasPlaces c k (name ∷ rest) = HasRule c name (arg_by_index c k) × HasPlaces c (min (k + 1) usize_max) rest

-- the options and the flags are those of the grammar, and no letter names one
pub record HasNames (c : List Rule) (grammar : Grammar) : Type 0 where
  pub short : (x : ℕ) → arg_by_short c x ≡ None
  pub known : (name : Text) → is_among name grammar.options ≡ true → HasRule c name (arg_by_long c name)
  pub flag : (name : Text) → is_among name grammar.options ≡ false → is_among name grammar.flags ≡ true → arg_by_long c name ≡ Some (flag_rule name)
  pub unknown : (name : Text) → is_among name grammar.options ≡ false → is_among name grammar.flags ≡ false → arg_by_long c name ≡ None
