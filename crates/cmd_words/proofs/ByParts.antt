-- A line from what clap found.
use Rattle.std.proofs.Common.{◌≡◌, ◌∙◌, ap, sym, List, Option, Some, option_map}
use Rattle.std.specs.Prelude.{option_and_then}
use Rattle.clap.specs.Words.{App, Row, Text, first_of, found_of, rows_of}
use Rattle.clap.specs.declared.parser.matches.ArgMatches.{ArgMatches}
use Rattle.cmd_words.specs.Commands.{found_in}
use Rattle.cmd_words.specs.ByClap.{read_by_clap}

pub read_from : {X : Type 0} (app made : App) (words : List Text) (parts : (Text → Option Text) → Option X) (o : Option ArgMatches) (m : ArgMatches) (line : Option X)
    → made ≡ app → o ≡ Some m → option_map (λ m. rows_of (found_of m)) o ≡ found_in made words → line ≡ parts (λ name. first_of name (rows_of (found_of m)))
    → line ≡ read_by_clap app parts words
read_from app made words parts o m line same is found is_line =
    is_line ∙ ap (option_and_then (λ (rows : List Row). parts (λ name. first_of name rows))) (ap (option_map (λ (n : ArgMatches). rows_of (found_of n))) (sym is) ∙ found ∙ ap (λ (a : App). found_in a words) same)
