-- The line by clap is the line by the grammars.
use Rattle.std.proofs.Common.{◌≡◌, ◌∙◌, Bool, true, false, List, [], ◌∷◌, Option, Some, None, option_map, map, refl, ap, if◌then◌else◌}
use Rattle.std.specs.Prelude.{option_and_then, find, slice_get}
use Rattle.std.specs.Str.{bytes_eq}
use Rattle.std.specs.String.{string_bytes}
use Rattle.std.proofs.lemmas.Str.{IsUtf8-string_bytes}
use Rattle.std.specs.declared.string.String.{String}
use Rattle.cmd_words.specs.ByClap.{export_by_clap, line_by_clap, read_by_clap}
use Rattle.cmd_words.specs.Lines.{alone, browse_by, check_by, check_words, export_words, line_named, line_of, read, root_by, target_words, view_words, volume_alone, volume_words, xattr_by, xattr_words}
use Rattle.clap.specs.Walk.{Row, first_of}
use Rattle.clap.specs.Simple.{App}
use Rattle.cmd_words.specs.Commands.{check_app, target_app, view_app, volume_app, xattr_app}
use Rattle.cmd_words.specs.Said.{Grammar, Said, Text, said_by_words, value_said}
use Rattle.cmd_words.proofs.Shapes.{row_for, rows_for}
use Rattle.cmd_words.proofs.Walks.{AllOpen}
use Rattle.cmd_words.proofs.Found.{IsCommand, found-said, text_opens}
use Rattle.cmd_words.proofs.Grammars.{check_is, target_is, view_is, volume_is, xattr_is}

pub texts_open : {Z : Type 0} (words : List (String Z)) → AllOpen (map string_bytes words)
texts_open [] = tt
texts_open (w ∷ ws) = (text_opens (string_bytes w) (IsUtf8-string_bytes w), texts_open ws)

pub first-said : (name : Text) (all : List Said) → first_of name (rows_for all) ≡ value_said name all
first-said name [] = refl
first-said name (s ∷ rest) = go (bytes_eq s.0 name) (first-said name rest)
  where
    go : (b : Bool) → first_of name (rows_for rest) ≡ value_said name rest
        → option_and_then (λ (r : Row). slice_get r.values 0) (if b then Some (row_for s) else find (λ r. bytes_eq r.id name) (rows_for rest))
        ≡ option_map (λ (t : Said). t.1) (if b then Some s else find (λ t. bytes_eq t.0 name) rest)
    go true more = refl
    go false more = more

parts_same : {X : Type 0} (parts : (Text → Option Text) → Option X) (said : Option (List Said))
    → option_and_then (λ rows. parts (λ name. first_of name rows)) (option_map rows_for said) ≡ option_and_then (λ all. parts (λ name. value_said name all)) said
parts_same parts None = refl
parts_same parts (Some all) = λ i. parts (λ name. first-said name all i)

read_same : {X : Type 0} (app : App) (grammar : Grammar) → IsCommand app grammar → (parts : (Text → Option Text) → Option X) (words : List Text) → AllOpen words
    → read_by_clap app parts words ≡ read grammar parts words
read_same app grammar cmd parts words opens =
    ap (option_and_then (λ rows. parts (λ name. first_of name rows))) (found-said app grammar cmd words opens) ∙ parts_same parts (said_by_words grammar words)

-- the words of `export`, of which the first is the directory
export-same : (words : List Text) → AllOpen words → export_by_clap words ≡ export_words words
export-same [] opens = refl
export-same (dir ∷ rest) opens = read_same view_app view_words view_is root_by rest opens.1

-- the theorem on whole lines
pub line-same : (words : List Text) → AllOpen words → line_by_clap words ≡ line_of words
line-same [] opens = refl
line-same (command ∷ []) opens = refl
line-same (command ∷ image ∷ rest) opens = λ i. line_named command (λ asked. alone asked rest)
    (read_same check_app check_words check_is check_by rest opens.1.1 i)
    (read_same volume_app volume_words volume_is volume_alone rest opens.1.1 i)
    (read_same target_app target_words target_is browse_by rest opens.1.1 i)
    (read_same xattr_app xattr_words xattr_is xattr_by rest opens.1.1 i)
    (export-same rest opens.1.1 i)
