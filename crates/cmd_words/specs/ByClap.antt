-- The line by clap's own definitions. No public clause speaks of it.
use Rattle.std.specs.Prelude.{List, [], ◌∷◌, Option, None, option_and_then}
use Rattle.clap.specs.Walk.{Text, first_of}
use Rattle.clap.specs.Simple.{App}
use Rattle.cmd_words.specs.Asked.{Asked, AskedTarget}
use Rattle.cmd_words.specs.Commands.{check_app, found_in, target_app, view_app, volume_app, xattr_app}
use Rattle.cmd_words.specs.Lines.{alone, browse_by, check_by, line_named, root_by, volume_alone, xattr_by}

-- what the words ask for, by what clap finds for each name
abbrev pub read_by_clap : {X : Type 0} → App → ((Text → Option Text) → Option X) → List Text → Option X
read_by_clap app parts words =
    option_and_then (λ rows. parts (λ name. first_of name rows)) (found_in app words)

-- the root of a view, by what clap finds in the words after the directory
abbrev pub export_by_clap : List Text → Option AskedTarget
export_by_clap [] = None
export_by_clap (dir ∷ rest) = read_by_clap view_app root_by rest

-- what a line of words asks for, by what clap finds
abbrev pub line_by_clap : List Text → Option Asked
line_by_clap (command ∷ image ∷ rest) = line_named command (λ asked. alone asked rest)
    (read_by_clap check_app check_by rest) (read_by_clap volume_app volume_alone rest)
    (read_by_clap target_app browse_by rest) (read_by_clap xattr_app xattr_by rest) (export_by_clap rest)
line_by_clap words = None
