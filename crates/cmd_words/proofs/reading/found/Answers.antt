use Rattle.std.proofs.Common.{◌≡◌, ◌∙◌, ap, sym, true, map, List, [], Some, None, if◌then◌else◌}
use Rattle.std.specs.String.{string_bytes}
use Rattle.clap.specs.Words.{App, Kinds, Row, Text, app_of, built, fault_of, is_simple, matches_of}
use Rattle.clap.specs.Walk.{is_empty}
use Rattle.clap.specs.Faults.{is_free_app}
use Rattle.clap.proofs.WalkLemmas.{both}
use Rattle.cmd_words.specs.Commands.{found_in}
use Rattle.cmd_words.proofs.reading.found.Goals as goal

taken : (app : App) (words : List Text) (rows : List Row) → fault_of app words ≡ [] → rows ≡ matches_of app words → Some rows ≡ found_in app words
taken app words rows free same =
    ap (λ (r : List Row). Some r) same ∙ sym (ap (λ (k : Kinds). if is_empty k then Some (matches_of app words) else None) free)

pub returns-in-Ok : goal.returns-in-Ok
returns-in-Ok c =
    let simple : is_simple (app_of c.args.command) ≡ true = (both (is_simple (app_of c.args.command)) (is_free_app (built (app_of c.args.command))) c.requires).0 in
    taken (app_of c.args.command) (map string_bytes c.args.words.now) _ (c.in-Ok.ensures.kinds c.requires) (c.in-Ok.ensures.matches simple).0
