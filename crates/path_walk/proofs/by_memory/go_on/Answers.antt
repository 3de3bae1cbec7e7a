use Rattle.std.proofs.Common.{rules, ℕ, ◌≡◌, ◌∙◌, ap, sym, false, Some, None}
use Rattle.apfs_model.specs.Lists.{In}
use Rattle.path_search.specs.Places.{Place}
use Rattle.path_search.specs.Found.{step, entries_in, entry_named}
use Rattle.path_search.proofs.Known.{known_lack}
use Rattle.std.specs.Prelude.{option_map}
use Rattle.fs_name.specs.declared.naming.Names.{Names}
use Rattle.fs_record.specs.Entries.{Entry}
use Rattle.view_rules.specs.Facts.{is_directory}
use Rattle.path_search.specs.Parts.{whats, of_any}
use Rattle.path_search.specs.Needs.{StepNeeds}
use Rattle.path_search.proofs.Needed.{file_needs, step_none_needs, step_to_needs, placed_file, place_untold}
use Rattle.path_walk.proofs.by_memory.go_on.Goals as goal

pub returns-in-Err-clause-known : goal.returns-in-Err-clause-known
returns-in-Err-clause-known c facts named r =
    let one : In c.in-Some.entry.now c.directory.result.now = search rules in
    let t = c.directory.ensures.counted facts r c.in-Some.entry.now one in
    known_lack facts c.args.view.now c.in-Some.entry.now (λ (p : Place). p) (step facts c.args.place.now c.args.name.now) c.in-Err.stop t.0 t.1 (c.in-Err.ensures.known facts r)

pub returns-then-not-is_directory-clause-needs : goal.returns-then-not-is_directory-clause-needs
returns-then-not-is_directory-clause-needs c facts named r =
    let file : is_directory c.args.place.now.inode ≡ false = search rules in
    file_needs facts of_any c.args.place.now c.args.name.now file

pub returns-in-None-clause-needs : goal.returns-in-None-clause-needs
returns-in-None-clause-needs c facts named r =
    let es : whats c.directory.result.now ≡ entries_in facts c.args.place.now.id = c.directory.ensures.all facts r ∙ ap (λ (n : ℕ). entries_in facts n) c.id.ensures in
    let none : None ≡ entry_named c.args.names c.args.name.now (whats c.directory.result.now) = sym (ap (option_map (λ entry. entry.now.what)) c.in-None.is) ∙ c.in_ok-chosen.ensures.chosen in
    step_none_needs facts of_any c.args.place.now c.args.name.now (whats c.directory.result.now) tt es (none ∙ ap (λ (n : Names). entry_named n c.args.name.now (whats c.directory.result.now)) (sym named))

pub returns-in-Ok-clause-needs : goal.returns-in-Ok-clause-needs
returns-in-Ok-clause-needs c facts named r =
    let e : Entry = c.in-Some.entry.now.what in
    let es : whats c.directory.result.now ≡ entries_in facts c.args.place.now.id = c.directory.ensures.all facts r ∙ ap (λ (n : ℕ). entries_in facts n) c.id.ensures in
    let chosen : Some e ≡ entry_named c.args.names c.args.name.now (whats c.directory.result.now) = sym (ap (option_map (λ entry. entry.now.what)) c.in-Some.is) ∙ c.in_ok-chosen.ensures.chosen in
    step_to_needs facts of_any c.args.place.now c.args.name.now (whats c.directory.result.now) e tt es (chosen ∙ ap (λ (n : Names). entry_named n c.args.name.now (whats c.directory.result.now)) (sym named))
    (placed_file facts e c.in-Ok.place (c.in-Ok.ensures.known facts r))

pub returns-in-Err-clause-needs : goal.returns-in-Err-clause-needs
returns-in-Err-clause-needs c facts named r = place_untold Place facts c.args.view.now c.in-Some.entry.now (StepNeeds facts of_any c.args.place.now c.args.name.now) c.in-Err.stop (c.in-Err.ensures.known facts r)
