use Rattle.std.proofs.Common.{◌≡◌, ◌∙◌, ◌-◌, List, length, take, drop, ap, sym, subst}
use Rattle.std.proofs.lemmas.List.{take_rest}
use Rattle.fs_record.specs.Entries.{Entry}
use Rattle.fs_record.specs.Facts.{Fact}
use Rattle.path_search.specs.Parts.{IsFirst}
use Rattle.path_walk.proofs.Rising.{rest_first, run_is_part}
use Rattle.path_walk.proofs.files.run_at.Goals as goal

pub returns-clause-run : goal.returns-clause-run
returns-clause-run c rises =
    let es : List (Fact Entry) = c.args.entries.now in
    let rest : List (Fact Entry) = take (length es - c.entries_below-from.result) (drop c.entries_below-from.result es) in
    let same : rest ≡ drop c.entries_below-from.result es = take_rest es c.entries_below-from.result in
    let first : IsFirst c.args.id rest = subst (λ (l : List (Fact Entry)). IsFirst c.args.id l) (sym same) (rest_first c.args.id c.entries_below-from.result es rises c.entries_below-from.ensures.bound (c.entries_below-from.ensures.split rises)) in
    ap (take c.entries_of-count.result) (sym same)
    ∙ run_is_part c.args.id c.entries_below-from.result c.entries_of-count.result es rest same c.entries_below-from.ensures.bound c.entries_of-count.ensures.bound (c.entries_below-from.ensures.split rises) (c.entries_of-count.ensures.split first)
