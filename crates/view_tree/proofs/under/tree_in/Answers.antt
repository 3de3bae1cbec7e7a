use Rattle.std.proofs.Common.{rules, refl, ◌≡◌, ◌∙◌, ℕ, List, [], length, Ok, true, false, ap, sym, subst}
use Rattle.view_rules.specs.Facts.{is_directory}
use Rattle.path_search.specs.Places.{Place}
use Rattle.path_search.specs.Found.{found}
use Rattle.view_tree.specs.Tree.{tree, lone_row, row_told}
use Rattle.view_tree.specs.Rows.{IsShownTwice, HaveMetFiles}
use Rattle.view_tree.specs.Kept.{told_rows}
use Rattle.view_tree.specs.Parts.{told_of, told_from, IsMemo, IsUnderway, AreKeptIn}
use Rattle.path_search.specs.declared.target.Target.{Target}
use Rattle.view_tree.proofs.Memos.{memo_none}
use Rattle.view_tree.proofs.Entered.{stop_known, tree_ends, tree_answered, tree_directory, stop_untold}
use Rattle.view_tree.proofs.Staying.{rows_kept, lone_kept, kept_clear, kept_files, path_stays}
use Rattle.path_search.proofs.Needed.{told_as}
use Rattle.path_search.specs.Parts.{of_any}
use Rattle.path_search.specs.Needs.{PathNeeds}
use Rattle.view_tree.proofs.under.tree_in.Goals as goal

pub returns-in-Err-clause-known : goal.returns-in-Err-clause-known
returns-in-Err-clause-known c facts named r =
    let empty : IsMemo facts c.args.path.now c.new-memo.result = memo_none facts c.args.path.now c.new-memo.result c.new-memo.ensures.empty in
    tree_ends facts c.args.view.now c.args.path.now (λ (p : Place). p) (found facts c.args.path.now) (λ (v : List (List ℕ × Target)). v) (tree facts c.args.path.now) c.in-Err.stop (tree_answered facts c.args.path.now) (c.in-Err.ensures.known facts named r empty)

pub returns-in-Ok-rows_below-clause-known : goal.returns-in-Ok-rows_below-clause-known
returns-in-Ok-rows_below-clause-known c facts named r =
    let empty : IsMemo facts c.args.path.now c.new-memo.result = memo_none facts c.args.path.now c.new-memo.result c.new-memo.ensures.empty in
    let directory : is_directory c.in-Ok.place.inode ≡ true = search rules in
    let there : found facts c.args.path.now ≡ Ok c.in-Ok.place = c.in-Ok.ensures.known facts named r empty in
    let way : IsUnderway facts c.args.path.now c.id.result c.in_ok-files.files.entries.items c.in_ok-files.files.kinds.items = record { tells = c.in_ok-files.ensures facts r; place = c.in-Ok.place; there = there; same = sym c.id.ensures; directory = directory } in
    tree_directory facts c.args.path.now c.in-Ok.place (told_rows [] c.in-Ok-rows_below.rows.items) there directory
    (c.in-Ok-rows_below.ensures.gives facts c.args.path.now way (c.in-Ok.ensures.kept facts named r empty) ∙ ap (λ (i : ℕ). told_from facts (length facts.entries) (told_of facts [] i)) c.id.ensures)
    ∙ ap (λ (l : List (List ℕ × Target)). Ok l) (sym c.below.ensures)

pub returns-clause-known : goal.returns-clause-known
returns-clause-known c facts named r =
    let empty : IsMemo facts c.args.path.now c.new-memo.result = memo_none facts c.args.path.now c.new-memo.result c.new-memo.ensures.empty in
    let directory : is_directory c.in-Ok.place.inode ≡ true = search rules in
    let there : found facts c.args.path.now ≡ Ok c.in-Ok.place = c.in-Ok.ensures.known facts named r empty in
    let way : IsUnderway facts c.args.path.now c.id.result c.in_ok-files.files.entries.items c.in_ok-files.files.kinds.items = record { tells = c.in_ok-files.ensures facts r; place = c.in-Ok.place; there = there; same = sym c.id.ensures; directory = directory } in
    stop_known facts c.args.view.now c.args.path.now (λ (v : List (List ℕ × Target)). v) (tree facts c.args.path.now) c.in-Err-rows_below.stop (c.in-Err-rows_below.ensures.stops facts c.args.path.now way (c.in-Ok.ensures.kept facts named r empty))

pub returns-then-not-is_directory-clause-clear : goal.returns-then-not-is_directory-clause-clear
returns-then-not-is_directory-clause-clear c facts named r id twice =
    let empty : IsMemo facts c.args.path.now c.new-memo.result = memo_none facts c.args.path.now c.new-memo.result c.new-memo.ensures.empty in
    let closed : is_directory c.in-Ok.place.inode ≡ false = search rules in
    let kept = lone_kept facts c.trace.new.memo c.args.path.now c.in-Ok.place c.in-Ok-lone_row.rows (row_told (lone_row c.in-Ok.place)) (c.in-Ok.ensures.known facts named r empty) closed c.in-Ok-lone_row.ensures.row refl (c.in-Ok.ensures.all facts named r empty) in
    kept_clear facts c.trace.new.memo c.args.path.now c.in-Ok-lone_row.rows kept id twice

pub returns-then-not-is_directory-clause-files : goal.returns-then-not-is_directory-clause-files
returns-then-not-is_directory-clause-files c facts named r =
    let empty : IsMemo facts c.args.path.now c.new-memo.result = memo_none facts c.args.path.now c.new-memo.result c.new-memo.ensures.empty in
    let closed : is_directory c.in-Ok.place.inode ≡ false = search rules in
    let kept = lone_kept facts c.trace.new.memo c.args.path.now c.in-Ok.place c.in-Ok-lone_row.rows (row_told (lone_row c.in-Ok.place)) (c.in-Ok.ensures.known facts named r empty) closed c.in-Ok-lone_row.ensures.row refl (c.in-Ok.ensures.all facts named r empty) in
    kept_files facts c.trace.new.memo c.args.path.now c.in-Ok-lone_row.rows kept

pub returns-in-Ok-rows_below-clause-clear : goal.returns-in-Ok-rows_below-clause-clear
returns-in-Ok-rows_below-clause-clear c facts named r id twice =
    let empty : IsMemo facts c.args.path.now c.new-memo.result = memo_none facts c.args.path.now c.new-memo.result c.new-memo.ensures.empty in
    let directory : is_directory c.in-Ok.place.inode ≡ true = search rules in
    let there : found facts c.args.path.now ≡ Ok c.in-Ok.place = c.in-Ok.ensures.known facts named r empty in
    let way : IsUnderway facts c.args.path.now c.id.result c.in_ok-files.files.entries.items c.in_ok-files.files.kinds.items = record { tells = c.in_ok-files.ensures facts r; place = c.in-Ok.place; there = there; same = sym c.id.ensures; directory = directory } in
    let k = c.in-Ok-rows_below.ensures.all facts c.args.path.now way (c.in-Ok.ensures.kept facts named r empty) in
    let kept = rows_kept facts c.rows_below.new.memo c.args.path.now c.in-Ok.place (told_rows [] c.in-Ok-rows_below.rows.items) there
    (path_stays facts c.trace.new.memo c.rows_below.new.memo c.args.path.now k.0 (c.in-Ok.ensures.all facts named r empty))
    (subst (λ (i : ℕ). AreKeptIn facts c.rows_below.new.memo i) c.id.ensures k.1.0) k.1.1 in
    kept_clear facts c.rows_below.new.memo c.args.path.now (told_rows [] c.in-Ok-rows_below.rows.items) kept id (subst (λ (l : List (List ℕ × Target)). IsShownTwice facts c.args.path.now l id) c.below.ensures twice)

pub returns-in-Ok-rows_below-clause-files : goal.returns-in-Ok-rows_below-clause-files
returns-in-Ok-rows_below-clause-files c facts named r =
    let empty : IsMemo facts c.args.path.now c.new-memo.result = memo_none facts c.args.path.now c.new-memo.result c.new-memo.ensures.empty in
    let directory : is_directory c.in-Ok.place.inode ≡ true = search rules in
    let there : found facts c.args.path.now ≡ Ok c.in-Ok.place = c.in-Ok.ensures.known facts named r empty in
    let way : IsUnderway facts c.args.path.now c.id.result c.in_ok-files.files.entries.items c.in_ok-files.files.kinds.items = record { tells = c.in_ok-files.ensures facts r; place = c.in-Ok.place; there = there; same = sym c.id.ensures; directory = directory } in
    let k = c.in-Ok-rows_below.ensures.all facts c.args.path.now way (c.in-Ok.ensures.kept facts named r empty) in
    let kept = rows_kept facts c.rows_below.new.memo c.args.path.now c.in-Ok.place (told_rows [] c.in-Ok-rows_below.rows.items) there
    (path_stays facts c.trace.new.memo c.rows_below.new.memo c.args.path.now k.0 (c.in-Ok.ensures.all facts named r empty))
    (subst (λ (i : ℕ). AreKeptIn facts c.rows_below.new.memo i) c.id.ensures k.1.0) k.1.1 in
    subst (λ (l : List (List ℕ × Target)). HaveMetFiles facts c.args.path.now l) (sym c.below.ensures) (kept_files facts c.rows_below.new.memo c.args.path.now (told_rows [] c.in-Ok-rows_below.rows.items) kept)

pub returns-in-Err-clause-needs : goal.returns-in-Err-clause-needs
returns-in-Err-clause-needs c facts named r =
    let empty : IsMemo facts c.args.path.now c.new-memo.result = memo_none facts c.args.path.now c.new-memo.result c.new-memo.ensures.empty in
    told_as Place (List (List ℕ × Target)) (PathNeeds facts of_any c.args.path.now) (PathNeeds facts of_any c.args.path.now) c.in-Err.stop (λ a e h. h) (c.in-Err.ensures.needs facts named r empty)

pub returns-then-not-is_directory-clause-needs : goal.returns-then-not-is_directory-clause-needs
returns-then-not-is_directory-clause-needs c facts named r =
    c.in-Ok.ensures.needs facts named r (memo_none facts c.args.path.now c.new-memo.result c.new-memo.ensures.empty)

pub returns-in-Ok-rows_below-clause-needs : goal.returns-in-Ok-rows_below-clause-needs
returns-in-Ok-rows_below-clause-needs c facts named r =
    c.in-Ok.ensures.needs facts named r (memo_none facts c.args.path.now c.new-memo.result c.new-memo.ensures.empty)

pub returns-clause-needs : goal.returns-clause-needs
returns-clause-needs c facts named r =
    let empty : IsMemo facts c.args.path.now c.new-memo.result = memo_none facts c.args.path.now c.new-memo.result c.new-memo.ensures.empty in
    let directory : is_directory c.in-Ok.place.inode ≡ true = search rules in
    let there : found facts c.args.path.now ≡ Ok c.in-Ok.place = c.in-Ok.ensures.known facts named r empty in
    let way : IsUnderway facts c.args.path.now c.id.result c.in_ok-files.files.entries.items c.in_ok-files.files.kinds.items = record { tells = c.in_ok-files.ensures facts r; place = c.in-Ok.place; there = there; same = sym c.id.ensures; directory = directory } in
    stop_untold (List (List ℕ × Target)) facts c.args.view.now c.args.path.now (PathNeeds facts of_any c.args.path.now) c.in-Err-rows_below.stop (c.in-Err-rows_below.ensures.stops facts c.args.path.now way (c.in-Ok.ensures.kept facts named r empty))
