-- What the first search found, or the second one.
use Rattle.std.proofs.Common.{rules, ◌≡◌, ◌==◌, length, true, false}
use Rattle.std.specs.Prelude.{filter, IfSome}
use Rattle.bt_cursor.specs.Cursors.{root_of, tree_of}
use Rattle.bt_cursor.specs.Flat.{flat_of}
use Rattle.bt_keys.specs.RecordKey.{entry_record}
use Rattle.fs_record.specs.Facts.{all_for, entries_of, is_reserved}
use Rattle.view_rules.specs.Facts.{Facts, facts_in}
use Rattle.path_search.specs.Found.{entries_in, entry_named, has_name, has_form}
use Rattle.path_search.specs.Parts.{whats, HasKindIn, HasEntriesIn}
use Rattle.path_search.proofs.Chosen.{among_same, among_alike}
use Rattle.path_search.proofs.Needed.{if_as}
use Rattle.path_search.proofs.Searched.{some_at}
use Rattle.path_search.proofs.Stays.{stays_on, stops_on, says_on}
use Rattle.path_search.proofs.by_search.candidates.Goals as goal

pub returns-then-not-is_empty-clause-found : goal.returns-then-not-is_empty-clause-found
returns-then-not-is_empty-clause-found g c image told on ordered =
    let facts : Facts = facts_in c.args.names (flat_of (tree_of c.args.cursor.now image) (root_of c.args.cursor.now)) in
    let counts : is_reserved c.args.id ≡ false = search rules in
    let some : (length c.in-Some.same.items == 0) ≡ false = search rules in
    let kept = some_at (λ v. whats v.items ≡ filter (has_name c.args.name.now) (all_for c.args.id facts.entries)) c.in-Ok.run' c.in-Some.same (c.in-Ok.ensures.found image told on ordered) c.in-Some.is in
    among_same facts c.args.id c.args.name.now c.in-Some.same.items counts kept some

pub returns-then-not-is_empty-clause-all : goal.returns-then-not-is_empty-clause-all
returns-then-not-is_empty-clause-all g c image told on ordered counts =
    some_at (λ v. HasKindIn c.args.names (tree_of c.args.cursor.now image) (root_of c.args.cursor.now) c.args.id entry_record) c.in-Ok.run' c.in-Some.same (c.in-Ok.ensures.all image told on ordered) c.in-Some.is

pub returns-in-Ok-find_entries-clause-found : goal.returns-in-Ok-find_entries-clause-found
returns-in-Ok-find_entries-clause-found g c image told on ordered =
    let facts : Facts = facts_in c.args.names (flat_of (tree_of c.args.cursor.now image) (root_of c.args.cursor.now)) in
    let counts : is_reserved c.args.id ≡ false = search rules in
    let empty : (length c.in-Some.same.items == 0) ≡ true = search rules in
    let none = some_at (λ v. whats v.items ≡ filter (has_name c.args.name.now) (all_for c.args.id facts.entries)) c.in-Ok.run' c.in-Some.same (c.in-Ok.ensures.found image told on ordered) c.in-Some.is in
    if_as (λ v. whats v.items ≡ filter (has_form c.args.names c.args.name.now) (all_for c.args.id facts.entries)) (λ v. entry_named c.args.names c.args.name.now (whats v.items) ≡ entry_named c.args.names c.args.name.now (entries_in facts c.args.id)) c.in-Ok-find_entries.run'
    (λ v h. among_alike facts c.args.id c.args.name.now c.in-Some.same.items v.items counts none empty h)
    (says_on (λ t r. IfSome c.in-Ok-find_entries.run' (λ v. whats v.items ≡ filter (has_form c.args.names c.args.name.now) (all_for c.args.id (entries_of c.args.names (flat_of t r))))) c.in-Ok.ensures.stays c.in-Ok-find_entries.ensures.found image told on ordered)

pub returns-in-Ok-find_entries-clause-all : goal.returns-in-Ok-find_entries-clause-all
returns-in-Ok-find_entries-clause-all g c image told on ordered =
    if_as (λ v. HasKindIn c.args.names (tree_of c.args.cursor.now image) (root_of c.args.cursor.now) c.args.id entry_record) (λ v. HasEntriesIn c.args.names (tree_of c.args.cursor.now image) (root_of c.args.cursor.now) c.args.id) c.in-Ok-find_entries.run' (λ v h counts. h)
    (says_on (λ t r. IfSome c.in-Ok-find_entries.run' (λ v. HasKindIn c.args.names t r c.args.id entry_record)) c.in-Ok.ensures.stays c.in-Ok-find_entries.ensures.all image told on ordered)

pub returns-in-Ok-find_entries-clause-stays : goal.returns-in-Ok-find_entries-clause-stays
returns-in-Ok-find_entries-clause-stays g c = stays_on c.in-Ok.ensures.stays c.in-Ok-find_entries.ensures.stays

pub returns-clause-stays : goal.returns-clause-stays
returns-clause-stays g c = stays_on c.in-Ok.ensures.stays c.in-Err-find_entries.ensures.stays

pub returns-clause-stops : goal.returns-clause-stops
returns-clause-stops g c = stops_on c.in-Ok.ensures.stays c.in-Err-find_entries.ensures.stops
