use Rattle.std.proofs.Common.{rules, ◌≡◌, ◌∙◌, List, Some, true, refl, ap, sym, subst}
use Rattle.std.specs.Prelude.{option_map, IfSome}
use Rattle.bt_node.specs.Entries.{Pair}
use Rattle.bt_cursor.specs.Flat.{flat_of}
use Rattle.bt_cursor.specs.Cursors.{root_of, tree_of}
use Rattle.fs_record.specs.Inodes.{Inode}
use Rattle.fs_record.specs.Entries.{Entry}
use Rattle.fs_record.specs.Facts.{Fact, first_for, inodes_of}
use Rattle.view_rules.specs.Facts.{Facts, facts_in, inode_at, is_directory}
use Rattle.path_search.specs.Places.{Place}
use Rattle.path_search.specs.Found.{entries_in, entry_named}
use Rattle.path_search.specs.Parts.{whats, HasEntriesIn}
use Rattle.path_search.proofs.Searched.{some_at}
use Rattle.path_search.proofs.Known.{step_to, place_there}
use Rattle.path_search.proofs.Needed.{has_file, step_to_needs}
use Rattle.path_search.proofs.Stays.{stays_on, stops_on, says_on}
use Rattle.path_search.proofs.by_search.go_on.Goals as goal

pub returns-clause-leads : goal.returns-clause-leads
returns-clause-leads g c image told on ordered =
    let flat : List Pair = flat_of (tree_of c.args.cursor.now image) (root_of c.args.cursor.now) in
    let facts : Facts = facts_in c.args.names flat in
    let e : Entry = c.in-Some-2.entry.now.what in
    let directory : is_directory c.args.place.now.inode ≡ true = search rules in
    let run = some_at (λ v. entry_named c.args.names c.args.name.now (whats v.items) ≡ entry_named c.args.names c.args.name.now (entries_in facts c.place.inside.id)) c.in-Ok.run' c.in-Some.entries (c.in-Ok.ensures.found image told on ordered) c.in-Some.is in
    let es : entry_named c.args.names c.args.name.now (whats c.in-Some.entries.items) ≡ entry_named c.args.names c.args.name.now (entries_in facts c.args.place.now.id) = run ∙ ap (λ (p : Place). entry_named c.args.names c.args.name.now (entries_in facts p.id)) c.place.view_is in
    let chosen : Some e ≡ entry_named c.args.names c.args.name.now (entries_in facts c.args.place.now.id) =
    sym (ap (option_map (λ entry. entry.now.what)) c.in-Some-2.is) ∙ (c.in_ok-entry.ensures.chosen ∙ (ap (λ (l : List (Fact Entry)). entry_named c.args.names c.args.name.now (whats l)) c.deref.ensures.value ∙ es)) in
    let found = says_on (λ t r. IfSome c.in-Ok-find_inode.found (λ (i : Inode). first_for c.file_id.result (inodes_of (flat_of t r)) ≡ Some i)) c.in-Ok.ensures.stays c.in-Ok-find_inode.ensures.found image told on ordered in
    let inode : inode_at facts e.file_id ≡ Some c.in-Some-found.inode =
    ap (λ id. first_for id (inodes_of flat)) (sym c.file_id.ensures) ∙ some_at (λ (i : Inode). first_for c.file_id.result (inodes_of flat) ≡ Some i) c.in-Ok-find_inode.found c.in-Some-found.inode found c.in-Some-found.is in
    step_to facts c.args.place.now c.args.name.now (entries_in facts c.args.place.now.id) e c.in_ok-next.next directory refl chosen (place_there facts e c.in-Some-found.inode c.in_ok-next.next inode c.in_ok-next.ensures)

pub returns-clause-needs : goal.returns-clause-needs
returns-clause-needs g c image told on ordered =
    let flat : List Pair = flat_of (tree_of c.args.cursor.now image) (root_of c.args.cursor.now) in
    let facts : Facts = facts_in c.args.names flat in
    let e : Entry = c.in-Some-2.entry.now.what in
    let run = some_at (λ v. entry_named c.args.names c.args.name.now (whats v.items) ≡ entry_named c.args.names c.args.name.now (entries_in facts c.place.inside.id)) c.in-Ok.run' c.in-Some.entries (c.in-Ok.ensures.found image told on ordered) c.in-Some.is in
    let es : entry_named c.args.names c.args.name.now (whats c.in-Some.entries.items) ≡ entry_named c.args.names c.args.name.now (entries_in facts c.args.place.now.id) = run ∙ ap (λ (p : Place). entry_named c.args.names c.args.name.now (entries_in facts p.id)) c.place.view_is in
    let all = some_at (λ v. HasEntriesIn c.args.names (tree_of c.args.cursor.now image) (root_of c.args.cursor.now) c.place.inside.id) c.in-Ok.run' c.in-Some.entries (c.in-Ok.ensures.all image told on ordered) c.in-Some.is in
    let has = subst (λ (p : Place). HasEntriesIn c.args.names (tree_of c.args.cursor.now image) (root_of c.args.cursor.now) p.id) c.place.view_is all in
    let chosen : Some e ≡ entry_named c.args.names c.args.name.now (entries_in facts c.args.place.now.id) =
    sym (ap (option_map (λ entry. entry.now.what)) c.in-Some-2.is) ∙ (c.in_ok-entry.ensures.chosen ∙ (ap (λ (l : List (Fact Entry)). entry_named c.args.names c.args.name.now (whats l)) c.deref.ensures.value ∙ es)) in
    let found = says_on (λ t r. IfSome c.in-Ok-find_inode.found (λ (i : Inode). first_for c.file_id.result (inodes_of (flat_of t r)) ≡ Some i)) c.in-Ok.ensures.stays c.in-Ok-find_inode.ensures.found image told on ordered in
    let inode : inode_at facts e.file_id ≡ Some c.in-Some-found.inode =
    ap (λ id. first_for id (inodes_of flat)) (sym c.file_id.ensures) ∙ some_at (λ (i : Inode). first_for c.file_id.result (inodes_of flat) ≡ Some i) c.in-Ok-find_inode.found c.in-Some-found.inode found c.in-Some-found.is in
    step_to_needs facts (HasEntriesIn c.args.names (tree_of c.args.cursor.now image) (root_of c.args.cursor.now)) c.args.place.now c.args.name.now (entries_in facts c.args.place.now.id) e has refl chosen (has_file facts e.file_id c.in-Some-found.inode inode)

pub returns-in-Err-find_inode-clause-stays : goal.returns-in-Err-find_inode-clause-stays
returns-in-Err-find_inode-clause-stays g c = stays_on c.in-Ok.ensures.stays c.in-Err-find_inode.ensures.stays

pub returns-in-Err-find_inode-clause-stops : goal.returns-in-Err-find_inode-clause-stops
returns-in-Err-find_inode-clause-stops g c = stops_on c.in-Ok.ensures.stays c.in-Err-find_inode.ensures.stops

pub returns-in_default-found-clause-stays : goal.returns-in_default-found-clause-stays
returns-in_default-found-clause-stays g c = stays_on c.in-Ok.ensures.stays c.in-Ok-find_inode.ensures.stays

pub returns-in_err-next-clause-stays : goal.returns-in_err-next-clause-stays
returns-in_err-next-clause-stays g c = stays_on c.in-Ok.ensures.stays c.in-Ok-find_inode.ensures.stays

pub returns-clause-stays : goal.returns-clause-stays
returns-clause-stays g c = stays_on c.in-Ok.ensures.stays c.in-Ok-find_inode.ensures.stays
