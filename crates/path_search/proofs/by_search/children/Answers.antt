use Rattle.std.proofs.Common.{◌≡◌, ◌∙◌, List, ap, subst}
use Rattle.std.specs.Prelude.{IfSome}
use Rattle.bt_cursor.specs.Flat.{flat_of}
use Rattle.bt_cursor.specs.Cursors.{root_of, tree_of}
use Rattle.fs_record.specs.Entries.{Entry}
use Rattle.fs_record.specs.Facts.{Fact}
use Rattle.view_rules.specs.Facts.{Facts, facts_in}
use Rattle.path_search.specs.Found.{entries_in}
use Rattle.path_search.specs.Parts.{whats, targets_by, HasEntriesIn}
use Rattle.path_search.proofs.Searched.{some_at}
use Rattle.path_search.proofs.Listed.{children_told}
use Rattle.path_search.specs.Needs.{HaveFiles}
use Rattle.path_search.proofs.Stays.{stays_on, stops_on, says_on}
use Rattle.path_search.proofs.by_search.children.Goals as goal

pub returns-clause-found : goal.returns-clause-found
returns-clause-found g c image told on ordered =
    let facts : Facts = facts_in c.args.names (flat_of (tree_of c.args.cursor.now image) (root_of c.args.cursor.now)) in
    let run : whats c.in-Some.entries.items ≡ entries_in facts c.args.id = some_at (λ v. whats v.items ≡ entries_in facts c.args.id) c.in-Ok.run' c.in-Some.entries (c.in-Ok.ensures.found image told on ordered) c.in-Some.is in
    let here = says_on (λ t r. IfSome c.in-Ok-targets_at.found (λ v. v.items ≡ targets_by (facts_in c.args.names (flat_of t r)) (whats c.deref.result.now))) c.in-Ok.ensures.stays c.in-Ok-targets_at.ensures.found image told on ordered in
    let there : c.in-Some-found.targets.items ≡ targets_by facts (whats c.deref.result.now) = some_at (λ v. v.items ≡ targets_by facts (whats c.deref.result.now)) c.in-Ok-targets_at.found c.in-Some-found.targets here c.in-Some-found.is in
    children_told facts c.args.id (whats c.in-Some.entries.items) c.in-Some-found.targets.items c.in_ok-sorted.sorted.items run (there ∙ ap (λ (l : List (Fact Entry)). targets_by facts (whats l)) c.deref.ensures.value) c.in_ok-sorted.ensures

pub returns-clause-needs : goal.returns-clause-needs
returns-clause-needs g c image told on ordered =
    let tree = tree_of c.args.cursor.now image in
    let root = root_of c.args.cursor.now in
    let facts : Facts = facts_in c.args.names (flat_of tree root) in
    let run : whats c.in-Some.entries.items ≡ entries_in facts c.args.id = some_at (λ v. whats v.items ≡ entries_in facts c.args.id) c.in-Ok.run' c.in-Some.entries (c.in-Ok.ensures.found image told on ordered) c.in-Some.is in
    let all : HasEntriesIn c.args.names tree root c.args.id = some_at (λ v. HasEntriesIn c.args.names tree root c.args.id) c.in-Ok.run' c.in-Some.entries (c.in-Ok.ensures.all image told on ordered) c.in-Some.is in
    let led = says_on (λ t r. IfSome c.in-Ok-targets_at.found (λ v. HaveFiles (facts_in c.args.names (flat_of t r)) (whats c.deref.result.now))) c.in-Ok.ensures.stays c.in-Ok-targets_at.ensures.needs image told on ordered in
    let files : HaveFiles facts (whats c.deref.result.now) = some_at (λ v. HaveFiles facts (whats c.deref.result.now)) c.in-Ok-targets_at.found c.in-Some-found.targets led c.in-Some-found.is in
    (all, subst (λ l. HaveFiles facts l) (ap whats c.deref.ensures.value ∙ run) files)

pub returns-in-Err-targets_at-clause-stays : goal.returns-in-Err-targets_at-clause-stays
returns-in-Err-targets_at-clause-stays g c = stays_on c.in-Ok.ensures.stays c.in-Err-targets_at.ensures.stays

pub returns-in-Err-targets_at-clause-stops : goal.returns-in-Err-targets_at-clause-stops
returns-in-Err-targets_at-clause-stops g c = stops_on c.in-Ok.ensures.stays c.in-Err-targets_at.ensures.stops

pub returns-in_default-found-clause-stays : goal.returns-in_default-found-clause-stays
returns-in_default-found-clause-stays g c = stays_on c.in-Ok.ensures.stays c.in-Ok-targets_at.ensures.stays

pub returns-in_err-sorted-clause-stays : goal.returns-in_err-sorted-clause-stays
returns-in_err-sorted-clause-stays g c = stays_on c.in-Ok.ensures.stays c.in-Ok-targets_at.ensures.stays

pub returns-clause-stays : goal.returns-clause-stays
returns-clause-stays g c = stays_on c.in-Ok.ensures.stays c.in-Ok-targets_at.ensures.stays
