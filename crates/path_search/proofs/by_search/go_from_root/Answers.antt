use Rattle.std.proofs.Common.{◌≡◌, ℕ, List, Option, Some, Result, Ok, map, refl, ap, sym, subst, Bor}
use Rattle.std.specs.Option.{ok_or}
use Rattle.bt_node.specs.Entries.{Pair}
use Rattle.bt_cursor.specs.Flat.{flat_of}
use Rattle.bt_cursor.specs.Cursors.{root_of, tree_of}
use Rattle.fs_record.specs.Inodes.{Inode}
use Rattle.fs_record.specs.Facts.{first_for, inodes_of, root_id}
use Rattle.view_rules.specs.Facts.{Facts, facts_in, inode_at}
use Rattle.path_search.specs.Places.{Place, root_of as root_place}
use Rattle.path_search.specs.Parts.{along, rooted, Leads, HasEntriesIn, NeedsIn, AlongNeeds, WhereLed}
use Rattle.path_search.specs.declared.answer.Answer.{Answer}
use Rattle.path_search.specs.declared.answer.Answer.TheVariants.{NotFound}
use Rattle.path_search.proofs.Searched.{some_at}
use Rattle.path_search.proofs.Known.{root_there, found_by}
use Rattle.path_search.proofs.Needed.{path_needs, led_as}
use Rattle.path_search.specs.Needs.{PathNeeds}
use Rattle.path_search.proofs.Stays.{stays_on, stops_on, says_on}
use Rattle.path_search.proofs.by_search.go_from_root.Goals as goal

pub returns-in-Ok-go_along-clause-leads : goal.returns-in-Ok-go_along-clause-leads
returns-in-Ok-go_along-clause-leads g c path eq image told on ordered =
    let flat : List Pair = flat_of (tree_of c.args.cursor.now image) (root_of c.args.cursor.now) in
    let facts : Facts = facts_in c.args.names flat in
    let parts : List (List ℕ) = map (λ (part : Bor (List ℕ)). part.now) c.args.parts.now in
    let inode : inode_at facts root_id ≡ Some c.in-Some.inode = some_at (λ (i : Inode). first_for root_id (inodes_of flat) ≡ Some i) c.in-Ok.found c.in-Some.inode (c.in-Ok.ensures.found image told on ordered) c.in-Some.is in
    let there : rooted facts ≡ Ok c.in_ok-root.root = ap (λ (o : Option Place). ok_or o NotFound) (root_there facts c.in-Some.inode c.in_ok-root.root inode c.in_ok-root.ensures) in
    let goes = says_on (λ t r. Leads (λ (p : Place). p) (along (facts_in c.args.names (flat_of t r)) parts c.in_ok-root.root) c.in-Ok-go_along.onward) c.in-Ok.ensures.stays c.in-Ok-go_along.ensures.leads image told on ordered in
    subst (λ (w : Result Place Answer). Leads (λ (p : Place). p) w c.in-Ok-go_along.onward) (sym (found_by facts path c.in_ok-root.root parts (along facts parts c.in_ok-root.root) there eq refl)) goes

pub returns-in-Ok-go_along-clause-needs : goal.returns-in-Ok-go_along-clause-needs
returns-in-Ok-go_along-clause-needs g c path eq image told on ordered =
    let tree = tree_of c.args.cursor.now image in
    let root = root_of c.args.cursor.now in
    let flat : List Pair = flat_of tree root in
    let facts : Facts = facts_in c.args.names flat in
    let has_all : ℕ → Type 0 = HasEntriesIn c.args.names tree root in
    let parts : List (List ℕ) = map (λ (part : Bor (List ℕ)). part.now) c.args.parts.now in
    let inode : inode_at facts root_id ≡ Some c.in-Some.inode = some_at (λ (i : Inode). first_for root_id (inodes_of flat) ≡ Some i) c.in-Ok.found c.in-Some.inode (c.in-Ok.ensures.found image told on ordered) c.in-Some.is in
    let there : root_place facts ≡ Some c.in_ok-root.root = root_there facts c.in-Some.inode c.in_ok-root.root inode c.in_ok-root.ensures in
    let needs = says_on (λ t r. WhereLed (NeedsIn (λ f h. AlongNeeds f h parts c.in_ok-root.root) c.args.names t r) c.in-Ok-go_along.onward) c.in-Ok.ensures.stays c.in-Ok-go_along.ensures.needs image told on ordered in
    led_as (AlongNeeds facts has_all parts c.in_ok-root.root) (PathNeeds facts has_all path) c.in-Ok-go_along.onward
    (λ h. path_needs facts has_all path c.in_ok-root.root there (subst (λ ps. AlongNeeds facts has_all ps c.in_ok-root.root) eq h)) needs

pub returns-in-Ok-go_along-clause-stays : goal.returns-in-Ok-go_along-clause-stays
returns-in-Ok-go_along-clause-stays g c = stays_on c.in-Ok.ensures.stays c.in-Ok-go_along.ensures.stays

pub returns-in-Err-go_along-clause-stays : goal.returns-in-Err-go_along-clause-stays
returns-in-Err-go_along-clause-stays g c = stays_on c.in-Ok.ensures.stays c.in-Err-go_along.ensures.stays

pub returns-in-Err-go_along-clause-stops : goal.returns-in-Err-go_along-clause-stops
returns-in-Err-go_along-clause-stops g c = stops_on c.in-Ok.ensures.stays c.in-Err-go_along.ensures.stops
