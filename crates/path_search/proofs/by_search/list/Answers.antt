use Rattle.std.proofs.Common.{◌≡◌, Ok, map, true, Vec, Global, ℕ, Err}
use Rattle.std.specs.Prelude.{IfSome}
use Rattle.bt_cursor.specs.Flat.{flat_of}
use Rattle.bt_cursor.specs.Cursors.{root_of, tree_of}
use Rattle.view_rules.specs.Facts.{Facts, facts_in, is_directory}
use Rattle.path_search.specs.Places.{Place, target_of}
use Rattle.path_search.specs.Found.{found}
use Rattle.path_search.specs.Listing.{listed}
use Rattle.path_search.specs.declared.target.Target.{Target}
use Rattle.path_search.proofs.Searched.{some_at}
use Rattle.path_search.proofs.Viewed.{leads_to, leads_err, led_to, led_err}
use Rattle.path_search.proofs.Listed.{listing_found}
use Rattle.path_search.proofs.Needed.{listing_needs, listing_ends}
use Rattle.path_search.specs.Parts.{HasEntriesIn, NeedsIn}
use Rattle.path_search.specs.Needs.{PathNeeds, ChildrenNeed}
use Rattle.path_search.proofs.Stays.{stays_by, stays_on, stops_on, says_on}
use Rattle.path_search.proofs.by_search.list.Goals as goal

pub returns-in-Ok-Some-clause-leads : goal.returns-in-Ok-Some-clause-leads
returns-in-Ok-Some-clause-leads g c image told on ordered =
    let facts : Facts = facts_in c.args.names (flat_of (tree_of c.args.cursor.now image) (root_of c.args.cursor.now)) in
    let there : found facts c.args.path.now ≡ Ok c.in-To.place = leads_to (λ (p : Place). p) (found facts c.args.path.now) c.in-Ok.onward c.in-To.place c.in-To.is (c.in-Ok.ensures.leads image told on ordered) in
    let here = says_on (λ t r. IfSome c.in-Ok-Some.field-0 (λ (v : Vec Target Global). v.items ≡ map target_of (listed (facts_in c.args.names (flat_of t r)) c.in-To.place)))
    (stays_by c.args.cursor.now c.locate.new.cursor c.in-Ok.ensures.site c.in-Ok.ensures.root c.in-Ok.ensures.tree c.in-Ok.ensures.kept c.in-Ok.ensures.within) c.in-Ok-Some.ensures.found image told on ordered in
    listing_found facts c.args.path.now c.in-To.place c.in-Ok-Some.targets.items there
    (some_at (λ (v : Vec Target Global). v.items ≡ map target_of (listed facts c.in-To.place)) c.in-Ok-Some.field-0 c.in-Ok-Some.targets here c.in-Ok-Some.field-0-is)

pub returns-in-Ok-Some-clause-needs : goal.returns-in-Ok-Some-clause-needs
returns-in-Ok-Some-clause-needs g c image told on ordered =
    let tree = tree_of c.args.cursor.now image in
    let root = root_of c.args.cursor.now in
    let facts : Facts = facts_in c.args.names (flat_of tree root) in
    let has_all : ℕ → Type 0 = HasEntriesIn c.args.names tree root in
    let there : found facts c.args.path.now ≡ Ok c.in-To.place = leads_to (λ (p : Place). p) (found facts c.args.path.now) c.in-Ok.onward c.in-To.place c.in-To.is (c.in-Ok.ensures.leads image told on ordered) in
    let path : PathNeeds facts has_all c.args.path.now = led_to (PathNeeds facts has_all c.args.path.now) c.in-Ok.onward c.in-To.place c.in-To.is (c.in-Ok.ensures.needs image told on ordered) in
    let led = says_on (λ t r. IfSome c.in-Ok-Some.field-0 (λ (v : Vec Target Global). NeedsIn (λ f h. is_directory c.in-To.place.inode ≡ true → ChildrenNeed f h c.in-To.place.id) c.args.names t r))
    (stays_by c.args.cursor.now c.locate.new.cursor c.in-Ok.ensures.site c.in-Ok.ensures.root c.in-Ok.ensures.tree c.in-Ok.ensures.kept c.in-Ok.ensures.within) c.in-Ok-Some.ensures.needs image told on ordered in
    listing_needs facts has_all c.args.path.now c.in-To.place path there
    (some_at (λ (v : Vec Target Global). NeedsIn (λ f h. is_directory c.in-To.place.inode ≡ true → ChildrenNeed f h c.in-To.place.id) c.args.names tree root) c.in-Ok-Some.field-0 c.in-Ok-Some.targets led c.in-Ok-Some.field-0-is)

pub returns-in-Answered-clause-needs : goal.returns-in-Answered-clause-needs
returns-in-Answered-clause-needs g c image told on ordered =
    let tree = tree_of c.args.cursor.now image in
    let root = root_of c.args.cursor.now in
    let facts : Facts = facts_in c.args.names (flat_of tree root) in
    let has_all : ℕ → Type 0 = HasEntriesIn c.args.names tree root in
    let ends : found facts c.args.path.now ≡ Err c.in-Answered.answer = leads_err (λ (p : Place). p) (found facts c.args.path.now) c.in-Ok.onward c.in-Answered.answer c.in-Answered.is (c.in-Ok.ensures.leads image told on ordered) in
    listing_ends facts has_all c.args.path.now c.in-Answered.answer (led_err (PathNeeds facts has_all c.args.path.now) c.in-Ok.onward c.in-Answered.answer c.in-Answered.is (c.in-Ok.ensures.needs image told on ordered)) ends

pub returns-in-Ok-Some-clause-within : goal.returns-in-Ok-Some-clause-within
returns-in-Ok-Some-clause-within g c =
    (stays_on (stays_by c.args.cursor.now c.locate.new.cursor c.in-Ok.ensures.site c.in-Ok.ensures.root c.in-Ok.ensures.tree c.in-Ok.ensures.kept c.in-Ok.ensures.within) c.in-Ok-Some.ensures.stays).within

pub returns-in-Ok-Some-clause-kept : goal.returns-in-Ok-Some-clause-kept
returns-in-Ok-Some-clause-kept g c =
    (stays_on (stays_by c.args.cursor.now c.locate.new.cursor c.in-Ok.ensures.site c.in-Ok.ensures.root c.in-Ok.ensures.tree c.in-Ok.ensures.kept c.in-Ok.ensures.within) c.in-Ok-Some.ensures.stays).kept

pub returns-in-Ok-None-clause-within : goal.returns-in-Ok-None-clause-within
returns-in-Ok-None-clause-within g c =
    (stays_on (stays_by c.args.cursor.now c.locate.new.cursor c.in-Ok.ensures.site c.in-Ok.ensures.root c.in-Ok.ensures.tree c.in-Ok.ensures.kept c.in-Ok.ensures.within) c.in-Ok-None.ensures.stays).within

pub returns-in-Ok-None-clause-kept : goal.returns-in-Ok-None-clause-kept
returns-in-Ok-None-clause-kept g c =
    (stays_on (stays_by c.args.cursor.now c.locate.new.cursor c.in-Ok.ensures.site c.in-Ok.ensures.root c.in-Ok.ensures.tree c.in-Ok.ensures.kept c.in-Ok.ensures.within) c.in-Ok-None.ensures.stays).kept

pub returns-in-Err-listed-clause-within : goal.returns-in-Err-listed-clause-within
returns-in-Err-listed-clause-within g c =
    (stays_on (stays_by c.args.cursor.now c.locate.new.cursor c.in-Ok.ensures.site c.in-Ok.ensures.root c.in-Ok.ensures.tree c.in-Ok.ensures.kept c.in-Ok.ensures.within) c.in-Err-listed.ensures.stays).within

pub returns-in-Err-listed-clause-kept : goal.returns-in-Err-listed-clause-kept
returns-in-Err-listed-clause-kept g c =
    (stays_on (stays_by c.args.cursor.now c.locate.new.cursor c.in-Ok.ensures.site c.in-Ok.ensures.root c.in-Ok.ensures.tree c.in-Ok.ensures.kept c.in-Ok.ensures.within) c.in-Err-listed.ensures.stays).kept

pub returns-in-Err-listed-clause-present : goal.returns-in-Err-listed-clause-present
returns-in-Err-listed-clause-present g c =
    (stops_on (stays_by c.args.cursor.now c.locate.new.cursor c.in-Ok.ensures.site c.in-Ok.ensures.root c.in-Ok.ensures.tree c.in-Ok.ensures.kept c.in-Ok.ensures.within) c.in-Err-listed.ensures.stops).present

pub returns-in-Err-listed-clause-cause : goal.returns-in-Err-listed-clause-cause
returns-in-Err-listed-clause-cause g c e =
    (stops_on (stays_by c.args.cursor.now c.locate.new.cursor c.in-Ok.ensures.site c.in-Ok.ensures.root c.in-Ok.ensures.tree c.in-Ok.ensures.kept c.in-Ok.ensures.within) c.in-Err-listed.ensures.stops).cause cc
