use Rattle.std.proofs.Common.{rules, ℕ, ◌≡◌, ◌∙◌, Ok, map, true, ap, Vec, Global, false, subst}
use Rattle.view_rules.specs.Facts.{is_directory}
use Rattle.path_search.specs.Places.{Place, target_of}
use Rattle.path_search.specs.Found.{found}
use Rattle.path_search.specs.Listing.{children, listing}
use Rattle.path_search.specs.declared.target.Target.{Target}
use Rattle.path_search.proofs.Known.{known_ends}
use Rattle.path_search.proofs.Listed.{ok_same, listed_directory, listing_found, listing_answered}
use Rattle.path_search.specs.Needs.{PathNeeds, ChildrenNeed, ListingNeeds}
use Rattle.path_search.proofs.Needed.{told_as, known_err, listing_needs, listing_ends}
use Rattle.apfs_model.proofs.BoolTests.{clash}
use Rattle.path_search.specs.Parts.{of_any}
use Rattle.path_walk.proofs.by_memory.list.Goals as goal

pub returns-in-Err-clause-known : goal.returns-in-Err-clause-known
returns-in-Err-clause-known c facts named r =
    known_ends facts c.args.view.now (λ (p : Place). p) (found facts c.args.path.now) (λ (v : Vec Target Global). v.items) (listing facts c.args.path.now) c.in-Err.stop (listing_answered facts c.args.path.now) (c.in-Err.ensures.known facts named r)

pub returns-in-Ok-children-clause-known : goal.returns-in-Ok-children-clause-known
returns-in-Ok-children-clause-known c facts named r =
    let directory : is_directory c.in-Ok.place.inode ≡ true = search rules in
    let these = ok_same (map target_of (children facts c.id.result)) c.in-Ok-children.targets.items (c.in-Ok-children.ensures.known facts r) in
    listing_found facts c.args.path.now c.in-Ok.place c.in-Ok-children.targets.items (c.in-Ok.ensures.known facts named r)
    (listed_directory facts c.in-Ok.place c.in-Ok-children.targets.items directory (these ∙ ap (λ (n : ℕ). map target_of (children facts n)) c.id.ensures))

pub returns-clause-known : goal.returns-clause-known
returns-clause-known c facts named r =
    known_ends facts c.args.view.now (λ (v : Vec Target Global). v.items) (Ok (map target_of (children facts c.id.result))) (λ (v : Vec Target Global). v.items) (listing facts c.args.path.now) c.in-Err-children.stop (λ a e. absurd cc) (c.in-Err-children.ensures.known facts r)

pub returns-in-Err-clause-needs : goal.returns-in-Err-clause-needs
returns-in-Err-clause-needs c facts named r =
    told_as Place (Vec Target Global) (PathNeeds facts of_any c.args.path.now) (ListingNeeds facts of_any c.args.path.now) c.in-Err.stop
    (λ a e h. listing_ends facts of_any c.args.path.now a h (known_err facts c.args.view.now (λ (p : Place). p) (found facts c.args.path.now) c.in-Err.stop a (c.in-Err.ensures.known facts named r) e)) (c.in-Err.ensures.needs facts named r)

pub returns-then-not-is_directory-clause-needs : goal.returns-then-not-is_directory-clause-needs
returns-then-not-is_directory-clause-needs c facts named r =
    let file : is_directory c.in-Ok.place.inode ≡ false = search rules in
    listing_needs facts of_any c.args.path.now c.in-Ok.place (c.in-Ok.ensures.needs facts named r) (c.in-Ok.ensures.known facts named r) (λ d. clash (is_directory c.in-Ok.place.inode) d file)

pub returns-in-Ok-children-clause-needs : goal.returns-in-Ok-children-clause-needs
returns-in-Ok-children-clause-needs c facts named r =
    listing_needs facts of_any c.args.path.now c.in-Ok.place (c.in-Ok.ensures.needs facts named r) (c.in-Ok.ensures.known facts named r)
    (λ d. subst (λ (n : ℕ). ChildrenNeed facts of_any n) c.id.ensures (c.in-Ok-children.ensures.needs facts r))

pub returns-clause-needs : goal.returns-clause-needs
returns-clause-needs c facts named r =
    told_as (Vec Target Global) (Vec Target Global) (ChildrenNeed facts of_any c.id.result) (ListingNeeds facts of_any c.args.path.now) c.in-Err-children.stop
    (λ a e h. listing_needs facts of_any c.args.path.now c.in-Ok.place (c.in-Ok.ensures.needs facts named r) (c.in-Ok.ensures.known facts named r) (λ d. subst (λ (n : ℕ). ChildrenNeed facts of_any n) c.id.ensures h))
    (c.in-Err-children.ensures.needs facts r)
