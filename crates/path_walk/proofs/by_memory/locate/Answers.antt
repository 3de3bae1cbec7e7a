use Rattle.std.proofs.Common.{◌≡◌, ◌∙◌, map, List, Ok, ap, subst, Some, ℕ, Bor}
use Rattle.path_search.specs.Paths.{parts_of}
use Rattle.path_search.specs.Places.{Place, root_of}
use Rattle.path_search.specs.Found.{found}
use Rattle.path_search.specs.Parts.{along, rooted, AlongNeeds, of_any}
use Rattle.path_search.proofs.Known.{known_ends, found_by, found_lost}
use Rattle.path_search.specs.Needs.{PathNeeds}
use Rattle.path_search.proofs.Needed.{untold, told_as, path_needs, rooted_some}
use Rattle.path_walk.proofs.by_memory.locate.Goals as goal

pub returns-in-Err-clause-known : goal.returns-in-Err-clause-known
returns-in-Err-clause-known c facts named r =
    known_ends facts c.args.view.now (λ (p : Place). p) (rooted facts) (λ (p : Place). p) (found facts c.args.path.now) c.in-Err.stop (found_lost facts c.args.path.now) (c.in-Err.ensures.known facts r)

pub returns-in-Ok-go_along-clause-known : goal.returns-in-Ok-go_along-clause-known
returns-in-Ok-go_along-clause-known c facts named r =
    found_by facts c.args.path.now c.in-Ok.root (map (λ part. part.now) c.deref.result.now) (Ok c.in-Ok-go_along.place) (c.in-Ok.ensures.known facts r) (ap (map (λ part. part.now)) c.deref.ensures.value ∙ c.in_ok-parts.ensures) (c.in-Ok-go_along.ensures.known facts named r)

pub returns-clause-known : goal.returns-clause-known
returns-clause-known c facts named r =
    known_ends facts c.args.view.now (λ (p : Place). p) (along facts (map (λ part. part.now) c.deref.result.now) c.in-Ok.root) (λ (p : Place). p) (found facts c.args.path.now) c.in-Err-go_along.stop
    (λ a e. found_by facts c.args.path.now c.in-Ok.root (map (λ part. part.now) c.deref.result.now) _ (c.in-Ok.ensures.known facts r) (ap (map (λ part. part.now)) c.deref.ensures.value ∙ c.in_ok-parts.ensures) e) (c.in-Err-go_along.ensures.known facts named r)

pub returns-in-Err-clause-needs : goal.returns-in-Err-clause-needs
returns-in-Err-clause-needs c facts named r = untold Place (PathNeeds facts of_any c.args.path.now) c.in-Err.stop c.in-Err.ensures.unanswered

pub returns-in-Ok-go_along-clause-needs : goal.returns-in-Ok-go_along-clause-needs
returns-in-Ok-go_along-clause-needs c facts named r =
    let parts : List (List ℕ) = map (λ (part : Bor (List ℕ)). part.now) c.deref.result.now in
    let same : parts ≡ parts_of c.args.path.now = ap (map (λ part. part.now)) c.deref.ensures.value ∙ c.in_ok-parts.ensures in
    let there : root_of facts ≡ Some c.in-Ok.root = rooted_some facts c.in-Ok.root (c.in-Ok.ensures.known facts r) in
    path_needs facts of_any c.args.path.now c.in-Ok.root there (subst (λ ps. AlongNeeds facts of_any ps c.in-Ok.root) same (c.in-Ok-go_along.ensures.needs facts named r))

pub returns-clause-needs : goal.returns-clause-needs
returns-clause-needs c facts named r =
    let parts : List (List ℕ) = map (λ (part : Bor (List ℕ)). part.now) c.deref.result.now in
    let same : parts ≡ parts_of c.args.path.now = ap (map (λ part. part.now)) c.deref.ensures.value ∙ c.in_ok-parts.ensures in
    let there : root_of facts ≡ Some c.in-Ok.root = rooted_some facts c.in-Ok.root (c.in-Ok.ensures.known facts r) in
    told_as Place Place (AlongNeeds facts of_any parts c.in-Ok.root) (PathNeeds facts of_any c.args.path.now) c.in-Err-go_along.stop
    (λ a e h. path_needs facts of_any c.args.path.now c.in-Ok.root there (subst (λ ps. AlongNeeds facts of_any ps c.in-Ok.root) same h)) (c.in-Err-go_along.ensures.needs facts named r)
