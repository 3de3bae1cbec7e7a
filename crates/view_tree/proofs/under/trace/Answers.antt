use Rattle.std.proofs.Common.{◌≡◌, ◌∙◌, ℕ, List, Some, Ok, map, ap, sym, subst, Bor}
use Rattle.path_search.specs.Paths.{parts_of}
use Rattle.path_search.specs.Places.{Place, root_of}
use Rattle.path_search.specs.Found.{found}
use Rattle.path_search.specs.Parts.{along, rooted, AlongNeeds, of_any}
use Rattle.view_tree.specs.Parts.{TakesFrom}
use Rattle.path_search.proofs.Known.{found_by, found_lost}
use Rattle.view_tree.proofs.Memos.{taken_root}
use Rattle.view_tree.proofs.Entered.{path_known, tree_ends}
use Rattle.view_tree.proofs.Staying.{keeps_path}
use Rattle.path_search.proofs.Needed.{rooted_some, told_as, untold, path_needs}
use Rattle.path_search.specs.Needs.{PathNeeds}
use Rattle.view_tree.proofs.under.trace.Goals as goal

pub returns-in-Err-clause-known : goal.returns-in-Err-clause-known
returns-in-Err-clause-known c facts named r memo =
    path_known facts c.args.view.now c.args.path.now (λ (p : Place). p) (rooted facts) (λ (p : Place). p) (found facts c.args.path.now) c.in-Err.stop (found_lost facts c.args.path.now) (c.in-Err.ensures.known facts r)

pub returns-in-Ok-trace_along-clause-known : goal.returns-in-Ok-trace_along-clause-known
returns-in-Ok-trace_along-clause-known c facts named r memo =
    let parts : List (List ℕ) = map (λ (p : Bor (List ℕ)). p.now) c.deref.result.now in
    let same : parts ≡ parts_of c.args.path.now = ap (map (λ (p : Bor (List ℕ)). p.now)) c.deref.ensures.value ∙ c.in_ok-parts.ensures in
    let there : rooted facts ≡ Ok c.in-Ok.root = c.in-Ok.ensures.known facts r in
    let takes : TakesFrom facts c.args.path.now parts c.in-Ok.root = subst (λ (ps : List (List ℕ)). TakesFrom facts c.args.path.now ps c.in-Ok.root) (sym same) (taken_root facts c.args.path.now c.in-Ok.root (rooted_some facts c.in-Ok.root there)) in
    found_by facts c.args.path.now c.in-Ok.root parts (Ok c.in-Ok-trace_along.place) there same (c.in-Ok-trace_along.ensures.known facts c.args.path.now named r memo takes)

pub returns-in-Ok-trace_along-clause-kept : goal.returns-in-Ok-trace_along-clause-kept
returns-in-Ok-trace_along-clause-kept c facts named r memo =
    let parts : List (List ℕ) = map (λ (p : Bor (List ℕ)). p.now) c.deref.result.now in
    let same : parts ≡ parts_of c.args.path.now = ap (map (λ (p : Bor (List ℕ)). p.now)) c.deref.ensures.value ∙ c.in_ok-parts.ensures in
    let there : rooted facts ≡ Ok c.in-Ok.root = c.in-Ok.ensures.known facts r in
    let takes : TakesFrom facts c.args.path.now parts c.in-Ok.root = subst (λ (ps : List (List ℕ)). TakesFrom facts c.args.path.now ps c.in-Ok.root) (sym same) (taken_root facts c.args.path.now c.in-Ok.root (rooted_some facts c.in-Ok.root there)) in
    c.in-Ok-trace_along.ensures.kept facts c.args.path.now named r memo takes

pub returns-clause-known : goal.returns-clause-known
returns-clause-known c facts named r memo =
    let parts : List (List ℕ) = map (λ (p : Bor (List ℕ)). p.now) c.deref.result.now in
    let same : parts ≡ parts_of c.args.path.now = ap (map (λ (p : Bor (List ℕ)). p.now)) c.deref.ensures.value ∙ c.in_ok-parts.ensures in
    let there : rooted facts ≡ Ok c.in-Ok.root = c.in-Ok.ensures.known facts r in
    let takes : TakesFrom facts c.args.path.now parts c.in-Ok.root = subst (λ (ps : List (List ℕ)). TakesFrom facts c.args.path.now ps c.in-Ok.root) (sym same) (taken_root facts c.args.path.now c.in-Ok.root (rooted_some facts c.in-Ok.root there)) in
    tree_ends facts c.args.view.now c.args.path.now (λ (p : Place). p) (along facts parts c.in-Ok.root) (λ (p : Place). p) (found facts c.args.path.now) c.in-Err-trace_along.stop
    (λ a e. found_by facts c.args.path.now c.in-Ok.root parts _ there same e) (c.in-Err-trace_along.ensures.known facts c.args.path.now named r memo takes)

pub returns-in-Ok-trace_along-clause-all : goal.returns-in-Ok-trace_along-clause-all
returns-in-Ok-trace_along-clause-all c facts named r memo =
    let parts : List (List ℕ) = map (λ (p : Bor (List ℕ)). p.now) c.deref.result.now in
    let same : parts ≡ parts_of c.args.path.now = ap (map (λ (p : Bor (List ℕ)). p.now)) c.deref.ensures.value ∙ c.in_ok-parts.ensures in
    let root : root_of facts ≡ Some c.in-Ok.root = rooted_some facts c.in-Ok.root (c.in-Ok.ensures.known facts r) in
    let takes : TakesFrom facts c.args.path.now parts c.in-Ok.root = subst (λ (ps : List (List ℕ)). TakesFrom facts c.args.path.now ps c.in-Ok.root) (sym same) (taken_root facts c.args.path.now c.in-Ok.root root) in
    keeps_path facts c.trace_along.new.memo c.args.path.now parts c.in-Ok.root c.in-Ok-trace_along.place root same (c.in-Ok-trace_along.ensures.all facts c.args.path.now named r memo takes)

pub returns-in-Err-clause-needs : goal.returns-in-Err-clause-needs
returns-in-Err-clause-needs c facts named r memo = untold Place (PathNeeds facts of_any c.args.path.now) c.in-Err.stop c.in-Err.ensures.unanswered

pub returns-in-Ok-trace_along-clause-needs : goal.returns-in-Ok-trace_along-clause-needs
returns-in-Ok-trace_along-clause-needs c facts named r memo =
    let parts : List (List ℕ) = map (λ (p : Bor (List ℕ)). p.now) c.deref.result.now in
    let same : parts ≡ parts_of c.args.path.now = ap (map (λ (p : Bor (List ℕ)). p.now)) c.deref.ensures.value ∙ c.in_ok-parts.ensures in
    let root : root_of facts ≡ Some c.in-Ok.root = rooted_some facts c.in-Ok.root (c.in-Ok.ensures.known facts r) in
    let takes : TakesFrom facts c.args.path.now parts c.in-Ok.root = subst (λ (ps : List (List ℕ)). TakesFrom facts c.args.path.now ps c.in-Ok.root) (sym same) (taken_root facts c.args.path.now c.in-Ok.root root) in
    path_needs facts of_any c.args.path.now c.in-Ok.root root (subst (λ ps. AlongNeeds facts of_any ps c.in-Ok.root) same (c.in-Ok-trace_along.ensures.needs facts c.args.path.now named r memo takes))

pub returns-clause-needs : goal.returns-clause-needs
returns-clause-needs c facts named r memo =
    let parts : List (List ℕ) = map (λ (p : Bor (List ℕ)). p.now) c.deref.result.now in
    let same : parts ≡ parts_of c.args.path.now = ap (map (λ (p : Bor (List ℕ)). p.now)) c.deref.ensures.value ∙ c.in_ok-parts.ensures in
    let root : root_of facts ≡ Some c.in-Ok.root = rooted_some facts c.in-Ok.root (c.in-Ok.ensures.known facts r) in
    let takes : TakesFrom facts c.args.path.now parts c.in-Ok.root = subst (λ (ps : List (List ℕ)). TakesFrom facts c.args.path.now ps c.in-Ok.root) (sym same) (taken_root facts c.args.path.now c.in-Ok.root root) in
    told_as Place Place (AlongNeeds facts of_any parts c.in-Ok.root) (PathNeeds facts of_any c.args.path.now) c.in-Err-trace_along.stop
    (λ a e h. path_needs facts of_any c.args.path.now c.in-Ok.root root (subst (λ ps. AlongNeeds facts of_any ps c.in-Ok.root) same h)) (c.in-Err-trace_along.ensures.needs facts c.args.path.now named r memo takes)
