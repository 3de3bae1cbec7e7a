use Rattle.std.proofs.Common.{◌≡◌, ◌<◌, ◌+◌, ℕ, List, [], ◌∷◌, Result, map, length, drop, get_or, refl, ap, ◌∙◌, inr, subst, arith, Bor}
use Rattle.path_search.specs.Places.{Place}
use Rattle.path_search.specs.Parts.{along, by_part, PartNeeds, AlongNeeds, of_any}
use Rattle.view_tree.specs.Parts.{TakesFrom, KeepsFrom}
use Rattle.path_search.specs.declared.answer.Answer.{Answer}
use Rattle.path_search.proofs.Listed.{drop-all, drop_at, along_next, along_ends, along_done}
use Rattle.view_tree.proofs.Entered.{tree_ends, tree_err}
use Rattle.view_tree.proofs.Staying.{keeps_on}
use Rattle.path_search.proofs.Needed.{needs_next, needs_ends, needs_done, told_as}
use Rattle.view_tree.proofs.under.trace_along.Goals as goal

pub returns-in-Err-clause-known : goal.returns-in-Err-clause-known
returns-in-Err-clause-known c facts path named r memo takes =
    let h = c.loop-part.invariant facts path named r memo takes in
    let low : c.loop-part.part-index < length c.args.parts.now = omega arith in
    let d : Bor (List ℕ) = record { ref_ptr = (0, 0); now = [] } in
    let part : List ℕ = (get_or c.args.parts.now c.loop-part.part-index d).now in
    let rest : List (List ℕ) = map (λ (p : Bor (List ℕ)). p.now) (drop (c.loop-part.part-index + 1) c.args.parts.now) in
    let whole : Result Place Answer = along facts (map (λ (p : Bor (List ℕ)). p.now) c.args.parts.now) c.args.start in
    let left : TakesFrom facts path (part ∷ rest) c.loop-part.place = subst (λ (ps : List (List ℕ)). TakesFrom facts path ps c.loop-part.place) (drop_at (λ (p : Bor (List ℕ)). p.now) c.args.parts.now c.loop-part.part-index d low) h.1.0 in
    tree_ends facts c.args.view.now path (λ (p : Place). p) (by_part facts c.loop-part.place part) (λ (p : Place). p) whole c.in-Err.stop
    (λ a e. along_ends (λ (p : Bor (List ℕ)). p.now) facts c.args.parts.now c.loop-part.part-index d c.loop-part.place a whole low e h.0) (c.in-Err.ensures.known facts path rest named r h.1.1.0 left)

pub loop-part-preserved : goal.loop-part-preserved
loop-part-preserved c facts path named r memo takes =
    let h = c.loop-part.invariant facts path named r memo takes in
    let low : c.loop-part.part-index < length c.args.parts.now = omega arith in
    let d : Bor (List ℕ) = record { ref_ptr = (0, 0); now = [] } in
    let part : List ℕ = (get_or c.args.parts.now c.loop-part.part-index d).now in
    let rest : List (List ℕ) = map (λ (p : Bor (List ℕ)). p.now) (drop (c.loop-part.part-index + 1) c.args.parts.now) in
    let whole : Result Place Answer = along facts (map (λ (p : Bor (List ℕ)). p.now) c.args.parts.now) c.args.start in
    let left : TakesFrom facts path (part ∷ rest) c.loop-part.place = subst (λ (ps : List (List ℕ)). TakesFrom facts path ps c.loop-part.place) (drop_at (λ (p : Bor (List ℕ)). p.now) c.args.parts.now c.loop-part.part-index d low) h.1.0 in
    let parts : List (List ℕ) = map (λ (p : Bor (List ℕ)). p.now) c.args.parts.now in
    let k = c.in-Ok.ensures.all facts path rest named r h.1.1.0 left in (
      along_next (λ (p : Bor (List ℕ)). p.now) facts c.args.parts.now c.loop-part.part-index d c.loop-part.place c.in-Ok.next whole low (c.in-Ok.ensures.known facts path rest named r h.1.1.0 left) h.0,
      (
        c.in-Ok.ensures.taken facts path rest named r h.1.1.0 left,
        (
          c.in-Ok.ensures.kept facts path rest named r h.1.1.0 left,
          (
            keeps_on facts c.loop-part.memo c.trace_part.new.memo parts (part ∷ rest) rest c.args.start c.loop-part.place c.in-Ok.next k.0
                (subst (λ (ps : List (List ℕ)). KeepsFrom facts c.loop-part.memo parts c.args.start ps c.loop-part.place) (drop_at (λ (p : Bor (List ℕ)). p.now) c.args.parts.now c.loop-part.part-index d low) h.1.1.1.0) k.1,
            λ n. h.1.1.1.1 (needs_next (λ (p : Bor (List ℕ)). p.now) facts of_any c.args.parts.now c.loop-part.part-index d c.loop-part.place c.in-Ok.next low (c.in-Ok.ensures.needs facts named r) (c.in-Ok.ensures.known facts path rest named r h.1.1.0 left) n),
          ),
        ),
      ),
    )

pub returns-clause-known : goal.returns-clause-known
returns-clause-known c facts path named r memo takes =
    let end : c.loop-part.part-index ≡ length c.args.parts.now = omega arith in
    along_done (λ (p : Bor (List ℕ)). p.now) facts c.args.parts.now c.loop-part.part-index c.loop-part.place (along facts (map (λ (p : Bor (List ℕ)). p.now) c.args.parts.now) c.args.start) end (c.loop-part.invariant facts path named r memo takes).0

pub returns-clause-kept : goal.returns-clause-kept
returns-clause-kept c facts path named r memo takes = (c.loop-part.invariant facts path named r memo takes).1.1.0

pub loop-part-init : goal.loop-part-init
loop-part-init c facts path named r memo takes = (refl, (takes, (memo, (λ s m. inr m, λ n. n))))

pub returns-clause-all : goal.returns-clause-all
returns-clause-all c facts path named r memo takes =
    let end : c.loop-part.part-index ≡ length c.args.parts.now = omega arith in
    let parts : List (List ℕ) = map (λ (p : Bor (List ℕ)). p.now) c.args.parts.now in
    let none : drop c.loop-part.part-index c.args.parts.now ≡ [] = ap (λ n. drop n c.args.parts.now) end ∙ drop-all c.args.parts.now in
    subst (λ (ps : List (Bor (List ℕ))). KeepsFrom facts c.loop-part.memo parts c.args.start (map (λ (p : Bor (List ℕ)). p.now) ps) c.loop-part.place) none
    (c.loop-part.invariant facts path named r memo takes).1.1.1.0

pub returns-in-Err-clause-needs : goal.returns-in-Err-clause-needs
returns-in-Err-clause-needs c facts path named r memo takes =
    let h = c.loop-part.invariant facts path named r memo takes in
    let low : c.loop-part.part-index < length c.args.parts.now = omega arith in
    let d : Bor (List ℕ) = record { ref_ptr = (0, 0); now = [] } in
    let part : List ℕ = (get_or c.args.parts.now c.loop-part.part-index d).now in
    let rest : List (List ℕ) = map (λ (p : Bor (List ℕ)). p.now) (drop (c.loop-part.part-index + 1) c.args.parts.now) in
    let left : TakesFrom facts path (part ∷ rest) c.loop-part.place = subst (λ (ps : List (List ℕ)). TakesFrom facts path ps c.loop-part.place) (drop_at (λ (p : Bor (List ℕ)). p.now) c.args.parts.now c.loop-part.part-index d low) h.1.0 in
    told_as Place Place (PartNeeds facts of_any c.loop-part.place part) (AlongNeeds facts of_any (map (λ (p : Bor (List ℕ)). p.now) c.args.parts.now) c.args.start) c.in-Err.stop
    (λ a e n. h.1.1.1.1 (needs_ends (λ (p : Bor (List ℕ)). p.now) facts of_any c.args.parts.now c.loop-part.part-index d c.loop-part.place a low n
    (tree_err facts c.args.view.now path (λ (p : Place). p) (by_part facts c.loop-part.place part) c.in-Err.stop a (c.in-Err.ensures.known facts path rest named r h.1.1.0 left) e))) (c.in-Err.ensures.needs facts named r)

pub returns-clause-needs : goal.returns-clause-needs
returns-clause-needs c facts path named r memo takes =
    let end : c.loop-part.part-index ≡ length c.args.parts.now = omega arith in
    (c.loop-part.invariant facts path named r memo takes).1.1.1.1 (needs_done (λ (p : Bor (List ℕ)). p.now) facts of_any c.args.parts.now c.loop-part.part-index c.loop-part.place end)
