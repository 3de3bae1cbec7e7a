use Rattle.std.proofs.Common.{rules, ◌≡◌, ◌==◌, false, length, Result, Err, sym, subst, true}
use Rattle.path_search.specs.Places.{Place}
use Rattle.path_search.specs.Parts.{IsKnown, PartNeeds, of_any}
use Rattle.path_search.specs.declared.answer.Answer.{Answer}
use Rattle.path_search.proofs.Known.{part_named}
use Rattle.path_search.specs.Needs.{StepNeeds}
use Rattle.path_search.proofs.Needed.{part_none, told_as}
use Rattle.path_walk.proofs.by_memory.go_by.Goals as goal

pub returns-clause-known : goal.returns-clause-known
returns-clause-known c facts named r =
    let some : (length c.args.part.now == 0) ≡ false = search rules in
    subst (λ (w : Result Place Answer). IsKnown facts c.args.view.now (λ (p : Place). p) w (Err c.in-Err.stop)) (sym (part_named facts c.args.place c.args.part.now some)) (c.in-Err.ensures.known facts named r)

pub returns-then-is_empty-clause-needs : goal.returns-then-is_empty-clause-needs
returns-then-is_empty-clause-needs c facts named r =
    let none : (length c.args.part.now == 0) ≡ true = search rules in
    part_none facts of_any c.args.place c.args.part.now none

pub returns-in-Ok-clause-needs : goal.returns-in-Ok-clause-needs
returns-in-Ok-clause-needs c facts named r = λ h. c.in-Ok.ensures.needs facts named r

pub returns-clause-needs : goal.returns-clause-needs
returns-clause-needs c facts named r =
    told_as Place Place (StepNeeds facts of_any c.args.place c.args.part.now) (PartNeeds facts of_any c.args.place c.args.part.now) c.in-Err.stop (λ a e h. λ p. h) (c.in-Err.ensures.needs facts named r)
