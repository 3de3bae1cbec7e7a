use Rattle.std.proofs.Common.{ℕ, sym, subst}
use Rattle.path_search.specs.Places.{Place}
use Rattle.path_search.specs.Parts.{by_part, PartNeeds, of_any}
use Rattle.view_tree.specs.Parts.{IsTaken, KeepsTaken}
use Rattle.view_tree.proofs.Memos.{taken_part}
use Rattle.view_tree.proofs.Entered.{path_known, stop_known}
use Rattle.view_tree.proofs.Staying.{keeps_part}
use Rattle.path_search.proofs.Needed.{untold}
use Rattle.view_tree.proofs.under.trace_part.Goals as goal

pub returns-in-Err-clause-known : goal.returns-in-Err-clause-known
returns-in-Err-clause-known c facts path rest named r memo takes =
    path_known facts c.args.view.now path (λ (p : Place). p) (by_part facts c.args.place c.args.part.now) (λ (p : Place). p) (by_part facts c.args.place c.args.part.now) c.in-Err.stop (λ a e. e) (c.in-Err.ensures.known facts named r)

pub returns-in-Ok-keep_part-clause-kept : goal.returns-in-Ok-keep_part-clause-kept
returns-in-Ok-keep_part-clause-kept c facts path rest named r memo takes =
    let t = taken_part facts path rest c.args.place c.in-Ok.next c.args.part.now (c.in-Ok.ensures.known facts named r) takes in
    c.in-Ok-keep_part.ensures.kept facts path named r memo (subst (λ (i : ℕ). IsTaken facts path i c.args.part.now c.in-Ok.next) (sym c.id-id.ensures) t.0)

pub returns-in-Ok-keep_part-clause-taken : goal.returns-in-Ok-keep_part-clause-taken
returns-in-Ok-keep_part-clause-taken c facts path rest named r memo takes =
    (taken_part facts path rest c.args.place c.in-Ok.next c.args.part.now (c.in-Ok.ensures.known facts named r) takes).1

pub returns-in-Err-keep_part-clause-known : goal.returns-in-Err-keep_part-clause-known
returns-in-Err-keep_part-clause-known c facts path rest named r memo takes =
    let t = taken_part facts path rest c.args.place c.in-Ok.next c.args.part.now (c.in-Ok.ensures.known facts named r) takes in
    stop_known facts c.args.view.now path (λ (p : Place). p) (by_part facts c.args.place c.args.part.now) c.in-Err-keep_part.stop
    (c.in-Err-keep_part.ensures.stops facts path named r memo (subst (λ (i : ℕ). IsTaken facts path i c.args.part.now c.in-Ok.next) (sym c.id-id.ensures) t.0))

pub returns-in-Ok-keep_part-clause-all : goal.returns-in-Ok-keep_part-clause-all
returns-in-Ok-keep_part-clause-all c facts path rest named r memo takes =
    let t = taken_part facts path rest c.args.place c.in-Ok.next c.args.part.now (c.in-Ok.ensures.known facts named r) takes in
    let k = c.in-Ok-keep_part.ensures.all facts path named r memo (subst (λ (i : ℕ). IsTaken facts path i c.args.part.now c.in-Ok.next) (sym c.id-id.ensures) t.0) in (
      k.0,
      keeps_part facts c.keep_part.new.memo rest c.args.place c.in-Ok.next c.args.part.now (c.in-Ok.ensures.known facts named r)
          (subst (λ (i : ℕ). KeepsTaken facts c.keep_part.new.memo i c.args.part.now) c.id-id.ensures k.1),
    )

pub returns-in-Ok-keep_part-clause-needs : goal.returns-in-Ok-keep_part-clause-needs
returns-in-Ok-keep_part-clause-needs c facts named r = c.in-Ok.ensures.needs facts named r

pub returns-in-Err-clause-needs : goal.returns-in-Err-clause-needs
returns-in-Err-clause-needs c facts named r = c.in-Err.ensures.needs facts named r

pub returns-in-Err-keep_part-clause-needs : goal.returns-in-Err-keep_part-clause-needs
returns-in-Err-keep_part-clause-needs c facts named r = untold Place (PartNeeds facts of_any c.args.place c.args.part.now) c.in-Err-keep_part.stop c.in-Err-keep_part.ensures.unanswered
