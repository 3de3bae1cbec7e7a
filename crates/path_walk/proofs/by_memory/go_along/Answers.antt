use Rattle.std.proofs.Common.{◌≡◌, ◌<◌, ℕ, List, Result, map, length, arith, Bor, get_or, []}
use Rattle.path_search.specs.Places.{Place}
use Rattle.path_search.specs.Parts.{along, PartNeeds, AlongNeeds, by_part, of_any}
use Rattle.path_search.specs.declared.answer.Answer.{Answer}
use Rattle.path_search.proofs.Known.{known_ends}
use Rattle.path_search.proofs.Listed.{along_next, along_ends}
use Rattle.path_search.proofs.Needed.{needs_next, needs_ends, needs_done, told_as, known_err}
use Rattle.path_walk.proofs.by_memory.go_along.Goals as goal

pub returns-in-Err-clause-known : goal.returns-in-Err-clause-known
returns-in-Err-clause-known c facts named r =
    let low : c.loop-part.part-index < length c.args.parts.now = omega arith in
    let whole : Result Place Answer = along facts (map (λ (part : Bor (List ℕ)). part.now) c.args.parts.now) c.args.start in
    known_ends facts c.args.view.now (λ (p : Place). p) _ (λ (p : Place). p) whole c.in-Err.stop
    (λ a e. along_ends (λ (part : Bor (List ℕ)). part.now) facts c.args.parts.now c.loop-part.part-index _ c.loop-part.place a whole low e (c.loop-part.invariant.goes facts named r)) (c.in-Err.ensures.known facts named r)

pub loop-part-preserved : goal.loop-part-preserved
loop-part-preserved c = record {
  goes = λ facts named r.
      let low : c.loop-part.part-index < length c.args.parts.now = omega arith in
      let whole : Result Place Answer = along facts (map (λ (part : Bor (List ℕ)). part.now) c.args.parts.now) c.args.start in
      along_next (λ (part : Bor (List ℕ)). part.now) facts c.args.parts.now c.loop-part.part-index _ c.loop-part.place c.in-Ok.next whole low (c.in-Ok.ensures.known facts named r) (c.loop-part.invariant.goes facts named r);
  needs = λ facts named r rest.
      let low : c.loop-part.part-index < length c.args.parts.now = omega arith in
      c.loop-part.invariant.needs facts named r
      (needs_next (λ (part : Bor (List ℕ)). part.now) facts of_any c.args.parts.now c.loop-part.part-index _ c.loop-part.place c.in-Ok.next low (c.in-Ok.ensures.needs facts named r) (c.in-Ok.ensures.known facts named r) rest);
}

pub returns-in-Err-clause-needs : goal.returns-in-Err-clause-needs
returns-in-Err-clause-needs c facts named r =
    let low : c.loop-part.part-index < length c.args.parts.now = omega arith in
    let d : Bor (List ℕ) = record { ref_ptr = (0, 0); now = [] } in
    let part : List ℕ = (get_or c.args.parts.now c.loop-part.part-index d).now in
    told_as Place Place (PartNeeds facts of_any c.loop-part.place part) (AlongNeeds facts of_any (map (λ (p : Bor (List ℕ)). p.now) c.args.parts.now) c.args.start) c.in-Err.stop
    (λ a e h. c.loop-part.invariant.needs facts named r
    (needs_ends (λ (p : Bor (List ℕ)). p.now) facts of_any c.args.parts.now c.loop-part.part-index d c.loop-part.place a low h
    (known_err facts c.args.view.now (λ (p : Place). p) (by_part facts c.loop-part.place part) c.in-Err.stop a (c.in-Err.ensures.known facts named r) e))) (c.in-Err.ensures.needs facts named r)

pub returns-clause-needs : goal.returns-clause-needs
returns-clause-needs c facts named r =
    let end : c.loop-part.part-index ≡ length c.args.parts.now = omega arith in
    c.loop-part.invariant.needs facts named r (needs_done (λ (p : Bor (List ℕ)). p.now) facts of_any c.args.parts.now c.loop-part.part-index c.loop-part.place end)
