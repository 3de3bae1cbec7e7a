use Rattle.std.proofs.Common.{◌≡◌, ◌+◌, length, drop, arith, sym, ap, subst}
use Rattle.std.proofs.lemmas.List.{drop_all, length-map}
use Rattle.view_change.specs.Shared.{shared_leaves}
use Rattle.view_change.specs.Kept.{leaf_of}
use Rattle.view_change.specs.Changing.{leaves_left}
use Rattle.view_change.proofs.Lookups.{Counts, counts-one, counts-other}
use Rattle.view_change.proofs.changing.Changing.count_found.Goals.{in-Some, in_default}
use Rattle.view_change.proofs.changing.Changing.count_found.Goals as goal

pub leaves-init : goal.leaves-init
leaves-init c = record { few = omega arith; order = λ is. is; all = λ is. omega arith }

pub leaves-preserved : goal.leaves-preserved
leaves-preserved c =
    let before = leaves_left c.args.self.now in
    let after = c.args.leaves.now in
    let i = c.leaves.leaf-index in
    let had = c.leaves.invariant in
    elim c.match-place_of.branch [
      | in-Some w ↦
          let place = w.in-Some.place in
          let all = length-map c.args.self.now.leaves.items leaf_of in
          let inside = w.in-Some.ensures.inside in
          let from : place + 1 ≡ c.match-place_of.from = omega (arith, w.from-is, w.saturating_add-from.ensures, all, inside, c.args.self.now.leaves.ok.0, c.args.self.now.leaves.small.0, c.args.self.now.leaves.small.1) in
          let found : c.leaves.found + 1 ≡ c.match-place_of.found = omega (arith, w.found-is, w.saturating_add-found.ensures, had.few, c.leaves-test.true) in
          subst (λ n. Counts before after n (i + 1) c.match-place_of.found) from (subst (λ n. Counts before after (place + 1) (i + 1) n) found (counts-one before after c.leaves.from i c.leaves.found place _ c.leaves-test.true w.in-Some.ensures.found had))
      | in_default w ↦
          subst (λ n. Counts before after n (i + 1) c.match-place_of.found) (sym w.from-is) (subst (λ n. Counts before after c.leaves.from (i + 1) n) (sym w.found-is) (counts-other before after c.leaves.from i c.leaves.found _ c.leaves-test.true w.in_default.ensures.none had))
    ]

pub returns : goal.returns
returns c is =
    let before = leaves_left c.args.self.now in
    let none = ap (λ ls. length (shared_leaves (drop c.leaves.from before) ls)) (drop_all c.leaves.leaf-index c.args.leaves.now c.leaves-test.false) in
    omega (arith, c.leaves.invariant.all is, none)
