use Rattle.std.proofs.Common.{◌≡◌, [], ◌∷◌, ◌++◌, List, map, refl, sym, subst}
use Rattle.view_change.specs.declared.kept.KeptLeaf.{KeptLeaf}
use Rattle.view_change.specs.declared.leaf.Leaf.{Leaf}
use Rattle.view_change.specs.Shared.{ComesNext}
use Rattle.view_change.specs.Kept.{leaf_of}
use Rattle.view_change.specs.Changing.{facts_before, leaves_left, held_after, IsUnderway, HasSettledTo}
use Rattle.view_change.proofs.Passes.{at-some}
use Rattle.view_change.proofs.Underway.{found-one, found-first, found-ends, stays-too}
use Rattle.view_change.proofs.changing.Changing.stay.Goals as goal

pub returns-clause-leaf_ends : goal.returns-clause-leaf_ends
returns-clause-leaf_ends g c start site image leaves had =
    let shape = g.K.TreeKey.shape in
    let now = c.pass_until.new.self in
    let found = c.in_ok-kept.field-0 in
    let kept = c.in-Some.kept in
    found-ends shape site image (facts_before start) leaves c.args.leaf kept now.leaves.items now.stock.0 (held_after now) now.follows now.stock.1 now.passed now.gone now.come
    (found-one c.args.leaf found kept c.in-Some.is c.in_ok-kept.ensures.same)
    (found-first shape site image (facts_before start) leaves found kept now.leaves.items now.stock.0 (held_after now) now.follows now.stock.1 now.passed now.gone now.come c.in-Some.is (c.in_ok-kept.ensures.held start site image leaves had))

pub returns-clause-held : goal.returns-clause-held
returns-clause-held g c start site image leaves had =
    let shape = g.K.TreeKey.shape in
    let passed = c.pass_until.new.self in
    let now = c.settle.new.self in
    let found = c.in_ok-kept.field-0 in
    let kept = c.in-Some.kept in
    let first = found-first shape site image (facts_before start) leaves found kept passed.leaves.items passed.stock.0 (held_after passed) passed.follows passed.stock.1 passed.passed passed.gone passed.come c.in-Some.is (c.in_ok-kept.ensures.held start site image leaves had) in
    let settled : HasSettledTo shape site image leaves start (kept ∷ now.leaves.items) now = subst (λ (left : List KeptLeaf). HasSettledTo shape site image leaves start (kept ∷ left) now) (λ i. (sym c.settle.ensures.same.0 i).items) (c.in_ok-settle.ensures.held start site image leaves (kept ∷ passed.leaves.items) first) in
    let new = record now { stock = c.keep.new.self; after = c.put.new.self } in
    subst (λ (leaf : Leaf). IsUnderway shape site image (facts_before start) (leaves ++ leaf ∷ []) now.leaves.items c.keep.new.self.0 (held_after new) now.follows c.keep.new.self.1 now.passed now.gone now.come)
    (sym (found-one c.args.leaf found kept c.in-Some.is c.in_ok-kept.ensures.same))
    (stays-too shape site image start now new leaves kept now.leaves.items refl c.keep.ensures.left c.keep.ensures.taken refl refl refl c.put.ensures.facts c.in_ok-put.ensures.leaves c.in_ok-put.ensures.records settled)

pub returns-clause-next : goal.returns-clause-next
returns-clause-next g c =
    let before = leaves_left c.args.self.now in
    let found = c.in_ok-kept.field-0 in
    let kept = c.in-Some.kept in
    let rest = leaves_left c.pass_until.new.self in
    let next : ComesNext kept.leaf before rest = at-some found kept (λ (one : KeptLeaf). ComesNext one.leaf before rest) c.in-Some.is c.in_ok-kept.ensures.next in
    let left : leaves_left c.settle.new.self ≡ rest = λ i. map leaf_of (c.settle.ensures.same.0 i).items in
    subst (λ (ls : List Leaf). ComesNext c.args.leaf before ls) (sym left) (subst (λ (leaf : Leaf). ComesNext leaf before rest) (sym (found-one c.args.leaf found kept c.in-Some.is c.in_ok-kept.ensures.same)) next)
