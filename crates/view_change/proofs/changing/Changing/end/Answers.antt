use Rattle.std.proofs.Common.{[], List, refl, subst}
use Rattle.std.specs.Prelude.{None}
use Rattle.view_change.specs.declared.kept.KeptLeaf.{KeptLeaf}
use Rattle.view_change.specs.Changing.{HasChangedTo}
use Rattle.view_change.proofs.Underway.{none-found}
use Rattle.view_change.proofs.changing.Changing.end.Goals as goal

pub returns-else-self-clause-held : goal.returns-else-self-clause-held
returns-else-self-clause-held g c start site image leaves had =
    let shape = g.K.TreeKey.shape in
    let found = c.in_ok-pass_until.field-0 in
    let now = c.pass_until.new.self in
    subst (λ (left : List KeptLeaf). HasChangedTo shape site image leaves start left now) (none-found None found now.leaves.items refl c.in_ok-pass_until.ensures.same c.in_ok-pass_until.ensures.end)
    (c.in_ok-pass_until.ensures.held start site image leaves had)

pub returns-in_ok-settle-clause-held : goal.returns-in_ok-settle-clause-held
returns-in_ok-settle-clause-held g c start site image leaves had =
    let shape = g.K.TreeKey.shape in
    let found = c.in_ok-pass_until.field-0 in
    let now = c.pass_until.new.self in
    (c.in_ok-settle.ensures.held start site image leaves []
    (subst (λ (left : List KeptLeaf). HasChangedTo shape site image leaves start left now) (none-found None found now.leaves.items refl c.in_ok-pass_until.ensures.same c.in_ok-pass_until.ensures.end)
    (c.in_ok-pass_until.ensures.held start site image leaves had))).changed

pub returns-in_ok-settle-clause-settled : goal.returns-in_ok-settle-clause-settled
returns-in_ok-settle-clause-settled g c start site image leaves had on =
    let shape = g.K.TreeKey.shape in
    let found = c.in_ok-pass_until.field-0 in
    let now = c.pass_until.new.self in
    c.in_ok-settle.ensures.held start site image leaves []
    (subst (λ (left : List KeptLeaf). HasChangedTo shape site image leaves start left now) (none-found None found now.leaves.items refl c.in_ok-pass_until.ensures.same c.in_ok-pass_until.ensures.end)
    (c.in_ok-pass_until.ensures.held start site image leaves had))
