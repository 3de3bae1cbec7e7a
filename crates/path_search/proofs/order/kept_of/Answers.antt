use Rattle.std.proofs.Common.{◌≡◌, ◌<◌, ◌∙◌, ◌++◌, ◌∷◌, [], List, length, take, refl, ap, arith}
use Rattle.path_search.specs.Parts.{targets_with}
use Rattle.path_search.specs.declared.target.Target.{Target}
use Rattle.path_search.proofs.Listed.{with_more, with_all}
use Rattle.path_search.proofs.order.kept_of.Goals as goal

pub loop-number-preserved : goal.loop-number-preserved
loop-number-preserved c =
    let low : c.loop-number.number < length c.args.entries.now = omega arith in
    c.in_ok-push.ensures.items
    ∙ (ap (λ (l : List Target). l ++ c.in_ok-target.target ∷ []) c.loop-number.invariant
    ∙ (ap (λ (t : Target). targets_with (take c.loop-number.number c.args.entries.now) (take c.loop-number.number c.args.kinds.now) ++ t ∷ []) c.in_ok-target.ensures
    ∙ with_more c.args.entries.now c.args.kinds.now c.loop-number.number c.index-entries-number.result _ _ low c.requires c.index-entries-number.is refl))

pub returns : goal.returns
returns c =
    let end : c.loop-number.number ≡ length c.args.entries.now = omega arith in
    c.loop-number.invariant ∙ with_all c.args.entries.now c.args.kinds.now c.loop-number.number end c.requires
