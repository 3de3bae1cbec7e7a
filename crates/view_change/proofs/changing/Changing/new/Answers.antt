use Rattle.std.proofs.Common.{◌∙◌, [], Vec, Global, ap, sym, subst}
use Rattle.rule_index.specs.Order.{AreInOrder}
use Rattle.view_change.specs.declared.kept.KeptLeaf.{KeptLeaf}
use Rattle.view_rules.specs.Facts.{Facts}
use Rattle.view_change.specs.Kept.{IsHeld}
use Rattle.view_change.specs.Numbers.{behind, no_facts_under}
use Rattle.view_change.proofs.Underway.{begins}
use Rattle.view_change.proofs.changing.Changing.new.Goals as goal

pub returns-clause-begun : goal.returns-clause-begun
returns-clause-begun g c site image names leaves had =
    let shape = g.K.TreeKey.shape in
    let held = c.nothing.result in
    let before = c.args.before.held in
    let named = c.names-names.ensures in
    begins shape site image names leaves before c.from_vec.result.items c.new.result.0 (record { leaves = held.leaves; facts = behind c.new.result.1 held.facts; records = held.records }) _ c.new.result.1 c.no_facts.result c.no_facts-2.result c.no_facts-3.result had
    (c.from_vec.ensures.items ∙ ap (λ (ls : Vec KeptLeaf Global). ls.items) c.parts-leaves.ensures.leaves) (ap (λ v. v.0) c.new.ensures ∙ c.parts-leaves.ensures.facts)
    (subst (λ n. IsHeld shape site image n [] (record { leaves = held.leaves; facts = behind c.new.result.1 held.facts; records = held.records })) named (subst (λ v. IsHeld shape site image c.names-names.result [] (record { leaves = held.leaves; facts = behind v.1 held.facts; records = held.records })) (sym c.new.ensures) (c.nothing.ensures site image)))
    (ap (λ v. v.1) c.new.ensures ∙ ap (λ (f : Facts). no_facts_under f.names) c.parts-leaves.ensures.facts)
    (c.no_facts.ensures ∙ ap no_facts_under named) (c.no_facts-2.ensures ∙ ap no_facts_under named) (c.no_facts-3.ensures ∙ ap no_facts_under named)

pub new-requires : goal.new-requires
new-requires g c on = subst AreInOrder (sym c.parts-leaves.ensures.facts) (c.args.before.order on)
