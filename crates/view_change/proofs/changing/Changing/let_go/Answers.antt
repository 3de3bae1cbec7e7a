use Rattle.std.proofs.Common.{◌∙◌, [], ap, sym, subst}
use Rattle.view_change.specs.Kept.{IsHeld}
use Rattle.view_change.specs.Numbers.{behind, no_facts_under}
use Rattle.view_change.specs.Changing.{facts_before, held_after}
use Rattle.view_change.proofs.Underway.{lets-go}
use Rattle.view_change.proofs.changing.Changing.let_go.Goals as goal

pub returns : goal.returns
returns g c = record {
  held = λ start site image had.
      let shape = g.K.TreeKey.shape in
      let old = c.args.self.now in
      let held = c.nothing.result in
      let named = c.names-names.ensures in
      rw (c.replace.ensures.after, c.replace-2.ensures.after, c.replace-3.ensures.after) (lets-go shape site image (facts_before start) old.leaves.items c.new.result.items old.stock.0 c.new-none.result.0 (held_after old) (record { leaves = held.leaves; facts = behind c.new-none.result.1 held.facts; records = held.records }) old.follows old.stock.1 c.new-none.result.1 old.passed old.gone old.come c.new.ensures.items
      (ap (λ v. v.0) c.new-none.ensures ∙ (c.no_facts.ensures ∙ ap no_facts_under c.names-names.ensures))
      (subst (λ n. IsHeld shape site image n [] (record { leaves = held.leaves; facts = behind c.new-none.result.1 held.facts; records = held.records })) named (subst (λ v. IsHeld shape site image c.names-names.result [] (record { leaves = held.leaves; facts = behind v.1 held.facts; records = held.records })) (sym c.new-none.ensures) (c.nothing.ensures site image))) had);
}
