use Rattle.std.proofs.Common.{◌≡◌, sym, subst}
use Rattle.std.specs.Prelude.{OnOk, IfOk}
use Rattle.view_rules.specs.Facts.{Facts}
use Rattle.view_rules.specs.Rules.{HasFactRules}
use Rattle.view_facts.specs.Kept.{IsGatheredView}
use Rattle.tree_rules.specs.declared.tallies.ViewTally.{ViewTally}
use Rattle.tree_rules.specs.Tallies.{notes_of}
use Rattle.tree_rules.proofs.gathered.tally_of.Goals as goal

pub returns-clause-rules : goal.returns-clause-rules
returns-clause-rules c =
    let asked = c.args.asked.now in
    subst (λ (facts : Facts). OnOk c.tally_by.result (HasFactRules asked.profile asked.site.now asked.ranges.now facts)) c.in_ok-index.ensures c.tally_by.ensures.rules

pub returns-clause-noted : goal.returns-clause-noted
returns-clause-noted c =
    let asked = c.args.asked.now in
    subst (λ (facts : Facts). IfOk c.tally_by.result (λ (tally : ViewTally). tally.notes.items ≡ notes_of asked.profile asked.view.now facts)) c.in_ok-index.ensures c.tally_by.ensures.noted

pub returns-clause-clear : goal.returns-clause-clear
returns-clause-clear c image volume gathered =
    let asked = c.args.asked.now in
    c.tally_by.ensures.clear image volume (subst (λ (facts : Facts). IsGatheredView image asked.site.now volume asked.view.now (record { facts = facts; records = c.args.records })) (sym c.in_ok-index.ensures) gathered)

pub returns-clause-value : goal.returns-clause-value
returns-clause-value c image volume gathered =
    let asked = c.args.asked.now in
    c.tally_by.ensures.value image volume (subst (λ (facts : Facts). IsGatheredView image asked.site.now volume asked.view.now (record { facts = facts; records = c.args.records })) (sym c.in_ok-index.ensures) gathered)

pub returns-clause-present : goal.returns-clause-present
returns-clause-present c image volume gathered =
    let asked = c.args.asked.now in
    c.tally_by.ensures.present image volume (subst (λ (facts : Facts). IsGatheredView image asked.site.now volume asked.view.now (record { facts = facts; records = c.args.records })) (sym c.in_ok-index.ensures) gathered)
