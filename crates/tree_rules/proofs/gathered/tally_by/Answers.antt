use Rattle.std.proofs.Common.{refl}
use Rattle.view_rules.specs.Rules.{HasFactRules}
use Rattle.tree_rules.proofs.Checks.{facts_clear, facts_fault, facts_tally, first-there, first-clear}
use Rattle.tree_rules.proofs.gathered.tally_by.Goals as goal

pub returns-in-Some-clause-present : goal.returns-in-Some-clause-present
returns-in-Some-clause-present c image volume gathered =
    let asked = c.args.asked.now in
    let facts = c.args.index.now.facts.now in
    facts_fault asked image volume (record { facts = facts; records = c.args.records }) c.in-Some.fault gathered
    (first-there asked facts (HasFactRules asked.profile asked.site.now asked.ranges.now facts) c.in_ok-first.first c.in-Some.fault c.in_ok-first.ensures c.in-Some.is)

pub returns-clause-rules : goal.returns-clause-rules
returns-clause-rules c =
    let asked = c.args.asked.now in
    let facts = c.args.index.now.facts.now in
    first-clear asked facts (HasFactRules asked.profile asked.site.now asked.ranges.now facts) c.in_ok-first.first c.in_ok-first.ensures c.in_default.is

pub returns-clause-noted : goal.returns-clause-noted
returns-clause-noted c = c.in_ok-notes.ensures

pub returns-clause-clear : goal.returns-clause-clear
returns-clause-clear c image volume gathered =
    let asked = c.args.asked.now in
    let facts = c.args.index.now.facts.now in
    facts_clear asked.profile image asked.site.now volume asked.view.now asked.ranges.now (record { facts = facts; records = c.args.records }) gathered
    (first-clear asked facts (HasFactRules asked.profile asked.site.now asked.ranges.now facts) c.in_ok-first.first c.in_ok-first.ensures c.in_default.is)

pub returns-clause-value : goal.returns-clause-value
returns-clause-value c image volume gathered =
    let asked = c.args.asked.now in
    facts_tally asked.profile image asked.site.now volume asked.view.now (record { facts = c.args.index.now.facts.now; records = c.args.records }) (record { records = c.args.records; notes = c.in_ok-notes.notes }) gathered refl c.in_ok-notes.ensures
