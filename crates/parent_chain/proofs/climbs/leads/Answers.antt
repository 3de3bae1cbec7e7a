use Rattle.std.proofs.Common.{sym, ◌∙◌, inl, inr, arith}
use Rattle.std.proofs.lemmas.Bool.{ltb-true}
use Rattle.view_rules.specs.Directories.{Leads, low}
use Rattle.parent_chain.specs.Ways.{left_at, met_at}
use Rattle.parent_chain.proofs.Climbing.{climb-leads, top-lost}
use Rattle.parent_chain.proofs.climbs.leads.Goals as goal

pub returns-then-top-lt16-clause-yes : goal.returns-then-top-lt16-clause-yes
returns-then-top-lt16-clause-yes c = λ yes parent had.
    climb-leads parent (left_at c.climb-top.new.ways) (met_at c.climb-top.new.ways) c.args.number c.args.start c.climb-top.result (c.climb-top.ensures.climbing parent had) (low c.climb-top.result (ltb-true c.climb-top.result 16 yes))

pub returns-else-top-lt16-clause-no : goal.returns-else-top-lt16-clause-no
returns-else-top-lt16-clause-no c = λ fails parent had.
    elim c.climb-top.ensures.top as (λ _. Leads parent c.args.start → ⊥) [
      | inl l ↦ absurd (omega arith)
      | inr none ↦ top-lost parent (left_at c.climb-top.new.ways) (met_at c.climb-top.new.ways) c.args.number c.args.start c.climb-top.result (c.climb-top.ensures.climbing parent had) c.if-top-lt16.false none (sym c.is_earlier.ensures ∙ fails)
    ]
