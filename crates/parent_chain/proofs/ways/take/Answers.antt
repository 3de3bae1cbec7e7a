use Rattle.std.proofs.Common.{◌≡◌, ◌+◌, List, set, get_or, false, Some, None, ap, sym, ◌∙◌}
use Rattle.std.specs.Prelude.{is_some}
use Rattle.parent_chain.specs.declared.ways.Way.{Way}
use Rattle.parent_chain.specs.Ways.{left_at, met_at, left_count}
use Rattle.parent_chain.proofs.WayLooks.{none-left, gone-here, parent-here, id-here, no-climb, met_now, left-set, met-set, count-set}
use Rattle.parent_chain.proofs.ways.take.Goals as goal

abbrev nothing : Way
nothing = record { id = 0; parent = 0; climb = None }

pub returns-in_default-clause-value : goal.returns-in_default-clause-value
returns-in_default-clause-value c = none-left c.args.list.now c.args.id c.in_default.ensures

pub returns-then-is_some-clause-value : goal.returns-then-is_some-clause-value
returns-then-is_some-clause-value c =
    gone-here c.args.list.now c.args.id c.in-Some.at nothing c.in-Some.ensures (ap (λ (ways : List Way). is_some (get_or ways c.in-Some.at nothing).climb) (sym c.as_slice.ensures) ∙ (sym c.is_some.ensures ∙ c.if-is_some.true))

pub set-requires : goal.set-requires
set-requires c = id-here c.args.list.now c.args.id c.in-Some.at nothing c.in-Some.ensures ∙ ap (λ (ways : List Way). Some (get_or ways c.in-Some.at nothing).id) (sym c.as_slice.ensures)

left-before : (c : goal.After-set) → is_some (get_or c.args.list.now c.in-Some.at nothing).climb ≡ false
left-before c = ap (λ (ways : List Way). is_some (get_or ways c.in-Some.at nothing).climb) (sym c.as_slice.ensures) ∙ (sym c.is_some.ensures ∙ c.if-is_some.false)

met-now : (c : goal.After-set) → c.set.new.self ≡ set c.args.list.now c.in-Some.at (met_now (get_or c.args.list.now c.in-Some.at nothing) c.args.climb)
met-now c = c.set.ensures ∙ ap (λ (ways : List Way). set c.args.list.now c.in-Some.at (met_now (get_or ways c.in-Some.at nothing) c.args.climb)) c.as_slice.ensures

pub returns-clause-value : goal.returns-clause-value
returns-clause-value c =
    ap (λ (ways : List Way). Some (get_or ways c.in-Some.at nothing).parent) c.as_slice.ensures ∙ parent-here c.args.list.now c.args.id c.in-Some.at nothing c.in-Some.ensures (left-before c)

pub returns-clause-left : goal.returns-clause-left
returns-clause-left c = λ q. ap (λ (ways : List Way). left_at ways q) (met-now c) ∙ left-set c.args.list.now c.args.id c.in-Some.at c.args.climb nothing c.in-Some.ensures q

pub returns-clause-met : goal.returns-clause-met
returns-clause-met c = λ q. ap (λ (ways : List Way). met_at ways q) (met-now c) ∙ met-set c.args.list.now c.args.id c.in-Some.at c.args.climb nothing c.in-Some.ensures q

pub returns-clause-fuel : goal.returns-clause-fuel
returns-clause-fuel c =
    ap (λ (ways : List Way). left_count ways + 1) (met-now c) ∙ count-set c.args.list.now c.args.id c.in-Some.at c.args.climb nothing c.in-Some.ensures (no-climb _ (left-before c))
