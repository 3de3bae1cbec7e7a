use Rattle.std.proofs.Common.{None, List, get_or, ap, ◌∙◌}
use Rattle.parent_chain.specs.declared.ways.Way.{Way}
use Rattle.parent_chain.specs.Ways.{met_at}
use Rattle.parent_chain.proofs.WayLooks.{none-met-there, met-here}
use Rattle.parent_chain.proofs.ways.Ways.climb_of.Goals as goal

abbrev nothing : Way
nothing = record { id = 0; parent = 0; climb = None }

pub returns-in_default : goal.returns-in_default
returns-in_default c = none-met-there c.self.inside.list c.args.id c.in_default.ensures ∙ ap (λ (ways : List Way). met_at ways c.args.id) c.self.view_is

pub returns : goal.returns
returns c =
    ap (λ (ways : List Way). (get_or ways c.in-Some.at nothing).climb) c.as_slice.ensures
    ∙ (met-here c.self.inside.list c.args.id c.in-Some.at nothing c.in-Some.ensures ∙ ap (λ (ways : List Way). met_at ways c.args.id) c.self.view_is)
