use Rattle.std.proofs.Common.{ap, ◌∙◌}
use Rattle.std.specs.List.{list_any}
use Rattle.view_rules.specs.Siblings.{is_map_of}
use Rattle.plain_change.proofs.Among.{map-run}
use Rattle.plain_change.proofs.found.has_map.Goals as goal

pub returns : goal.returns
returns c =
    let leads = is_map_of c.args.file c.args.sibling in
    c.is_mapped_by.ensures ∙ (ap (list_any leads) c.maps_of.ensures ∙ map-run c.args.after.now.index.now.facts.now c.args.file c.args.sibling)
