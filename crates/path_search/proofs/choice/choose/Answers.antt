use Rattle.std.proofs.Common.{rules, ◌<◌, ◌∙◌, length, sym}
use Rattle.omap_map.proofs.Lists.{contains-in}
use Rattle.path_search.proofs.Chosen.{chosen_some}
use Rattle.path_search.proofs.choice.choose.Goals as goal

pub returns-in-Some-clause-chosen : goal.returns-in-Some-clause-chosen
returns-in-Some-clause-chosen c =
    let low : c.in-Some.number < length c.args.entries.now = search rules in
    chosen_some c.args.names c.args.name.now c.args.entries.now c.in-Some.number c.index-entries-number.result (sym c.in-Some.is ∙ c.in_ok-number.ensures.named) low c.index-entries-number.is

pub returns-in-Some-clause-one : goal.returns-in-Some-clause-one
returns-in-Some-clause-one c =
    let low : c.in-Some.number < length c.args.entries.now = search rules in
    contains-in c.args.entries.now c.index-entries-number.result c.in-Some.number low (sym c.index-entries-number.is)
