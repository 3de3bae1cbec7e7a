use Rattle.std.proofs.Common.{Ok}
use Rattle.view_rules.specs.Names.{HasDistinctEntries, HasDistinctAttributes}
use Rattle.rule_breaks.proofs.Shown.{either-first}
use Rattle.rule_breaks.proofs.faults.names.name_twice.Goals as goal

pub returns : goal.returns
returns c =
    let f = c.args.facts.now in
    either-first c.args.asked.now f (HasDistinctEntries f) (HasDistinctAttributes f) (Ok c.in_ok-entry.entry) c.attribute_twice.result c.either.result c.either.ensures c.in_ok-entry.ensures c.attribute_twice.ensures
