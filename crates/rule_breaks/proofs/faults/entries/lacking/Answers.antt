use Rattle.std.proofs.Common.{Ok}
use Rattle.view_rules.specs.Entries.{HasParents, HasFiles}
use Rattle.rule_breaks.proofs.Shown.{either-first}
use Rattle.rule_breaks.proofs.faults.entries.lacking.Goals as goal

pub returns : goal.returns
returns c =
    let f = c.args.index.now.facts.now in
    either-first c.args.asked.now f (HasParents f) (HasFiles f) (Ok c.in_ok-parent.parent) c.first-2.result c.either.result c.either.ensures c.in_ok-parent.ensures c.first-2.ensures
