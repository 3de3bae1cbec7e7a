use Rattle.std.proofs.Common.{◌≡◌, true, Ok}
use Rattle.view_rules.specs.Entries.{has_root, HasKinds}
use Rattle.rule_breaks.proofs.Shown.{either-first}
use Rattle.rule_breaks.proofs.faults.entries.root_or_kind.Goals as goal

pub returns : goal.returns
returns c =
    let f = c.args.index.now.facts.now in
    either-first c.args.asked.now f (has_root f ≡ true) (HasKinds f) (Ok c.no_root-root.result) c.first.result c.either.result c.either.ensures c.no_root-root.ensures c.first.ensures
