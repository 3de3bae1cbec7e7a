use Rattle.std.proofs.Common.{◌≡◌, true, Ok}
use Rattle.view_rules.specs.Entries.{HasParents, HasFiles, has_root, HasKinds}
use Rattle.rule_breaks.proofs.Shown.{two-and, rest-holds}
use Rattle.rule_breaks.proofs.faults.entries.fault.Goals as goal

pub returns : goal.returns
returns c =
    let f = c.args.index.now.facts.now in
    two-and c.args.asked.now f (HasParents f) (HasFiles f) ((has_root f ≡ true) × HasKinds f) (Ok c.in_ok-lacking.lacking) c.root_or_kind.result c.either.result c.either.ensures c.in_ok-lacking.ensures c.root_or_kind.ensures

pub returns-then-are_whole : goal.returns-then-are_whole
returns-then-are_whole c =
    let a = c.args.asked.now in
    let f = c.args.index.now.facts.now in
    let whole = c.are_whole.ensures c.if-are_whole.true in
    rest-holds a f (HasParents f) (HasFiles f) (has_root f ≡ true) (HasKinds f) c.no_root.result whole.0 whole.1.0 whole.1.1 c.no_root.ensures
