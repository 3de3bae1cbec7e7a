use Rattle.std.proofs.Common.{◌≡◌, None, take}
use Rattle.std.specs.List.{find}
use Rattle.view_rules.specs.Siblings.{is_unmarked}
use Rattle.rule_breaks.proofs.faults.siblings.unmarked.Given as goal

abbrev pub invariant-loop-e : goal.invariant-loop-e
invariant-loop-e l = find (is_unmarked l.index.facts.now) (take l.e-index l.index.facts.now.entries) ≡ None
