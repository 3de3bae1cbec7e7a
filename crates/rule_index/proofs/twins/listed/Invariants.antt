use Rattle.std.proofs.Common.{◌≡◌, take}
use Rattle.std.specs.Prelude.{filter}
use Rattle.view_rules.specs.Siblings.{is_twin}
use Rattle.rule_index.proofs.twins.listed.Given as goal

abbrev pub invariant-loop-e : goal.invariant-loop-e
invariant-loop-e l = l.twins.items ≡ filter is_twin (take l.e-index l.entries)
