use Rattle.std.proofs.Common.{◌≡◌, None, take}
use Rattle.std.specs.List.{find}
use Rattle.view_rules.specs.Names.{has_other_ascii_hash}
use Rattle.rule_breaks.proofs.faults.names.other_hash.Given as goal

abbrev pub invariant-loop-e : goal.invariant-loop-e
invariant-loop-e l = find (has_other_ascii_hash l.facts) (take l.e-index l.facts.entries) ≡ None
