use Rattle.std.proofs.Common.{◌≡◌, None, take}
use Rattle.std.specs.List.{find}
use Rattle.view_rules.specs.Names.{has_other_name_hash}
use Rattle.tree_rules.proofs.remarks.other_name_hash.Given as goal

abbrev pub invariant-loop-e : goal.invariant-loop-e
invariant-loop-e l = find (has_other_name_hash l.facts) (take l.e-index l.facts.entries) ≡ None
