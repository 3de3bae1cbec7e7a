use Rattle.std.proofs.Common.{◌≡◌, None, take}
use Rattle.std.specs.List.{find}
use Rattle.view_rules.specs.Names.{has_other_name_hash}
use Rattle.plain_change.proofs.entries.have_name_hashes.Given as goal

abbrev pub invariant-loop-e : goal.invariant-loop-e
invariant-loop-e l = find (has_other_name_hash l.facts) (take l.e-index l.come.entries) ≡ None
