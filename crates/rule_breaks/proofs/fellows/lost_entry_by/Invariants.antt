use Rattle.std.proofs.Common.{◌≡◌, None, take}
use Rattle.std.specs.List.{find}
use Rattle.view_rules.specs.Siblings.{is_entry_lost}
use Rattle.rule_breaks.proofs.fellows.lost_entry_by.Given as goal

abbrev pub invariant-loop-e : goal.invariant-loop-e
invariant-loop-e l = find (is_entry_lost l.facts) (take l.e-index l.facts.entries) ≡ None
