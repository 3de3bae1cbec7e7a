use Rattle.std.proofs.Common.{◌≡◌, None, take}
use Rattle.std.specs.List.{find}
use Rattle.view_rules.specs.Inodes.{has_large_body}
use Rattle.rule_breaks.proofs.faults.inodes.body.Given as goal

abbrev pub invariant-loop-a : goal.invariant-loop-a
invariant-loop-a l = find (has_large_body) (take l.a-index l.facts.attributes) ≡ None
