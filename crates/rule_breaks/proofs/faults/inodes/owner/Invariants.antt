use Rattle.std.proofs.Common.{◌≡◌, None, take}
use Rattle.std.specs.List.{find}
use Rattle.view_rules.specs.Inodes.{lacks_owner}
use Rattle.rule_breaks.proofs.faults.inodes.owner.Given as goal

abbrev pub invariant-loop-a : goal.invariant-loop-a
invariant-loop-a l = find (lacks_owner l.index.facts.now) (take l.a-index l.index.facts.now.attributes) ≡ None
