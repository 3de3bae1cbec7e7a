use Rattle.std.proofs.Common.{take}
use Rattle.rule_index.specs.Keys.{CountsKeys, linked_sibling}
use Rattle.rule_breaks.proofs.fellows.linked_keys.Given as goal

abbrev pub invariant-loop-e : goal.invariant-loop-e
invariant-loop-e l = CountsKeys (linked_sibling l.facts) (take l.e-index l.facts.entries) l.linked.items
