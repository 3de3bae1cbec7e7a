use Rattle.std.proofs.Common.{take}
use Rattle.rule_index.specs.Keys.{CountsKeys}
use Rattle.rule_index.proofs.keys.listed.Given as goal

abbrev pub invariant-loop-item : goal.invariant-loop-item
invariant-loop-item g l = CountsKeys g.B.KeyOf.key (take l.item-index l.items) l.keys.items
