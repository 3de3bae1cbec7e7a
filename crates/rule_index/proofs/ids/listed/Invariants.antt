use Rattle.std.proofs.Common.{take}
use Rattle.rule_index.specs.Ids.{CountsIds}
use Rattle.rule_index.proofs.ids.listed.Given as goal

abbrev pub invariant-loop-item : goal.invariant-loop-item
invariant-loop-item g l = CountsIds g.B.IdOf.id (take l.item-index l.items) l.ids.items
