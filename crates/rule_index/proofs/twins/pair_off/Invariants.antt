use Rattle.rule_index.specs.Twins.{AreFellows}
use Rattle.rule_index.proofs.twins.pair_off.Given as goal

abbrev pub invariant-loop-i : goal.invariant-loop-i
invariant-loop-i l = AreFellows l.twins l.links l.pairs l.i
