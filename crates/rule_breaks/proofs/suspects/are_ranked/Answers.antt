use Rattle.std.proofs.Common.{arith}
use Rattle.std.proofs.lemmas.List.Sorted.{IsNonDecreasingBy-from_all_adjacent}
use Rattle.rule_breaks.specs.Suspects.{entry_rank}
use Rattle.rule_breaks.proofs.suspects.are_ranked.Goals as goal

pub returns : goal.returns
returns c = λ _. IsNonDecreasingBy-from_all_adjacent entry_rank c.args.entries.now (λ k d low. c.loop-i.invariant.1 k d (omega arith))
