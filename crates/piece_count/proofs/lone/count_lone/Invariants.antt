use Rattle.piece_count.proofs.Splits.{IsLaid}
use Rattle.piece_count.proofs.lone.count_lone.Given as goal

abbrev pub invariant-sets : goal.invariant-sets
invariant-sets l = IsLaid l.blocks l.views l.sets l.lone l.i l.tally
