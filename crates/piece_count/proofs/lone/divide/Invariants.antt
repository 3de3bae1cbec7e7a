use Rattle.piece_count.proofs.Splits.{IsSplitting}
use Rattle.piece_count.proofs.lone.divide.Given as goal

abbrev pub invariant-pieces : goal.invariant-pieces
invariant-pieces l = IsSplitting l.blocks l.views l.sets l.pieces l.i l.tally l.lone.items l.high
