use Rattle.std.proofs.Common.{arith}
use Rattle.id_lists.proofs.id_slice.do_rise.Goals as goal

pub returns : goal.returns
returns g c = λ yes k d low. c.loop-i.invariant.1 k d (omega arith)
