use Rattle.bit_lanes.proofs.RunLemmas.{one_set}
use Rattle.bit_lanes.proofs.ranges.set_bit.Goals as goal

pub returns : goal.returns
returns c = one_set c.args.bits.now c.args.place c.requires
