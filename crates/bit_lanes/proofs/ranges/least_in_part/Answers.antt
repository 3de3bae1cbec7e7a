use Rattle.std.proofs.Common.{length}
use Rattle.bit_lanes.proofs.RunLemmas.{searched_zeros, zeros_at}
use Rattle.bit_lanes.proofs.ranges.least_in_part.Goals as goal

pub returns : goal.returns
returns c =
    searched_zeros c.args.part.now _ c.first_difference.result (zeros_at (length c.args.part.now) c.requires) c.first_difference.ensures.value c.first_difference.ensures.equal
