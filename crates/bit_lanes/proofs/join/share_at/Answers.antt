use Rattle.bit_lanes.proofs.LaneLemmas.{apart_lanes}
use Rattle.bit_lanes.proofs.join.share_at.Goals as goal

pub returns : goal.returns
returns c = record { apart = λ none. apart_lanes c.args.a.now c.args.b.now c.args.at c.requires.a c.requires.b none }
