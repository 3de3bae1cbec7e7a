use Rattle.ext_ref.proofs.Sweeps.{stream-slice}
use Rattle.ext_ref.proofs.sweeping.of_stream.Goals as goal

pub returns : goal.returns
returns c = stream-slice c.args.extents.now c.args.id c.below-low.result c.up_to-high.result c.min.result c.below-low.ensures.bound c.up_to-high.ensures.bound c.min.ensures c.below-low.ensures.split c.up_to-high.ensures.split
