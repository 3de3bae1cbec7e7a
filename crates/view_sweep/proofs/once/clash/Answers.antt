use Rattle.std.proofs.Common.{length}
use Rattle.view_sweep.proofs.Onces.{nth-numbered}
use Rattle.view_sweep.proofs.once.clash.Goals as goal

pub runs_of-requires : goal.runs_of-requires
runs_of-requires c = nth-numbered (length c.args.sets.now) c.args.asked.now c.args.last c.requires.numbers c.requires.last
