use Rattle.fresh_law.proofs.Fresh.{fresh-says}
use Rattle.fresh_law.proofs.blocks_say.Goals as goal

pub returns : goal.returns
returns c = fresh-says
