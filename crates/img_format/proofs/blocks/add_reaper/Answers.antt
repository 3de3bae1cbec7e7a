use Rattle.img_format.specs.Blocks.{reaper}
use Rattle.img_format.proofs.blocks.add_reaper.Goals as goal

pub returns : goal.returns
unfolding reaper
returns c = c.add_object.ensures
