use Rattle.img_format.specs.Blocks.{pool_bitmap}
use Rattle.img_format.proofs.blocks.add_pool_bitmap.Goals as goal

pub returns : goal.returns
unfolding pool_bitmap
returns c = c.add_plain.ensures
