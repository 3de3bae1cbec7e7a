use Rattle.img_format.specs.Blocks.{chunk_bitmap}
use Rattle.img_format.proofs.blocks.add_chunk_bitmap.Goals as goal

pub returns : goal.returns
unfolding chunk_bitmap
returns c = c.add_plain.ensures
