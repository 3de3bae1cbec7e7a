use Rattle.std.proofs.Common.{refl}
use Rattle.img_format.specs.Tables.{num}
use Rattle.img_format.specs.Blocks.{chunk_info}
use Rattle.img_format.proofs.blocks.add_chunk_info.Goals as goal

pub add_object-requires : goal.add_object-requires
unfolding num
add_object-requires c = refl

pub returns : goal.returns
unfolding chunk_info
returns c = c.add_object.ensures
