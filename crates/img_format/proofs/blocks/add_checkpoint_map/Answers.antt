use Rattle.std.proofs.Common.{refl}
use Rattle.img_format.specs.Tables.{num}
use Rattle.img_format.specs.Blocks.{checkpoint_map}
use Rattle.img_format.proofs.blocks.add_checkpoint_map.Goals as goal

pub add_object-requires : goal.add_object-requires
unfolding num
add_object-requires c = refl

pub returns : goal.returns
unfolding checkpoint_map
returns c = c.add_object.ensures
