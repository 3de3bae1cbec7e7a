use Rattle.std.proofs.Common.{refl}
use Rattle.img_format.specs.Tables.{num}
use Rattle.img_format.specs.Blocks.{super}
use Rattle.img_format.proofs.blocks.add_superblock.Goals as goal

pub add_object-requires : goal.add_object-requires
unfolding num
add_object-requires c = rw c.requires.container refl

pub returns : goal.returns
unfolding super
returns c = c.add_object.ensures
