use Rattle.std.proofs.Common.{arith, ◌+◌, length, sym}
use Rattle.apfs_model.proofs.BoolTests.{from-upto}
use Rattle.img_format.specs.Tables.{num}
use Rattle.img_format.specs.Blocks.{volume}
use Rattle.img_format.proofs.blocks.add_volume.Goals as goal

pub add_object-requires : goal.add_object-requires
unfolding num
add_object-requires c = rw c.as_slice.ensures (rw c.requires.volume (from-upto (704 + length c.args.spec.now.name) 4096 (omega (arith, c.requires.name.short))))

pub returns : goal.returns
unfolding volume
returns c = rw (sym c.as_slice.ensures) c.add_object.ensures
