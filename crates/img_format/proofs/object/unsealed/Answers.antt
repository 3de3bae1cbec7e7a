use Rattle.std.proofs.Common.{rules}
use Rattle.img_format.specs.Steps.{fields_of}
use Rattle.img_format.proofs.Laying.{head-room, head-laid}
use Rattle.img_format.proofs.object.unsealed.Goals as goal

pub lay-requires : goal.lay-requires
lay-requires c = head-room c.add_head.new.block.items c.args.head.now (fields_of c.args.fields.now) (search rules) c.requires

pub returns : goal.returns
returns c = head-laid c.add_head.new.block.items c.lay.new.block.items c.args.head.now (fields_of c.args.fields.now) (search rules) c.in_ok-lay.ensures
