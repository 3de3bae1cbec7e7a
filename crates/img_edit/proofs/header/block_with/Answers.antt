use Rattle.std.proofs.Common.{◌≡◌, ◌-◌, ◌++◌, replicate, rules}
use Rattle.img_edit.specs.Nodes.{FitsHead, header_of}
use Rattle.img_edit.proofs.Reading.{headed_read}
use Rattle.img_edit.proofs.header.block_with.Goals as goal

pub returns-clause-header : goal.returns-clause-header
returns-clause-header c =
    let head = c.args.head.now in
    let fits : FitsHead head = search rules in
    let is : c.add_zeros.new.bytes.items ≡ replicate 8 0 ++ header_of head ++ replicate (c.args.size - 32) 0 = search rules in
    headed_read head _ _ is fits
