use Rattle.std.proofs.Common.{sym}
use Rattle.apfs_model.specs.Blocks.{is_inside}
use Rattle.apfs_model.proofs.BoolTests.{left-or, from-equal}
use Rattle.fs_record.specs.StreamExtents.{extent_blocks, is_hole, is_extent_placed}
use Rattle.use_report.proofs.holding.add_extent.Goals as goal

pub returns-then-extent-eq0-clause-placed : goal.returns-then-extent-eq0-clause-placed
unfolding is_extent_placed
returns-then-extent-eq0-clause-placed c =
    let site = c.args.site.now in
    let e = c.args.extent in
    sym (left-or (is_hole e) (is_inside e.block (extent_blocks site.block_size e) site.blocks) (from-equal e.block 0 c.if-extent-eq0.true))
