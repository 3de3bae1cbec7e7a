use Rattle.std.proofs.Common.{sym}
use Rattle.file_extent.proofs.Lays.{follows_after}
use Rattle.file_extent.proofs.lay.follow.Goals as goal

pub returns-then-last-extent : goal.returns-then-last-extent
returns-then-last-extent c = follows_after c.args.extents.now c.args.extent.now c.in-Some.last.now (sym c.in-Some.ensures.value) c.if-last-extent.true
