use Rattle.std.proofs.Common.{arith}
use Rattle.apfs_check.proofs.ViewSteps.{past-place}
use Rattle.apfs_check.proofs.views.view_at.Goals as goal

pub returns-else-place-eq0 : goal.returns-else-place-eq0
returns-else-place-eq0 c = past-place c.args.volume.now c.args.cp.now c.args.place c.past.result (omega arith) c.past.ensures
