use Rattle.std.proofs.Common.{◌+◌, ◌<◌, ℕ, slice_index_or}
use Rattle.img_plan.specs.declared.plan.Version.{Version}
use Rattle.img_plan.proofs.plan.VolPlan.rises.Given as goal

abbrev pub invariant-versions : goal.invariant-versions
invariant-versions l = (k : ℕ) (none : Version) → k + 1 < l.i → (slice_index_or l.self.versions.items k none).xid < (slice_index_or l.self.versions.items (k + 1) none).xid
