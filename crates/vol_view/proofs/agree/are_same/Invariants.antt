use Rattle.std.proofs.Common.{◌≡◌, ℕ, ◌<◌, map, get_or}
use Rattle.vol_view.specs.declared.records.SnapshotRecord.{SnapshotRecord}
use Rattle.vol_view.proofs.agree.are_same.Given as goal

abbrev pub invariant-places : goal.invariant-places
invariant-places l = (k : ℕ) → k < l.i → get_or (map (λ (s : ℕ × ℕ). s.0) l.known) k 0 ≡ get_or (map (λ (s : SnapshotRecord). s.xid) l.snapshots) k 0
