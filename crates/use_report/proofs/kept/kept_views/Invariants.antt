use Rattle.std.proofs.Common.{◌≡◌, ◌∷◌, take}
use Rattle.use_report.specs.Views.{live_kept, pasts_kept}
use Rattle.use_report.proofs.kept.kept_views.Given as goal

abbrev pub invariant-snaps : goal.invariant-snaps
invariant-snaps l = l.views.items ≡ live_kept l.volume l.cp ∷ pasts_kept l.volume 0 (take l.i l.volume.snaps)
