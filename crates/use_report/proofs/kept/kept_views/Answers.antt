use Rattle.std.proofs.Common.{arith, length, ap}
use Rattle.vol_view.specs.Volumes.{Loaded}
use Rattle.use_report.proofs.Pasts.{kept-more, kept-all}
use Rattle.use_report.proofs.kept.kept_views.Goals as goal

pub snaps-preserved : goal.snaps-preserved
snaps-preserved c = kept-more c.args.volume.now c.args.cp.now c.snaps.i c.snaps.views.items c.push-in-snaps.new.self.items c.past_kept.result c.snaps.invariant c.in_ok-push-2.ensures.items c.past_kept.ensures

pub returns-clause-all : goal.returns-clause-all
returns-clause-all c = kept-all c.args.volume.now c.args.cp.now c.snaps.i c.snaps.views.items (omega (arith, ap (λ (v : Loaded). length v.snaps) c.volume.view_is)) c.snaps.invariant
