use Rattle.std.proofs.Common.{length, refl}
use Rattle.view_sweep.proofs.Stretches.{last-rising, last-all}
use Rattle.view_sweep.proofs.next.end_last.Goals as goal

pub returns : goal.returns
returns c = record {
  rising = last-rising c.args.views.now c.args.runs.now.items c.push.new.self.items c.args.from (length c.args.views.now) c.in_ok-push.ensures.items c.requires;
  all = last-all c.args.views.now c.args.runs.now.items c.push.new.self.items c.args.from (length c.args.views.now) c.in_ok-push.ensures.items c.requires refl;
}
