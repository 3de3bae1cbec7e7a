use Rattle.std.proofs.Common.{subst}
use Rattle.obj_base.specs.declared.site.Site.{Site}
use Rattle.view_sweep.specs.Found.{world}
use Rattle.view_sweep.specs.Here.{TellsHere}
use Rattle.view_sweep.specs.Swept.{IsLive, IsSwept}
use Rattle.view_sweep.specs.Named.{head_namings}
use Rattle.view_sweep.proofs.Buffers.{no-err, same-err}
use Rattle.view_sweep.proofs.Reached.{reached-as, tells-as, free-as, live-from, mapped-of}
use Rattle.view_sweep.proofs.reaching.reach_views.Goals as goal

pub returns-in-Ok : goal.returns-in-Ok
returns-in-Ok g c = record {
  clear = λ image told seen of supers.
      reached-as image seen c.args.volumes.now c.args.heads.now supers (mapped-of image seen c.args.site.now c.args.volumes.now c.args.heads.now of) c.requires.told c.in-Ok.reached.used.items
      (subst (λ (s : Site). IsSwept (world c.args.volumes.now s image) c.args.heads.now 0 c.in-Ok.reached.used.items) of.site_is (c.in-Ok.ensures.clear image told));
  present = λ image told seen of supers live. tt;
  exact = λ image told seen of supers plain once. tt;
  reads = c.in-Ok.ensures.reads;
  cause = λ e. absurd (no-err _ _ e);
  kept = c.sweep.ensures.kept;
}

pub returns-in-Err : goal.returns-in-Err
returns-in-Err g c = record {
  clear = λ image told seen of supers. tt;
  present = λ image told seen of supers live.
      tells-as image seen c.args.volumes.now c.args.heads.now supers (mapped-of image seen c.args.site.now c.args.volumes.now c.args.heads.now of) (live-from image seen (head_namings supers c.args.heads.now) live) c.in-Err.stop
      (subst (λ (s : Site). TellsHere (world c.args.volumes.now s image) (IsLive (world c.args.volumes.now s image) c.args.heads.now) c.in-Err.stop) of.site_is (c.in-Err.ensures.present image told));
  exact = λ image told seen of supers plain once.
      free-as image seen c.args.volumes.now c.args.heads.now supers (mapped-of image seen c.args.site.now c.args.volumes.now c.args.heads.now of) plain once c.in-Err.stop
      (subst (λ (s : Site). TellsHere (world c.args.volumes.now s image) (IsLive (world c.args.volumes.now s image) c.args.heads.now) c.in-Err.stop) of.site_is (c.in-Err.ensures.present image told));
  reads = tt;
  cause = λ e. c.in-Err.ensures.cause (same-err c.in-Err.stop _ e);
  kept = c.sweep.ensures.kept;
}
