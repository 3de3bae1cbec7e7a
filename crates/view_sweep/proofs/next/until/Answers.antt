use Rattle.std.proofs.Common.{◌<◌, List, IfSome, refl, subst, arith}
use Rattle.omap_map.specs.declared.records.OmapRecord.{OmapRecord}
use Rattle.view_sweep.specs.Next.{AreNoneAfter, IsNext}
use Rattle.view_sweep.proofs.Stretches.{IsKnownNext, like-stretch, like-first, like-both}
use Rattle.view_sweep.proofs.next.until.Goals as goal

pub loop-high-init : goal.loop-high-init
loop-high-init c =
    let w = c.args.wanted.now in
    let next = c.next_xid-next.result in
    let known : IsKnownNext c.args.volumes.now w next = (
      (λ n. subst (λ (rs : List OmapRecord). AreNoneAfter rs w.oid w.view.xid) c.records_of-records.ensures.all (c.next_xid-next.ensures.none n)),
      subst (λ (rs : List OmapRecord). IfSome next (IsNext rs w.oid w.view.xid)) c.records_of-records.ensures.all c.next_xid-next.ensures.some,
    ) in
    record {
      more = c.end_from-high.ensures.more;
      inside = c.end_from-high.ensures.inside;
      like = like-first c.args.volumes.now c.args.site.now c.args.views.now w c.args.mapping.now c.args.low c.end_from-high.result next c.requires.first c.requires.found known c.end_from-high.ensures.stretch c.end_from-high.ensures.before;
    }

pub loop-high-preserved : goal.loop-high-preserved
loop-high-preserved c =
    let w = c.args.wanted.now in
    let next = c.next_xid-next.result in
    let high = c.end_from-high-in-loop-high.result in
    let known : IsKnownNext c.args.volumes.now w next = (
      (λ n. subst (λ (rs : List OmapRecord). AreNoneAfter rs w.oid w.view.xid) c.records_of-records.ensures.all (c.next_xid-next.ensures.none n)),
      subst (λ (rs : List OmapRecord). IfSome next (IsNext rs w.oid w.view.xid)) c.records_of-records.ensures.all c.next_xid-next.ensures.some,
    ) in
    let more : c.args.low < c.loop-high.high = c.loop-high.invariant.more in
    let later : c.loop-high.high < high = c.end_from-high-in-loop-high.ensures.more in
    record {
      more = omega arith;
      inside = c.end_from-high-in-loop-high.ensures.inside;
      like = like-both c.args.volumes.now c.args.site.now c.args.views.now w c.args.mapping.now c.args.low c.loop-high.high high c.loop-high.invariant.like
          (like-stretch c.args.volumes.now c.args.site.now c.args.views.now w c.args.mapping.now c.loop-high.high high next c.requires.found known (c.if-is_as_one.ensures.one refl) (c.if-is_as_one.ensures.since refl) c.end_from-high-in-loop-high.ensures.stretch c.end_from-high-in-loop-high.ensures.before);
    }
