use Rattle.std.proofs.Common.{◌∙◌, ◌+◌, ◌≤◌, ◌<◌, ◌++◌, ◌∷◌, [], length, map, take, refl, sym, ap, subst, arith}
use Rattle.std.specs.Prelude.{sum}
use Rattle.obj_base.specs.Stops.{raised}
use Rattle.nx_ring.specs.Checkpoint.{site_of}
use Rattle.vol_view.specs.Placed.{IsHead}
use Rattle.reach_sweep.specs.Account.{AreLoadedOf}
use Rattle.apfs_check.specs.Raised.{of_volume}
use Rattle.apfs_check.specs.Reads.{loading_reads}
use Rattle.apfs_check.specs.Steps.{IsThere}
use Rattle.apfs_check.proofs.Adding.{item-in, one-taken, loaded-more}
use Rattle.apfs_check.proofs.Spent.{sum-more, loading-within}
use Rattle.apfs_check.proofs.Stopped.{load-stops}
use Rattle.apfs_check.proofs.loading.load_all.Goals as goal

pub load-requires-clause-head : goal.load-requires-clause-head
load-requires-clause-head g c =
    let i = c.heads.head-index in
    let head = c.head-item.result in
    let low : i < length c.args.heads.now = omega arith in
    subst (λ bytes. IsHead bytes c.args.cp.now head) (sym c.heads.invariant.kept.same_bytes) (c.requires.heads head (item-in c.args.heads.now i head low c.head-item.is))

pub returns-in-Err-clause-present : goal.returns-in-Err-clause-present
returns-in-Err-clause-present g c profile image told newest are =
    let seen = c.args.cp.now in
    let i = c.heads.head-index in
    let head = c.head-item.result in
    let low : i < length c.args.heads.now = omega arith in
    subst (IsThere profile image) (sym (c.stop_of.ensures ∙ ap (λ xid. raised (of_volume xid) c.in-Err.stop) c.xid.ensures))
    (load-stops profile image seen newest c.args.heads.now are head (item-in c.args.heads.now i head low c.head-item.is) c.in-Err.stop (c.in-Err.ensures.present image (c.heads.invariant.kept.same_bytes ∙ told)))

pub heads-preserved : goal.heads-preserved
heads-preserved g c =
    let seen = c.args.cp.now in
    let reads = g.S.BlockSource.reads in
    let i = c.heads.head-index in
    let head = c.head-item.result in
    let low : i < length c.args.heads.now = omega arith in
    record {
      loaded = λ image told.
          subst (λ hs. AreLoadedOf image seen hs c.push.new.self.items) (sym (one-taken c.args.heads.now i head low c.head-item.is))
          (subst (λ vs. AreLoadedOf image seen (take i c.args.heads.now ++ head ∷ []) vs) (sym c.in_ok-push.ensures.items)
          (loaded-more image seen (take i c.args.heads.now) c.heads.volumes.items head c.in-Ok.volume (c.heads.invariant.loaded image told)
          (c.in-Ok.ensures.clear image (c.heads.invariant.kept.same_bytes ∙ told)) c.in-Ok.ensures.same));
      few = λ image told.
          subst (λ vs. reads c.load.new.src ≤ reads c.args.src.now + sum (map (loading_reads image (site_of seen)) vs)) (sym c.in_ok-push.ensures.items)
          (sum-more (loading_reads image (site_of seen)) c.heads.volumes.items (c.heads.volumes.items ++ c.in-Ok.volume ∷ []) c.in-Ok.volume (reads c.args.src.now) (reads c.heads.src) (reads c.load.new.src) refl (c.heads.invariant.few image told)
          (loading-within image (site_of seen) head c.in-Ok.volume (reads c.heads.src) (reads c.load.new.src) c.in-Ok.ensures.same (c.in-Ok.ensures.reads image (c.heads.invariant.kept.same_bytes ∙ told))));
      kept = record {
        same_bytes = c.load.ensures.kept.same_bytes ∙ c.heads.invariant.kept.same_bytes;
        same_size = c.load.ensures.kept.same_size ∙ c.heads.invariant.kept.same_size;
        later = omega (arith, c.load.ensures.kept.later, c.heads.invariant.kept.later);
      };
    }
