use Rattle.std.proofs.Common.{◌∙◌, ◌<◌, ◌≤◌, [], ◌∷◌, length, length-append, ap, subst, arith}
use Rattle.std.proofs.lemmas.List.{take_all}
use Rattle.vol_view.specs.Gathered.{AreSnapshots}
use Rattle.vol_view.proofs.Wholeness.{one-tells, item-in, snapshots-more}
use Rattle.vol_view.proofs.snapshots.snapshots.Goals as goal

pub returns-in-Err-clause-present : goal.returns-in-Err-clause-present
returns-in-Err-clause-present g c image told =
    let low : c.records.told-index < length c.args.records.now = omega arith in
    one-tells image c.args.site.now c.args.records.now c.told-item.result c.in-Err.stop (item-in c.args.records.now c.records.told-index c.told-item.result low c.told-item.is)
    (c.in-Err.ensures.present image (c.records.invariant.kept.same_bytes ∙ told))

pub records-preserved : goal.records-preserved
records-preserved g c =
    let low : c.records.told-index < length c.args.records.now = omega arith in
    record {
      made = λ image told.
          snapshots-more image c.args.site.now c.args.records.now c.records.told-index c.told-item.result c.records.snapshots.items c.push.new.self.items c.in-Ok.snapshot low c.told-item.is
          (c.records.invariant.made image told) (c.in-Ok.ensures.clear image (c.records.invariant.kept.same_bytes ∙ told)) c.in_ok-push.ensures.items;
      reads =
          omega (arith, c.records.invariant.reads, c.snapshot.ensures.reads, ap length c.in_ok-push.ensures.items, length-append c.records.snapshots.items (c.in-Ok.snapshot ∷ []));
      kept = record {
        same_bytes = c.snapshot.ensures.kept.same_bytes ∙ c.records.invariant.kept.same_bytes;
        same_size = c.snapshot.ensures.kept.same_size ∙ c.records.invariant.kept.same_size;
        later = omega (arith, c.snapshot.ensures.kept.later, c.records.invariant.kept.later);
      };
    }

pub returns-clause-clear : goal.returns-clause-clear
returns-clause-clear g c image told =
    let end : length c.args.records.now ≤ c.records.told-index = omega arith in
    subst (λ xs. AreSnapshots image c.args.site.now xs c.records.snapshots.items) (take_all c.records.told-index c.args.records.now end) (c.records.invariant.made image told)
