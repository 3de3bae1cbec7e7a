use Rattle.std.proofs.Common.{arith, drop, ap, ◌∙◌}
use Rattle.img_plan.specs.Records.{IsSnapshotValue}
use Rattle.img_plan.proofs.Kept.{name_stays, written_back}
use Rattle.img_plan.proofs.records.snapshots.snapshot_record.Goals as goal

pub returns-clause-value : goal.returns-clause-value
returns-clause-value c =
    let after = name_stays 48 c.args.name.now _ _ 48 (omega arith) (c.put_snapshot.ensures.same ∙ ap (λ l. drop 48 l) c.deref_mut.ensures.value) c.in_ok-value.ensures.named in
    written_back (IsSnapshotValue c.args.extents c.args.superblock c.args.name.now) _ _ _ (omega arith) (record { front = c.put_snapshot.ensures.numbers; after = after })
