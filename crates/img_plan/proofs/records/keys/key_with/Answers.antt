use Rattle.std.proofs.Common.{◌%◌, ap, ◌∙◌, arith}
use Rattle.apfs_model.specs.Bytes.{u64_at}
use Rattle.img_plan.specs.Records.{IsLongKey}
use Rattle.img_plan.proofs.Kept.{written_back}
use Rattle.img_plan.proofs.records.keys.key_with.Goals as goal

pub returns : goal.returns
returns c =
    let start = c.put_second.ensures.start ∙ ap (λ l. u64_at l 0) c.deref_mut.ensures.value ∙ c.in_ok-key.ensures.start in
    written_back (IsLongKey c.args.id (c.args.kind % 16) c.args.second) _ _ _ (omega arith) (record { len = omega arith; start = start; after = c.put_second.ensures.second })
