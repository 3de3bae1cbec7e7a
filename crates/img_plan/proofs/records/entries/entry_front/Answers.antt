use Rattle.std.proofs.Common.{arith, ◌+◌, ap, ◌∙◌}
use Rattle.apfs_model.specs.Bytes.{u64_at, number_at}
use Rattle.img_plan.specs.Records.{IsEntryFront}
use Rattle.img_plan.proofs.Kept.{number_in_zeros, written_back}
use Rattle.img_plan.proofs.records.entries.entry_front.Goals as goal

pub put_entry-requires-clause-added : goal.put_entry-requires-clause-added
unfolding u64_at
put_entry-requires-clause-added c =
    ap (λ l. number_at 8 l 8) (c.deref_mut.ensures.value ∙ c.in_ok-value.ensures.zeros) ∙ number_in_zeros 8 (18 + c.args.more) 8

pub returns-clause-front : goal.returns-clause-front
returns-clause-front c = written_back (IsEntryFront c.args.plan.now.file c.args.plan.now.kind) _ _ _ (omega arith) c.put_entry.ensures
