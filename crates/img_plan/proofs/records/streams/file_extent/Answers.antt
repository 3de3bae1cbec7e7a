use Rattle.std.proofs.Common.{◌∙◌, ap, sym}
use Rattle.apfs_model.specs.Bytes.{number_at, u64_at}
use Rattle.img_plan.specs.Records.{IsExtentValue}
use Rattle.img_plan.proofs.Kept.{written_back}
use Rattle.img_plan.proofs.records.streams.file_extent.Goals as goal

pub put_extent-requires-clause-key : goal.put_extent-requires-clause-key
unfolding u64_at
put_extent-requires-clause-key c = ap (λ l. number_at 8 l 16) (c.deref_mut.ensures.value ∙ c.in_ok-value.ensures.zeros)

pub returns-clause-value : goal.returns-clause-value
returns-clause-value c = written_back (IsExtentValue c.args.length c.args.block) _ _ _ (c.put_extent.ensures.len ∙ sym c.in_ok-value.ensures.len) c.put_extent.ensures
