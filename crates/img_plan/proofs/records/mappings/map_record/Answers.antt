use Rattle.std.proofs.Common.{◌∙◌, ap, sym}
use Rattle.apfs_model.specs.Bytes.{number_at, u32_at}
use Rattle.img_plan.specs.Records.{IsMapValue}
use Rattle.img_plan.proofs.Kept.{written_back}
use Rattle.img_plan.proofs.records.mappings.map_record.Goals as goal

pub put_map_value-requires-clause-flags : goal.put_map_value-requires-clause-flags
unfolding u32_at
put_map_value-requires-clause-flags c = ap (λ l. number_at 4 l 0) (c.deref_mut.ensures.value ∙ c.in_ok-map_value.ensures.zeros)

pub returns-clause-value : goal.returns-clause-value
returns-clause-value c = written_back (IsMapValue c.args.bytes c.args.block) _ _ _ (c.put_map_value.ensures.len ∙ sym c.in_ok-map_value.ensures.len) c.put_map_value.ensures
