use Rattle.std.proofs.Common.{◌∙◌, ap, drop, arith}
use Rattle.img_plan.specs.Records.{IsStreamedValue}
use Rattle.img_plan.proofs.Kept.{written_back}
use Rattle.img_plan.proofs.records.attributes.stream_attribute.Goals as goal

pub put_streamed-requires-clause-zeros : goal.put_streamed-requires-clause-zeros
put_streamed-requires-clause-zeros c = ap (λ l. drop 20 l) (c.deref_mut.ensures.value ∙ c.in_ok-value.ensures.zeros)

pub returns-clause-value : goal.returns-clause-value
returns-clause-value c = written_back (IsStreamedValue c.args.stream c.args.size) _ _ _ (omega arith) c.put_streamed.ensures
