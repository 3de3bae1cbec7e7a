use Rattle.std.proofs.Common.{arith}
use Rattle.img_plan.specs.Records.{IsEmbeddedValue}
use Rattle.img_plan.proofs.Kept.{written_back}
use Rattle.img_plan.proofs.records.attributes.attribute.Goals as goal

pub returns-clause-value : goal.returns-clause-value
returns-clause-value c = written_back (IsEmbeddedValue c.args.contents.now) _ _ _ (omega arith) c.put_embedded.ensures
