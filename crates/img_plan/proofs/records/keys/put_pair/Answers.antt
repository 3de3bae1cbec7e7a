use Rattle.std.proofs.Common.{arith, ◌∙◌}
use Rattle.img_plan.proofs.Kept.{u64_before}
use Rattle.img_plan.proofs.records.keys.put_pair.Goals as goal

pub returns : goal.returns
returns c = record {
  len = omega arith;
  start = u64_before _ _ 0 8 16 (omega arith) c.put_u64-2.ensures.same ∙ c.put_u64.ensures.value;
  after = c.put_u64-2.ensures.value;
}
