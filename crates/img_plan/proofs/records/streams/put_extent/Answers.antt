use Rattle.std.proofs.Common.{arith, ◌∙◌}
use Rattle.img_plan.proofs.Kept.{u64_before, u64_after}
use Rattle.img_plan.proofs.records.streams.put_extent.Goals as goal

pub returns : goal.returns
returns c = record {
  len = omega arith;
  length_and_flags = u64_before _ _ 0 8 16 (omega arith) c.put_u64-2.ensures.same ∙ c.put_u64.ensures.value;
  first_block = c.put_u64-2.ensures.value;
  key_id = u64_after _ _ 16 8 16 (omega arith) c.put_u64-2.ensures.same ∙ u64_after _ _ 16 0 8 (omega arith) c.put_u64.ensures.same ∙ c.requires.key;
}
