use Rattle.std.proofs.Common.{arith, ◌∙◌}
use Rattle.apfs_model.specs.Bytes.{u32_at}
use Rattle.img_plan.proofs.Kept.{stays_before}
use Rattle.img_plan.proofs.records.mappings.put_map_value.Goals as goal

pub returns : goal.returns
unfolding u32_at
returns c = record {
  len = omega arith;
  flags = stays_before 4 _ _ 0 8 16 (omega arith) c.put_u64.ensures.same ∙ stays_before 4 _ _ 0 4 8 (omega arith) c.put_u32.ensures.same ∙ c.requires.flags;
  size = stays_before 4 _ _ 4 8 16 (omega arith) c.put_u64.ensures.same ∙ c.put_u32.ensures.value;
  paddr = c.put_u64.ensures.value;
}
