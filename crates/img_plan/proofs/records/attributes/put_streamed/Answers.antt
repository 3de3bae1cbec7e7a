use Rattle.std.proofs.Common.{arith, ◌∙◌}
use Rattle.apfs_model.specs.Bytes.{u16_at, u64_at}
use Rattle.img_plan.proofs.Kept.{stays_before, rest_stays}
use Rattle.img_plan.proofs.records.attributes.put_streamed.Goals as goal

pub returns : goal.returns
unfolding u16_at u64_at
returns c = record {
  flags = stays_before 2 _ _ 0 12 20 (omega arith) c.put_u64-2.ensures.same ∙ stays_before 2 _ _ 0 4 12 (omega arith) c.put_u64.ensures.same ∙ stays_before 2 _ _ 0 2 4 (omega arith) c.put_u16-2.ensures.same ∙ c.put_u16.ensures.value;
  contents_len = stays_before 2 _ _ 2 12 20 (omega arith) c.put_u64-2.ensures.same ∙ stays_before 2 _ _ 2 4 12 (omega arith) c.put_u64.ensures.same ∙ c.put_u16-2.ensures.value;
  id = stays_before 8 _ _ 4 12 20 (omega arith) c.put_u64-2.ensures.same ∙ c.put_u64.ensures.value;
  bytes = c.put_u64-2.ensures.value;
  rest = c.put_u64-2.ensures.same.after
      ∙ rest_stays _ _ 4 12 20 (omega arith) c.put_u64.ensures.same
      ∙ rest_stays _ _ 2 4 20 (omega arith) c.put_u16-2.ensures.same
      ∙ rest_stays _ _ 0 2 20 (omega arith) c.put_u16.ensures.same
      ∙ c.requires.zeros;
}
