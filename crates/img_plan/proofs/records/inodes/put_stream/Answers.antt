use Rattle.std.proofs.Common.{◌-◌, ◌*◌, ◌^◌, min, ap, ◌∙◌, arith}
use Rattle.apfs_model.specs.Bytes.{u64_at}
use Rattle.img_plan.proofs.Kept.{stays_before, rest_stays}
use Rattle.img_plan.proofs.records.inodes.put_stream.Goals as goal

pub returns : goal.returns
unfolding u64_at
returns c = record {
  used = stays_before 8 _ _ 0 8 16 (omega arith) c.put_u64-2.ensures.same ∙ c.put_u64.ensures.value;
  allocated = c.put_u64-2.ensures.value ∙ c.saturating_mul.ensures ∙ ap (λ n. min (n * 4096) (2 ^ 64 - 1)) c.div_ceil.ensures;
  rest = c.put_u64-2.ensures.same.after ∙ rest_stays _ _ 0 8 16 (omega arith) c.put_u64.ensures.same ∙ c.requires.zeros;
}
