use Rattle.std.proofs.Common.{arith, ◌∙◌}
use Rattle.apfs_model.specs.Bytes.{u64_at}
use Rattle.img_plan.proofs.Kept.{stays_before, stays_after}
use Rattle.img_plan.proofs.records.entries.put_entry.Goals as goal

pub returns : goal.returns
unfolding u64_at
returns c = record {
  inode = stays_before 8 _ _ 0 16 18 (omega arith) c.put_u16.ensures.same ∙ c.put_u64.ensures.value;
  added = stays_before 8 _ _ 8 16 18 (omega arith) c.put_u16.ensures.same ∙ stays_after 8 _ _ 8 0 8 (omega arith) c.put_u64.ensures.same ∙ c.requires.added;
  flags = c.put_u16.ensures.value;
}
