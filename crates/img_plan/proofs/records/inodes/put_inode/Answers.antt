use Rattle.std.proofs.Common.{arith, ◌∙◌}
use Rattle.apfs_model.specs.Bytes.{u16_at, u32_at, u64_at}
use Rattle.img_plan.proofs.Kept.{stays_before, stays_after, number_in_front}
use Rattle.img_plan.proofs.records.inodes.put_inode.Goals as goal

pub returns : goal.returns
unfolding u16_at u32_at u64_at
returns c = record {
  parent = stays_before 8 _ _ 0 80 82 (omega arith) c.put_u16.ensures.same
      ∙ stays_before 8 _ _ 0 68 72 (omega arith) c.put_u32-2.ensures.same
      ∙ stays_before 8 _ _ 0 56 60 (omega arith) c.put_u32.ensures.same
      ∙ stays_before 8 _ _ 0 48 56 (omega arith) c.put_u64-3.ensures.same
      ∙ stays_before 8 _ _ 0 8 16 (omega arith) c.put_u64-2.ensures.same
      ∙ c.put_u64.ensures.value;
  private = stays_before 8 _ _ 8 80 82 (omega arith) c.put_u16.ensures.same
      ∙ stays_before 8 _ _ 8 68 72 (omega arith) c.put_u32-2.ensures.same
      ∙ stays_before 8 _ _ 8 56 60 (omega arith) c.put_u32.ensures.same
      ∙ stays_before 8 _ _ 8 48 56 (omega arith) c.put_u64-3.ensures.same
      ∙ c.put_u64-2.ensures.value;
  created = stays_before 8 _ _ 16 80 82 (omega arith) c.put_u16.ensures.same
      ∙ stays_before 8 _ _ 16 68 72 (omega arith) c.put_u32-2.ensures.same
      ∙ stays_before 8 _ _ 16 56 60 (omega arith) c.put_u32.ensures.same
      ∙ stays_before 8 _ _ 16 48 56 (omega arith) c.put_u64-3.ensures.same
      ∙ stays_after 8 _ _ 16 8 16 (omega arith) c.put_u64-2.ensures.same
      ∙ stays_after 8 _ _ 16 0 8 (omega arith) c.put_u64.ensures.same
      ∙ number_in_front 8 92 16 _ (omega arith) c.requires.zeros;
  modified = stays_before 8 _ _ 24 80 82 (omega arith) c.put_u16.ensures.same
      ∙ stays_before 8 _ _ 24 68 72 (omega arith) c.put_u32-2.ensures.same
      ∙ stays_before 8 _ _ 24 56 60 (omega arith) c.put_u32.ensures.same
      ∙ stays_before 8 _ _ 24 48 56 (omega arith) c.put_u64-3.ensures.same
      ∙ stays_after 8 _ _ 24 8 16 (omega arith) c.put_u64-2.ensures.same
      ∙ stays_after 8 _ _ 24 0 8 (omega arith) c.put_u64.ensures.same
      ∙ number_in_front 8 92 24 _ (omega arith) c.requires.zeros;
  changed = stays_before 8 _ _ 32 80 82 (omega arith) c.put_u16.ensures.same
      ∙ stays_before 8 _ _ 32 68 72 (omega arith) c.put_u32-2.ensures.same
      ∙ stays_before 8 _ _ 32 56 60 (omega arith) c.put_u32.ensures.same
      ∙ stays_before 8 _ _ 32 48 56 (omega arith) c.put_u64-3.ensures.same
      ∙ stays_after 8 _ _ 32 8 16 (omega arith) c.put_u64-2.ensures.same
      ∙ stays_after 8 _ _ 32 0 8 (omega arith) c.put_u64.ensures.same
      ∙ number_in_front 8 92 32 _ (omega arith) c.requires.zeros;
  accessed = stays_before 8 _ _ 40 80 82 (omega arith) c.put_u16.ensures.same
      ∙ stays_before 8 _ _ 40 68 72 (omega arith) c.put_u32-2.ensures.same
      ∙ stays_before 8 _ _ 40 56 60 (omega arith) c.put_u32.ensures.same
      ∙ stays_before 8 _ _ 40 48 56 (omega arith) c.put_u64-3.ensures.same
      ∙ stays_after 8 _ _ 40 8 16 (omega arith) c.put_u64-2.ensures.same
      ∙ stays_after 8 _ _ 40 0 8 (omega arith) c.put_u64.ensures.same
      ∙ number_in_front 8 92 40 _ (omega arith) c.requires.zeros;
  flags = stays_before 8 _ _ 48 80 82 (omega arith) c.put_u16.ensures.same
      ∙ stays_before 8 _ _ 48 68 72 (omega arith) c.put_u32-2.ensures.same
      ∙ stays_before 8 _ _ 48 56 60 (omega arith) c.put_u32.ensures.same
      ∙ c.put_u64-3.ensures.value;
  links = stays_before 4 _ _ 56 80 82 (omega arith) c.put_u16.ensures.same
      ∙ stays_before 4 _ _ 56 68 72 (omega arith) c.put_u32-2.ensures.same
      ∙ c.put_u32.ensures.value;
  protection = stays_before 4 _ _ 60 80 82 (omega arith) c.put_u16.ensures.same
      ∙ stays_before 4 _ _ 60 68 72 (omega arith) c.put_u32-2.ensures.same
      ∙ stays_after 4 _ _ 60 56 60 (omega arith) c.put_u32.ensures.same
      ∙ stays_after 4 _ _ 60 48 56 (omega arith) c.put_u64-3.ensures.same
      ∙ stays_after 4 _ _ 60 8 16 (omega arith) c.put_u64-2.ensures.same
      ∙ stays_after 4 _ _ 60 0 8 (omega arith) c.put_u64.ensures.same
      ∙ number_in_front 4 92 60 _ (omega arith) c.requires.zeros;
  writes = stays_before 4 _ _ 64 80 82 (omega arith) c.put_u16.ensures.same
      ∙ stays_before 4 _ _ 64 68 72 (omega arith) c.put_u32-2.ensures.same
      ∙ stays_after 4 _ _ 64 56 60 (omega arith) c.put_u32.ensures.same
      ∙ stays_after 4 _ _ 64 48 56 (omega arith) c.put_u64-3.ensures.same
      ∙ stays_after 4 _ _ 64 8 16 (omega arith) c.put_u64-2.ensures.same
      ∙ stays_after 4 _ _ 64 0 8 (omega arith) c.put_u64.ensures.same
      ∙ number_in_front 4 92 64 _ (omega arith) c.requires.zeros;
  bsd_flags = stays_before 4 _ _ 68 80 82 (omega arith) c.put_u16.ensures.same
      ∙ c.put_u32-2.ensures.value;
  owner = stays_before 4 _ _ 72 80 82 (omega arith) c.put_u16.ensures.same
      ∙ stays_after 4 _ _ 72 68 72 (omega arith) c.put_u32-2.ensures.same
      ∙ stays_after 4 _ _ 72 56 60 (omega arith) c.put_u32.ensures.same
      ∙ stays_after 4 _ _ 72 48 56 (omega arith) c.put_u64-3.ensures.same
      ∙ stays_after 4 _ _ 72 8 16 (omega arith) c.put_u64-2.ensures.same
      ∙ stays_after 4 _ _ 72 0 8 (omega arith) c.put_u64.ensures.same
      ∙ number_in_front 4 92 72 _ (omega arith) c.requires.zeros;
  group = stays_before 4 _ _ 76 80 82 (omega arith) c.put_u16.ensures.same
      ∙ stays_after 4 _ _ 76 68 72 (omega arith) c.put_u32-2.ensures.same
      ∙ stays_after 4 _ _ 76 56 60 (omega arith) c.put_u32.ensures.same
      ∙ stays_after 4 _ _ 76 48 56 (omega arith) c.put_u64-3.ensures.same
      ∙ stays_after 4 _ _ 76 8 16 (omega arith) c.put_u64-2.ensures.same
      ∙ stays_after 4 _ _ 76 0 8 (omega arith) c.put_u64.ensures.same
      ∙ number_in_front 4 92 76 _ (omega arith) c.requires.zeros;
  mode = c.put_u16.ensures.value;
  pad = stays_after 2 _ _ 82 80 82 (omega arith) c.put_u16.ensures.same
      ∙ stays_after 2 _ _ 82 68 72 (omega arith) c.put_u32-2.ensures.same
      ∙ stays_after 2 _ _ 82 56 60 (omega arith) c.put_u32.ensures.same
      ∙ stays_after 2 _ _ 82 48 56 (omega arith) c.put_u64-3.ensures.same
      ∙ stays_after 2 _ _ 82 8 16 (omega arith) c.put_u64-2.ensures.same
      ∙ stays_after 2 _ _ 82 0 8 (omega arith) c.put_u64.ensures.same
      ∙ number_in_front 2 92 82 _ (omega arith) c.requires.zeros;
  uncompressed = stays_after 8 _ _ 84 80 82 (omega arith) c.put_u16.ensures.same
      ∙ stays_after 8 _ _ 84 68 72 (omega arith) c.put_u32-2.ensures.same
      ∙ stays_after 8 _ _ 84 56 60 (omega arith) c.put_u32.ensures.same
      ∙ stays_after 8 _ _ 84 48 56 (omega arith) c.put_u64-3.ensures.same
      ∙ stays_after 8 _ _ 84 8 16 (omega arith) c.put_u64-2.ensures.same
      ∙ stays_after 8 _ _ 84 0 8 (omega arith) c.put_u64.ensures.same
      ∙ number_in_front 8 92 84 _ (omega arith) c.requires.zeros;
}
