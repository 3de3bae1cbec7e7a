use Rattle.std.proofs.Common.{arith, ◌∙◌}
use Rattle.apfs_model.specs.Bytes.{u32_at, u64_at}
use Rattle.img_plan.proofs.Kept.{stays_before, stays_after, rest_stays, number_in_front}
use Rattle.img_plan.proofs.records.snapshots.put_snapshot.Goals as goal

pub returns-clause-numbers : goal.returns-clause-numbers
unfolding u32_at u64_at
returns-clause-numbers c = record {
  extents_root = stays_before 8 _ _ 0 40 44 (omega arith) c.put_u32.ensures.same ∙ stays_before 8 _ _ 0 8 16 (omega arith) c.put_u64-2.ensures.same ∙ c.put_u64.ensures.value;
  volume = stays_before 8 _ _ 8 40 44 (omega arith) c.put_u32.ensures.same ∙ c.put_u64-2.ensures.value;
  created = stays_before 8 _ _ 16 40 44 (omega arith) c.put_u32.ensures.same ∙ stays_after 8 _ _ 16 8 16 (omega arith) c.put_u64-2.ensures.same ∙ stays_after 8 _ _ 16 0 8 (omega arith) c.put_u64.ensures.same ∙ number_in_front 8 48 16 _ (omega arith) c.requires.zeros;
  changed = stays_before 8 _ _ 24 40 44 (omega arith) c.put_u32.ensures.same ∙ stays_after 8 _ _ 24 8 16 (omega arith) c.put_u64-2.ensures.same ∙ stays_after 8 _ _ 24 0 8 (omega arith) c.put_u64.ensures.same ∙ number_in_front 8 48 24 _ (omega arith) c.requires.zeros;
  inum = stays_before 8 _ _ 32 40 44 (omega arith) c.put_u32.ensures.same ∙ stays_after 8 _ _ 32 8 16 (omega arith) c.put_u64-2.ensures.same ∙ stays_after 8 _ _ 32 0 8 (omega arith) c.put_u64.ensures.same ∙ number_in_front 8 48 32 _ (omega arith) c.requires.zeros;
  extents_type = c.put_u32.ensures.value;
  flags = stays_after 4 _ _ 44 40 44 (omega arith) c.put_u32.ensures.same ∙ stays_after 4 _ _ 44 8 16 (omega arith) c.put_u64-2.ensures.same ∙ stays_after 4 _ _ 44 0 8 (omega arith) c.put_u64.ensures.same ∙ number_in_front 4 48 44 _ (omega arith) c.requires.zeros;
}

pub returns-clause-same : goal.returns-clause-same
returns-clause-same c =
    rest_stays _ _ 40 44 48 (omega arith) c.put_u32.ensures.same
    ∙ rest_stays _ _ 8 16 48 (omega arith) c.put_u64-2.ensures.same
    ∙ rest_stays _ _ 0 8 48 (omega arith) c.put_u64.ensures.same
