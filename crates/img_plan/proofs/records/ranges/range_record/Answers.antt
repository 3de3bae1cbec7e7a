use Rattle.std.proofs.Common.{◌∙◌, ap, subst, sym, w32, rules}
use Rattle.std.proofs.lemmas.Int.{to_z-of_z}
use Rattle.apfs_model.specs.Bytes.{number_at, u64_at}
use Rattle.img_plan.specs.Records.{IsRangeValue}
use Rattle.img_plan.proofs.Kept.{written_back}
use Rattle.img_plan.proofs.records.ranges.range_record.Goals as goal

pub put_range-requires-clause-owner : goal.put_range-requires-clause-owner
unfolding u64_at
put_range-requires-clause-owner c = ap (λ l. number_at 8 l 8) (c.deref_mut.ensures.value ∙ c.in_ok-owned.ensures.zeros)

pub returns-clause-value : goal.returns-clause-value
returns-clause-value c = written_back (IsRangeValue c.args.range.now.length c.args.range.now.count) _ _ _ (c.put_range.ensures.len ∙ sym c.in_ok-owned.ensures.len)
    (subst (λ z. IsRangeValue c.args.range.now.length z c.put_range.new.value) (to_z-of_z w32 c.args.range.now.count (search rules)) c.put_range.ensures)
