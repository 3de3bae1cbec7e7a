use Rattle.std.proofs.Common.{arith, ◌≡◌, ◌∙◌, ℕ, suc, ◌+◌, ◌-◌, ◌*◌, ◌%◌, ◌^◌, pos, negsuc, List, nat_lt, if◌then◌else◌, ap, w32}
use Rattle.std.specs.Int.{cast_signed, cast_unsigned}
use Rattle.std.proofs.lemmas.Int.{to_z-of_z}
use Rattle.apfs_model.specs.Bytes.{u32_at, i32_at}
use Rattle.img_plan.proofs.Kept.{u64_before, u64_after}
use Rattle.img_plan.proofs.records.ranges.put_range.Goals as goal

-- the signed number at a place is the signed one of the bits there
signed : (bytes : List ℕ) (at : ℕ) → i32_at bytes at ≡ cast_signed w32 (u32_at bytes at)
unfolding i32_at
signed bytes at =
    let e : 2 ^ 32 - 1 - u32_at bytes at ≡ 2 ^ 32 - suc (u32_at bytes at) = omega arith in
    ap (λ m. if nat_lt (u32_at bytes at) (2 ^ 31) then pos (u32_at bytes at) else negsuc m) e

pub returns : goal.returns
returns c = record {
  len = omega arith;
  length_and_kind = u64_before _ _ 0 16 20 (omega arith) c.put_u32.ensures.same ∙ c.put_u64.ensures.value ∙ ap (λ k. c.args.blocks % 2 ^ 60 + k * 2 ^ 60) c.from.ensures;
  owner = u64_before _ _ 8 16 20 (omega arith) c.put_u32.ensures.same ∙ u64_after _ _ 8 0 8 (omega arith) c.put_u64.ensures.same ∙ c.requires.owner;
  streams = signed c.put_u32.new.block 16 ∙ ap (λ n. cast_signed w32 n) (c.put_u32.ensures.value ∙ c.cast_unsigned.ensures) ∙ ap (λ z. cast_signed w32 (cast_unsigned w32 z)) (to_z-of_z w32 c.args.count c.ranges.count) ∙ to_z-of_z w32 c.args.count c.ranges.count;
}
