use Rattle.std.proofs.Common.{◌≡◌, ◌+◌, ◌*◌, ◌%◌, ◌^◌, ◌++◌, length, drop, ap, ◌∙◌, arith}
use Rattle.apfs_model.specs.Bytes.{u32_at, u64_at, number_at}
use Rattle.img_plan.proofs.Kept.{number_put, stays_before, rest_stays, drop_later, drop_put}
use Rattle.img_plan.proofs.records.entries.put_hashed.Goals as goal

pub returns : goal.returns
unfolding u32_at u64_at
returns c =
    let name = c.args.name.now in
    let started = c.put_start.new.key in
    let written = c.put_u32.new.block in
    let word : number_at 4 written 8 ≡ c.args.hash % 2 ^ 22 * 2 ^ 10 + (length name + 1) = omega (arith, c.put_u32.ensures.value) in record {
      start = ap (λ l. number_at 8 l 0) c.put_bytes.ensures ∙ number_put 8 0 12 name written (omega arith) (omega arith) ∙ stays_before 8 started written 0 8 12 (omega arith) c.put_u32.ensures.same ∙ c.put_start.ensures.start;
      len_and_hash = ap (λ l. number_at 4 l 8) c.put_bytes.ensures ∙ number_put 4 8 12 name written (omega arith) (omega arith) ∙ word;
      rest = ap (λ l. drop 12 l) c.put_bytes.ensures ∙ drop_put 12 name written (omega arith)
          ∙ ap (λ l. name ++ l) (rest_stays started written 8 12 (12 + length name) (omega arith) c.put_u32.ensures.same
          ∙ drop_later c.args.key.now started 8 (12 + length name) (omega arith) c.put_start.ensures.same
          ∙ c.requires.last);
    }
