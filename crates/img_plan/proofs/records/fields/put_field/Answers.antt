use Rattle.std.proofs.Common.{◌≡◌, length, get_or, set, ap, ◌∙◌, arith}
use Rattle.std.proofs.lemmas.List.{get_or-set_same, take-set-le, length-set}
use Rattle.apfs_model.specs.Bytes.{u16_at, number_at}
use Rattle.img_plan.proofs.Kept.{number_put, number_set, byte_before, take_put, stays_before}
use Rattle.img_plan.proofs.records.fields.put_field.Goals as goal

pub returns-clause-head : goal.returns-clause-head
unfolding u16_at
returns-clause-head c =
    let contents = c.args.contents.now in
    let a = c.put_u16-2.new.block in
    let b = set a 4 c.args.kind in
    let d = set b 5 0x20 in
    let written = c.put_u16-3.new.block in
    let long : length b ≡ length a = length-set a 4 c.args.kind in
    let longer : length d ≡ length b = length-set b 5 0x20 in
    let whole : length written ≡ length d = c.put_u16-3.auto.block in record {
      count = ap (λ l. number_at 2 l 0) c.put_bytes.ensures ∙ number_put 2 0 8 contents written (omega arith) (omega arith) ∙ stays_before 2 d written 0 6 8 (omega arith) c.put_u16-3.ensures.same
          ∙ number_set 2 b 5 0x20 0 (omega arith) ∙ number_set 2 a 4 c.args.kind 0 (omega arith) ∙ stays_before 2 _ _ 0 2 4 (omega arith) c.put_u16-2.ensures.same ∙ c.put_u16.ensures.value;
      used = ap (λ l. number_at 2 l 2) c.put_bytes.ensures ∙ number_put 2 2 8 contents written (omega arith) (omega arith) ∙ stays_before 2 d written 2 6 8 (omega arith) c.put_u16-3.ensures.same
          ∙ number_set 2 b 5 0x20 2 (omega arith) ∙ number_set 2 a 4 c.args.kind 2 (omega arith) ∙ c.put_u16-2.ensures.value;
      type = ap (λ l. get_or l 4 0) c.put_bytes.ensures ∙ byte_before written _ 4 8 (omega arith) (take_put 8 contents written (omega arith)) ∙ byte_before d written 4 6 (omega arith) c.put_u16-3.ensures.same.before
          ∙ byte_before b d 4 5 (omega arith) (take-set-le 5 b 5 0x20 (omega arith)) ∙ get_or-set_same a 4 c.args.kind 0 (omega arith);
      flags = ap (λ l. get_or l 5 0) c.put_bytes.ensures ∙ byte_before written _ 5 8 (omega arith) (take_put 8 contents written (omega arith)) ∙ byte_before d written 5 6 (omega arith) c.put_u16-3.ensures.same.before
          ∙ get_or-set_same b 5 0x20 0 (omega arith);
      size_again = ap (λ l. number_at 2 l 6) c.put_bytes.ensures ∙ number_put 2 6 8 contents written (omega arith) (omega arith) ∙ c.put_u16-3.ensures.value;
      len = omega arith;
    }
