use Rattle.std.proofs.Common.{◌≡◌, length, drop, ap, subst, sym, ◌∙◌}
use Rattle.apfs_model.specs.Bytes.{u64_at, number_at}
use Rattle.img_plan.specs.Records.{IsOneField}
use Rattle.img_plan.proofs.Kept.{number_behind}
use Rattle.img_plan.proofs.records.entries.put_sibling.Goals as goal

pub returns-clause-field : goal.returns-clause-field
unfolding u64_at
returns-clause-field c =
    let long : length c.put_u64.new.block ≡ 8 = c.put_u64.auto.block in record {
      head = subst (λ n. IsOneField 1 n (drop 18 c.put_field_at.new.value)) long c.put_field_at.ensures.head;
      number = sym (number_behind 8 8 0 (drop 18 c.put_field_at.new.value)) ∙ ap (λ l. number_at 8 l 0) c.put_field_at.ensures.contents ∙ c.put_u64.ensures.value;
    }
