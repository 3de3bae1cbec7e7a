use Rattle.std.proofs.Common.{◌-◌, length, drop, ap, subst, sym, ◌∙◌, arith}
use Rattle.std.proofs.lemmas.Slice.{take-put_mid_below}
use Rattle.img_plan.specs.Records.{IsOneField}
use Rattle.img_plan.proofs.Kept.{part_behind}
use Rattle.img_plan.proofs.records.fields.put_field_at.Goals as goal

pub returns-clause-head : goal.returns-clause-head
returns-clause-head c =
    let old = c.args.value.now in
    let field = part_behind c.args.place (length old - c.args.place) old c.put_field.new.part (omega arith) (omega arith) in
    subst (IsOneField c.args.kind (length c.args.contents.now)) (sym field) c.put_field.ensures.head

pub returns-clause-contents : goal.returns-clause-contents
returns-clause-contents c =
    let old = c.args.value.now in
    ap (λ l. drop 8 l) (part_behind c.args.place (length old - c.args.place) old c.put_field.new.part (omega arith) (omega arith)) ∙ c.put_field.ensures.contents

pub returns-clause-front : goal.returns-clause-front
returns-clause-front c =
    let old = c.args.value.now in
    take-put_mid_below c.args.place (length old - c.args.place) old c.put_field.new.part c.args.place (omega arith) (omega arith)
