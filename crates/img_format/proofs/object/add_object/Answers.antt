use Rattle.std.proofs.Common.{arith, rules, ap, drop, ◌++◌, ◌∙◌}
use Rattle.std.proofs.lemmas.List.{take_rest}
use Rattle.std.proofs.lemmas.Result.{on_ok_weaker}
use Rattle.apfs_model.specs.Sum.{sum_of}
use Rattle.img_format.specs.Tables.{num}
use Rattle.img_format.specs.Steps.{fields_of}
use Rattle.img_format.proofs.Laying.{unsealed-long, sealed-by, where-ok}
use Rattle.img_format.proofs.object.add_object.Goals as goal

pub sum64-requires-clause-whole : goal.sum64-requires-clause-whole
sum64-requires-clause-whole c = search (rules, unsealed-long c.in_ok-block.block.items c.args.head.now (fields_of c.args.fields.now) c.requires c.in_ok-block.ensures)

pub sum64-requires-clause-long : goal.sum64-requires-clause-long
sum64-requires-clause-long c = omega (arith, unsealed-long c.in_ok-block.block.items c.args.head.now (fields_of c.args.fields.now) c.requires c.in_ok-block.ensures)

pub returns : goal.returns
returns c =
    let sum = c.in_ok-add_value.ensures ∙ ap (λ sum. c.args.front.now.items ++ num 8 sum) (c.sum64.ensures ∙ ap sum_of c.deref.ensures.value) in
    let rest = ap (λ bs. c.add_value.new.block.items ++ bs) (take_rest c.deref-2.result.now 8 ∙ ap (drop 8) c.deref-2.ensures.value) in
    on_ok_weaker c.extend_from_slice.result
    (λ n. sealed-by c.args.front.now.items c.in_ok-block.block.items c.add_value.new.block.items c.extend_from_slice.new.self.items c.args.head.now (fields_of c.args.fields.now) c.in_ok-block.ensures sum (n ∙ rest))
    (where-ok c.extend_from_slice.result c.extend_from_slice.new.self.items _ _ c.extend_from_slice.ensures.items)
