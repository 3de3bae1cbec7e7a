use Rattle.std.proofs.Common.{arith, ◌∙◌}
use Rattle.img_format.proofs.Laying.{step, last-step}
use Rattle.img_format.proofs.field.lay.Goals as goal

pub fields-preserved : goal.fields-preserved
fields-preserved c =
    let s = step 4096 c.args.fields.now c.fields.field-index c.len.result c.fields.block.items c.add_zeros.new.block.items c.add_value.new.block.items c.fields-test.true (omega (arith, c.len.ensures, c.fields.block.ok.0)) c.fields.invariant.room c.in_ok-add_zeros.ensures c.in_ok-add_value.ensures in
    record { same = s.same ∙ c.fields.invariant.same; room = s.room }

pub returns : goal.returns
returns c =
    last-step 4096 c.args.fields.now c.fields.field-index c.len-2.result c.fields.block.items c.add_zeros-2.new.block.items c.fields-test.false (omega (arith, c.len-2.ensures, c.fields.block.ok.0)) c.in_ok-add_zeros-2.ensures
    ∙ c.fields.invariant.same
