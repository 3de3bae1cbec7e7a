use Rattle.std.proofs.Common.{arith, ◌≡◌, ◌++◌, ap, sym, ◌∙◌}
use Rattle.img_format.specs.Fresh.{block, blocks_from}
use Rattle.img_format.proofs.Numbered.{runs-more}
use Rattle.img_format.proofs.writing.used_blocks.Goals as goal

pub each-init : goal.each-init
each-init c = c.new-used.ensures.items

pub each-preserved : goal.each-preserved
each-preserved c =
    let spec = c.args.spec.now in
    let k = c.each.k in
    c.in_ok-add_block.ensures ∙ ap (λ bs. bs ++ block spec k) c.each.invariant ∙ sym (runs-more (block spec) k)

pub returns : goal.returns
returns c =
    let all : c.each.k ≡ 57 = omega (arith, c.each.auto.k-end, c.each-test.false) in
    c.each.invariant ∙ ap (blocks_from c.args.spec.now 0) all
