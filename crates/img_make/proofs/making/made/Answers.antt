use Rattle.std.proofs.Common.{◌*◌, max, ap, ◌∙◌}
use Rattle.img_make.proofs.Sizes.{whole_blocks, more_blocks}
use Rattle.img_make.proofs.making.made.Goals as goal

pub returns-in-Ok-clause-in_blocks : goal.returns-in-Ok-clause-in_blocks
returns-in-Ok-clause-in_blocks c =
    let image = c.in-Ok.image in
    whole_blocks image.bytes.len c.args.geometry.size image.used.len (image.whole ∙ ap (λ size. size * image.used.len) c.in-Ok.ensures.0)

pub returns-in-Ok-clause-enough : goal.returns-in-Ok-clause-enough
returns-in-Ok-clause-enough c =
    let image = c.in-Ok.image in
    more_blocks image.bytes.len c.args.geometry.size (max c.args.plan.now.blocks 51) image.used.len (image.whole ∙ ap (λ size. size * image.used.len) c.in-Ok.ensures.0) c.in-Ok.ensures.1
