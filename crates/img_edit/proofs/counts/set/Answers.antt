use Rattle.std.proofs.Common.{◌∙◌}
use Rattle.img_edit.proofs.Others.{other_stays}
use Rattle.img_edit.proofs.counts.set.Goals as goal

pub returns-then-not-count-2 : goal.returns-then-not-count-2
returns-then-not-count-2 c = λ k a b d.
    other_stays c.args.block_size 9 k _ _ c.count-2.ensures a
    ∙ other_stays c.args.block_size 43 k _ _ c.count.ensures b

pub returns : goal.returns
returns c = λ k a b d.
    other_stays c.args.block_size c.in-Some.spot.bitmap k _ _ c.write.ensures.same (λ e. d (e ∙ c.in-Some.ensures))
    ∙ other_stays c.args.block_size 9 k _ _ c.count-2.ensures a
    ∙ other_stays c.args.block_size 43 k _ _ c.count.ensures b
