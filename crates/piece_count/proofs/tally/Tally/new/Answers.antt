use Rattle.std.proofs.Common.{refl}
use Rattle.piece_count.proofs.Tallies.{tally-new}
use Rattle.piece_count.proofs.tally.Tally.new.Goals as goal

pub returns-clause-tally : goal.returns-clause-tally
returns-clause-tally c = λ blocks. tally-new blocks c.args.views _ c.requires (c.in_ok-counts.ensures.items_if_clones_equal (λ y e. e)) (c.in_ok-reach.ensures.items_if_clones_equal (λ y e. e)) refl refl refl refl refl
