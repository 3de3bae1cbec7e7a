use Rattle.std.proofs.Common.{List, refl, subst}
use Rattle.piece_count.specs.declared.tally.ViewCount.{ViewCount}
use Rattle.use_report.specs.Sets.{AreUsesOf}
use Rattle.use_report.proofs.volumes.tally.Goals as goal

pub returns-clause-numbers : goal.returns-clause-numbers
returns-clause-numbers c = record {
  counts = c.in_ok-counts.counts;
  counted = c.in_ok-counts.ensures;
  number_is = refl;
  uses = subst (λ (xs : List ViewCount). AreUsesOf c.args.views.now xs c.in-Ok.told.items) c.deref.ensures.value c.in-Ok.ensures.uses;
}
