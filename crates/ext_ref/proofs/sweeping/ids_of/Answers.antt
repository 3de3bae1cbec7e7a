use Rattle.std.proofs.Common.{ℕ, List, subst}
use Rattle.ext_ref.specs.Same.{HaveSame}
use Rattle.ext_ref.proofs.sweeping.ids_of.Goals as goal

pub returns-clause-same : goal.returns-clause-same
returns-clause-same c = subst (λ (ids : List ℕ). HaveSame ids c.distinct.new.items.items) c.in_ok-ids.ensures c.distinct.ensures.same
