use Rattle.std.proofs.Common.{◌+◌, List, [], ◌∷◌, ◌++◌, ap, ◌∙◌}
use Rattle.view_sweep.specs.declared.runs.Run.{Run}
use Rattle.view_sweep.proofs.Rises.{one-place}
use Rattle.view_sweep.proofs.sets.one_of.Goals as goal

pub returns-clause-one : goal.returns-clause-one
returns-clause-one c = λ k. one-place c.push.new.self.items c.args.place k (c.in_ok-push.ensures.items ∙ ap (λ (xs : List Run). xs ++ record { from = c.args.place; end = c.args.place + 1 } ∷ []) c.new-set.ensures.items)
