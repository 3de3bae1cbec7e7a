use Rattle.std.proofs.Common.{◌==◌, List, ap, ◌∙◌}
use Rattle.std.specs.Prelude.{slice_get}
use Rattle.rule_index.proofs.Runs.{first-kept}
use Rattle.rule_index.proofs.ordered.Ordered.first.Goals as goal

pub returns : goal.returns
returns g c = c.first.ensures.value ∙ (ap (λ (xs : List g.row.T.Denot). slice_get xs 0) c.run.ensures ∙ first-kept (λ x. g.B.OrderBy.id x == c.args.id) c.args.self.now)
