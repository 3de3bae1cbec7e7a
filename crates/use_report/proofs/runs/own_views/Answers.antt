use Rattle.std.proofs.Common.{List, ◌+◌, ◌++◌, ◌∷◌, [], ap, ◌∙◌}
use Rattle.piece_count.specs.declared.piece.ViewRun.{ViewRun}
use Rattle.use_report.proofs.HeadRuns.{among-one}
use Rattle.use_report.proofs.runs.own_views.Goals as goal

pub returns : goal.returns
returns c = λ view. among-one c.push.new.self.items c.args.place view (c.in_ok-push.ensures.items ∙ ap (λ (rs : List ViewRun). rs ++ record { from = c.args.place; to = c.args.place + 1 } ∷ []) c.new-runs.ensures.items)
