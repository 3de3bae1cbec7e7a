use Rattle.std.proofs.Common.{List, map, ap, ◌∙◌}
use Rattle.piece_count.specs.Covered.{is_among}
use Rattle.piece_count.specs.declared.piece.ViewRun.{ViewRun}
use Rattle.view_sweep.specs.declared.runs.Run.{Run}
use Rattle.use_report.specs.Runs.{view_run}
use Rattle.use_report.proofs.HeadRuns.{among-is}
use Rattle.use_report.proofs.runs.shared_views.Goals as goal

pub returns : goal.returns
returns c = λ view low. ap (λ (rs : List ViewRun). is_among rs view) (c.in_ok-runs.ensures ∙ ap (λ (rs : List Run). map view_run rs) c.deref.ensures.value) ∙ (among-is c.add_runs.new.runs.items view ∙ c.in_ok-add_runs.ensures view low)
