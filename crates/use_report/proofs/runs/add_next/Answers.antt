use Rattle.std.proofs.Common.{ℕ, ◌+◌, ◌-◌, ◌||◌, ap, ◌∙◌}
use Rattle.std.specs.Prelude.{min}
use Rattle.bit_lanes.specs.Places.{is_from}
use Rattle.view_sweep.specs.Runs.{has_place}
use Rattle.use_report.proofs.HeadRuns.{none-next, next-is}
use Rattle.use_report.proofs.runs.add_next.Goals as goal

pub returns-then-from-many-clause-places : goal.returns-then-from-many-clause-places
returns-then-from-many-clause-places c = λ view low. none-next c.args.runs.now.items c.args.run.from c.args.run.end c.args.many view c.if-from-many.true low

pub returns-clause-places : goal.returns-clause-places
returns-clause-places c = λ view low.
    c.in_ok-put_run.ensures.places view
    ∙ (ap (λ (n : ℕ). has_place c.args.runs.now.items view || is_from (c.args.run.from + 1) (n + 1) view) c.min.ensures
    ∙ ap (λ b. has_place c.args.runs.now.items view || b) (next-is c.args.run.from c.args.run.end c.args.many view c.requires.some low))
