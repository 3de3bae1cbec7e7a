use Rattle.std.proofs.Common.{◌∙◌}
use Rattle.use_report.proofs.HeadRuns.{live-is}
use Rattle.use_report.proofs.runs.has_live.Goals as goal

pub returns : goal.returns
returns c = c.is_some.ensures ∙ live-is c.args.set.now c.args.many c.least_place.result c.requires.some c.requires.runs c.least_place.ensures
