-- The law, and the report.
use Rattle.fresh_law.proofs.Law.{fresh-holds}
use Rattle.fresh_law.proofs.Report.{fresh-reported}
use Rattle.fresh_law.proofs.new_container_holds.Goals as goal

pub returns-clause-holds : goal.returns-clause-holds
returns-clause-holds c = fresh-holds

pub returns-clause-reported : goal.returns-clause-reported
returns-clause-reported c = fresh-reported
