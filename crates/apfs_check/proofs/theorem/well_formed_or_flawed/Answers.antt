use Rattle.apfs_check.proofs.Law.{decided, flawed_refutes}
use Rattle.apfs_check.proofs.Numbers.{reported, one_report}
use Rattle.apfs_check.proofs.Browsed.{browsed}
use Rattle.apfs_check.proofs.Profiles.{strict_plain}
use Rattle.apfs_check.proofs.theorem.well_formed_or_flawed.Goals as goal

pub returns-clause-either : goal.returns-clause-either
returns-clause-either c = decided

pub returns-clause-never_both : goal.returns-clause-never_both
returns-clause-never_both c = flawed_refutes

pub returns-clause-report : goal.returns-clause-report
returns-clause-report c = reported

pub returns-clause-one_report : goal.returns-clause-one_report
returns-clause-one_report c = one_report

pub returns-clause-browsed : goal.returns-clause-browsed
returns-clause-browsed c = browsed

pub returns-clause-strict : goal.returns-clause-strict
returns-clause-strict c = strict_plain
