use Rattle.std.proofs.Common.{ap, sym}
use Rattle.rule_breaks.specs.declared.faults.entries.EntryRule.{EntryRule}
use Rattle.rule_breaks.specs.ByEntry.{fault}
use Rattle.rule_breaks.proofs.faults.entries.EntryRule.fault.Goals as goal

pub returns-in-File : goal.returns-in-File
returns-in-File c = ap (λ (rule : EntryRule). fault rule c.args.at) (sym c.in-File.is)
