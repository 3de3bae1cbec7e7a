use Rattle.std.proofs.Common.{take}
use Rattle.rule_index.specs.Namings.{is_counted, is_system_one, AreListed}
use Rattle.rule_index.proofs.namings.listed.Given as goal

abbrev pub invariant-loop-e : goal.invariant-loop-e
invariant-loop-e l = record { counted : AreListed (is_counted l.marks) (take l.e-index l.entries) l.counted.items; system : AreListed (is_system_one l.marks) (take l.e-index l.entries) l.system.items }
