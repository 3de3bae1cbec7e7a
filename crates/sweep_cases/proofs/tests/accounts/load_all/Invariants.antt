use Rattle.apfs_model.specs.Kept.{IsKept}
use Rattle.sweep_cases.proofs.tests.accounts.load_all.Given as goal

abbrev pub invariant-each : goal.invariant-each
invariant-each g l = IsKept g.S.BlockSource.bytes g.S.BlockSource.bytes_len g.S.BlockSource.faults l.fn.src l.src
