use Rattle.apfs_check.proofs.views.again.Given as goal

abbrev pub invariant-passed : goal.invariant-passed
invariant-passed l = Unit {0}
