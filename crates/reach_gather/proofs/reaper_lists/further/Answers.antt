use Rattle.std.proofs.Common.{subst}
use Rattle.reach_rules.specs.declared.naming.LookUp.TheVariants.{ByMapping}
use Rattle.reach_rules.specs.Naming.{naming}
use Rattle.reach_gather.specs.Namings.{IsPlainNaming}
use Rattle.reach_gather.specs.Reaped.{expected_at}
use Rattle.reach_gather.proofs.reaper_lists.further.Goals as goal

pub returns-then-first-clause-exact : goal.returns-then-first-clause-exact
returns-then-first-clause-exact c image namer at plain = c.head.ensures.exact image namer at (subst (λ b. IsPlainNaming image c.args.cp.now (naming namer at (expected_at b) ByMapping c.args.oid)) c.if-first.true plain)

pub returns-else-first-clause-exact : goal.returns-else-first-clause-exact
returns-else-first-clause-exact c image namer at plain = c.after.ensures.exact image namer at (subst (λ b. IsPlainNaming image c.args.cp.now (naming namer at (expected_at b) ByMapping c.args.oid)) c.if-first.false plain)
