use Rattle.std.proofs.Common.{refl, sym, subst}
use Rattle.view_sweep.specs.Runs.{AreRising}
use Rattle.view_sweep.proofs.once.clash_of.Goals as goal

pub shared-requires : goal.shared-requires
shared-requires c = subst AreRising (sym c.runs_of.ensures) (c.requires.sets _ c.requires.other).rising

pub returns-then-is_same-clause-none : goal.returns-then-is_same-clause-none
returns-then-is_same-clause-none c = λ none p low a b. c.if-is_same.ensures.same refl
