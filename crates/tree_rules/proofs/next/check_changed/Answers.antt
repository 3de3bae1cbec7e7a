use Rattle.std.proofs.Common.{subst}
use Rattle.std.specs.Prelude.{Option, IfSome}
use Rattle.view_rules.specs.Listed.{extents_with_ids}
use Rattle.view_change.specs.declared.changing.Change.{Change}
use Rattle.view_change.specs.Kept.{facts_of}
use Rattle.view_change.specs.Changing.{HasDifference}
use Rattle.tree_rules.proofs.next.check_changed.Goals as goal

pub returns-clause-clear : goal.returns-clause-clear
returns-clause-clear c image volume before is right d =
    c.check_followed.ensures.clear image volume before is right (subst (λ (o : Option Change). IfSome o (HasDifference before (facts_of c.args.changed.after))) c.in-Some.is d)

pub returns-in_default-clause-clear : goal.returns-in_default-clause-clear
returns-in_default-clause-clear c image volume before is right d = c.check_kept.ensures.clear image volume (extents_with_ids before) is
