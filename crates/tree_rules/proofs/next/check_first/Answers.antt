use Rattle.std.proofs.Common.{subst}
use Rattle.std.specs.Prelude.{[], Option, IfSome}
use Rattle.view_change.specs.declared.kept_view.KeptView.{KeptView}
use Rattle.view_change.specs.Difference.{IsKeptOf}
use Rattle.tree_rules.proofs.next.check_first.Goals as goal

pub returns-in-Ok-clause-clear : goal.returns-in-Ok-clause-clear
returns-in-Ok-clause-clear g c image told =
    let asked = c.args.asked.now in
    c.in-Ok.ensures.clear image c.args.volume.now [] (subst (λ (o : Option KeptView). IfSome o (IsKeptOf image asked.site.now c.args.volume.now asked.view.now)) c.in-Ok-Some.field-0-is (c.in-Ok-Some.ensures.clear image told))

pub returns-in-Err-check_kept-clause-present : goal.returns-in-Err-check_kept-clause-present
returns-in-Err-check_kept-clause-present g c image told =
    let asked = c.args.asked.now in
    c.in-Err-check_kept.ensures.present image c.args.volume.now (subst (λ (o : Option KeptView). IfSome o (IsKeptOf image asked.site.now c.args.volume.now asked.view.now)) c.in-Ok-Some.field-0-is (c.in-Ok-Some.ensures.clear image told))
