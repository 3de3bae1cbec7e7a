use Rattle.std.proofs.Common.{sym, subst}
use Rattle.std.specs.Prelude.{IfSome}
use Rattle.view_change.specs.declared.kept.Held.{Held}
use Rattle.view_change.specs.declared.changing.Change.{Change}
use Rattle.view_change.specs.Kept.{IsHeld}
use Rattle.view_change.specs.Changing.{facts_before, HasDifference}
use Rattle.view_change.proofs.Underway.{ends-held, ends-so, if-given}
use Rattle.view_change.proofs.changing.Changing.close.Goals as goal

pub returns : goal.returns
returns g c start site image leaves had =
    let shape = g.K.TreeKey.shape in
    let before = facts_before start in
    let now = c.end.new.self in
    let facts = c.whole.new.facts in
    let whole = c.in_ok-known.ensures.facts in
    let held : Held = record { leaves = now.after.leaves; facts = facts; records = now.after.records } in
    let change : Change = record { gone = now.gone; come = now.come } in
    let taken = c.take_changed.ensures in
    record {
      after = subst (IsHeld shape site image before.names leaves) (sym taken.held) (ends-held shape site image leaves start now facts whole (c.in_ok-end.ensures.held start site image leaves had));
      change = subst (λ (h : Held). IfSome c.take_changed.result.change (HasDifference before h.facts)) (sym taken.held)
          (subst (λ o. IfSome o (HasDifference before facts)) (sym taken.change)
          (if-given (HasDifference before facts) now.follows change (λ on. ends-so shape site image leaves start now facts whole (c.in_ok-end.ensures.settled start site image leaves had on) on)));
    }
