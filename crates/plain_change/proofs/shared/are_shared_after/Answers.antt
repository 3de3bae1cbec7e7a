use Rattle.std.proofs.Common.{subst}
use Rattle.std.specs.Prelude.{All, IfOk, IsTrue}
use Rattle.view_rules.specs.Facts.{Facts}
use Rattle.plain_change.specs.Fellows.{IsSharedStill}
use Rattle.plain_change.proofs.shared.are_shared_after.Goals as goal

pub returns : goal.returns
returns c =
    let come = c.args.come.now in
    subst (λ (f : Facts). IfOk c.are_shared_since.result (λ shared. IsTrue shared → All (IsSharedStill c.args.after.now.facts.now f come) come.entries)) c.in_ok-old.ensures c.are_shared_since.ensures
