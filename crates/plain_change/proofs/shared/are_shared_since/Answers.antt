use Rattle.std.proofs.Common.{subst}
use Rattle.std.specs.Prelude.{All}
use Rattle.view_rules.specs.Facts.{Facts}
use Rattle.plain_change.specs.Fellows.{IsSharedStill}
use Rattle.plain_change.proofs.shared.are_shared_since.Goals as goal

pub returns : goal.returns
returns c holds =
    let come = c.args.come.now in
    subst (λ (f : Facts). All (IsSharedStill c.args.after.now.facts.now c.args.old.now.facts.now f) come.entries) c.in_ok-new.ensures (c.are_shared_by.ensures holds)
