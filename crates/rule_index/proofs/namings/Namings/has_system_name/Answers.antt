use Rattle.std.proofs.Common.{ℕ, Bool, List, subst}
use Rattle.rule_index.specs.Homes.{IsHomeIn}
use Rattle.rule_index.proofs.Listed.{system-listed}
use Rattle.rule_index.proofs.namings.Namings.has_system_name.Goals as goal

pub returns : goal.returns
returns c =
    λ entries had marked.
    system-listed c.args.self.now.0 entries c.args.self.now.1.1 c.args.file c.home.result marked had.system
    (subst (λ (namings : List Bool × (List (ℕ × ℕ) × List (ℕ × ℕ))). IsHomeIn namings.1.1 c.args.file c.home.result) c.self.view_is c.home.ensures)
