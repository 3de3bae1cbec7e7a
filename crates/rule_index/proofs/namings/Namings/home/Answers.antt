use Rattle.std.proofs.Common.{ℕ, Bool, List, subst}
use Rattle.rule_index.specs.Homes.{IsHomeIn}
use Rattle.rule_index.proofs.Listed.{home-listed}
use Rattle.rule_index.proofs.namings.Namings.home.Goals as goal

pub returns : goal.returns
returns c =
    λ entries had marked.
    home-listed c.args.self.now.0 entries c.args.self.now.1.0 c.args.file c.home.result marked had.counted
    (subst (λ (namings : List Bool × (List (ℕ × ℕ) × List (ℕ × ℕ))). IsHomeIn namings.1.0 c.args.file c.home.result) c.self.view_is c.home.ensures)
