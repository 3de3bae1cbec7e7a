use Rattle.std.proofs.Common.{◌≡◌, ℕ, [], List, ap, sym, ◌∙◌}
use Rattle.rule_index.specs.declared.homes.Told.{Told}
use Rattle.rule_index.proofs.HomeCounts.{single-entries}
use Rattle.rule_index.proofs.homes.Homes.are_single.Goals as goal

pub returns : goal.returns
returns c =
    λ so kins entries had file.
    let homes = c.args.self.now in
    let none : homes.1 ≡ [] = ap (λ (h : List Told × List (ℕ × ℕ)). h.1) (sym c.self.view_is) ∙ c.is_empty.ensures so in
    single-entries kins entries homes none had file
