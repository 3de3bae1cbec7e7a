use Rattle.std.proofs.Common.{ℕ, sym, subst, arith}
use Rattle.view_rules.specs.Facts.{names_file}
use Rattle.rule_index.specs.Homes.{IsHomeOf}
use Rattle.rule_index.proofs.HomeCounts.{find-none}
use Rattle.rule_index.proofs.Listed.{home-found}
use Rattle.rule_index.proofs.all.home.Goals as goal

pub returns-in-Some : goal.returns-in-Some
returns-in-Some c =
    let entries = c.args.entries.now in
    let file = c.args.file in
    let n = c.count.result in
    subst (λ (d : ℕ). IsHomeOf entries file (record { entries = n; directory = d })) (sym c.id.ensures) (home-found entries file n c.in-Some.e.now (sym c.in-Some.ensures) c.count.ensures)

pub returns-in-None : goal.returns-in-None
returns-in-None c = (sym (find-none (names_file c.args.file) c.args.entries.now (sym c.in-None.ensures)), λ above. absurd (omega arith))
