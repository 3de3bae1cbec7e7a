use Rattle.std.proofs.Common.{ℕ, List, get_or, subst, sym}
use Rattle.rule_index.specs.Homes.{IsHomeIn}
use Rattle.rule_index.proofs.HomeCounts.{pairs-none, pairs-some}
use Rattle.rule_index.proofs.pairs.Pairs.home.Goals as goal

pub returns-in_default : goal.returns-in_default
returns-in_default c = subst (λ (pairs : List (ℕ × ℕ)). IsHomeIn pairs c.args.file (record { entries = 0; directory = 0 })) c.self.view_is (pairs-none c.self.inside.list c.args.file c.in_default.ensures)

pub returns : goal.returns
returns c =
    subst (λ (pairs : List (ℕ × ℕ)). IsHomeIn pairs c.args.file (record { entries = c.count.result; directory = (get_or c.as_slice.result.now c.in-Some.at (0, 0)).1 })) c.self.view_is
    (subst (λ (pairs : List (ℕ × ℕ)). IsHomeIn c.self.inside.list c.args.file (record { entries = c.count.result; directory = (get_or pairs c.in-Some.at (0, 0)).1 })) (sym c.as_slice.ensures)
    (pairs-some c.self.inside.list c.args.file c.in-Some.at c.count.result c.in-Some.ensures c.count.ensures))
