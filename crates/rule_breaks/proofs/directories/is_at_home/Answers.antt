use Rattle.std.proofs.Common.{ℕ, Some, None, ap, subst, ◌∙◌}
use Rattle.std.specs.Prelude.{◌==◌}
use Rattle.rule_index.specs.Homes.{IsOnlyHome}
use Rattle.rule_index.proofs.HomeLooks.{one_home, no_home_alone}
use Rattle.rule_breaks.proofs.directories.is_at_home.Goals as goal

pub returns-in-Some : goal.returns-in-Some
returns-in-Some c =
    let facts = c.args.index.now.facts.now in
    let id = c.args.f.now.id in
    let directory = c.in-Some.directory in
    let only : IsOnlyHome facts.entries id (Some directory) = subst (λ (n : ℕ). IsOnlyHome facts.entries n (Some directory)) c.id.ensures c.in-Some.ensures in
    ap (λ n. directory == n) c.parent.ensures ∙ one_home facts id directory c.args.f.now.what.parent only.0 only.1

pub returns-in-None : goal.returns-in-None
returns-in-None c =
    let facts = c.args.index.now.facts.now in
    no_home_alone facts c.args.f.now.id c.args.f.now.what.parent (subst (λ (n : ℕ). IsOnlyHome facts.entries n None) c.id.ensures c.in-None.ensures)
