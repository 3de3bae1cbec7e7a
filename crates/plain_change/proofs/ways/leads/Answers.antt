use Rattle.std.proofs.Common.{ℕ, sym, subst, arith}
use Rattle.view_rules.specs.Directories.{parent_at, Leads, low}
use Rattle.plain_change.proofs.Looks.{one-step}
use Rattle.plain_change.proofs.ways.leads.Goals as goal

pub returns-then-id-lt16 : goal.returns-then-id-lt16
returns-then-id-lt16 c _ = c.climb.invariant (low c.climb.id (omega arith))

pub climb-preserved : goal.climb-preserved
climb-preserved c next =
    let after = c.args.after.now.index.now.facts.now in
    c.climb.invariant (one-step after c.climb.id c.in-Some.f.now (sym c.in-Some.ensures) (subst (λ (id : ℕ). Leads (parent_at after) id) c.parent-id.ensures next))
