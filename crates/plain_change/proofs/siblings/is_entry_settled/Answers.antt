use Rattle.std.proofs.Common.{ℕ, sym, subst}
use Rattle.plain_change.specs.Fellows.{IsSettled}
use Rattle.plain_change.proofs.Among.{entry-settled, entry-settled-none}
use Rattle.plain_change.proofs.siblings.is_entry_settled.Goals as goal

pub returns-in-Some : goal.returns-in-Some
returns-in-Some c holds =
    let after = c.args.after.now.index.now.facts.now in
    entry-settled after c.args.e.now c.in-Some.sibling (sym c.in-Some.ensures) (subst (λ (file : ℕ). IsSettled after file c.in-Some.sibling) c.file_id.ensures (c.is_settled.ensures holds))

pub returns-in-None : goal.returns-in-None
returns-in-None c holds = entry-settled-none c.args.after.now.index.now.facts.now c.args.e.now (sym c.in-None.ensures)
