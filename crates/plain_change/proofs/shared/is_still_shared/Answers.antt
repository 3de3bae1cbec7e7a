use Rattle.std.proofs.Common.{ℕ, inr, sym, ap, ◌∙◌}
use Rattle.plain_change.specs.Fellows.{keeps_sharing}
use Rattle.plain_change.proofs.shared.is_still_shared.Goals as goal

pub returns : goal.returns
returns c holds =
    inr (ap (λ (file : ℕ). keeps_sharing c.args.after.now.facts.now c.args.old.now.facts.now c.args.new.now.facts.now file) (sym c.file_id.ensures) ∙ (sym c.keeps_sharing.ensures ∙ holds))
