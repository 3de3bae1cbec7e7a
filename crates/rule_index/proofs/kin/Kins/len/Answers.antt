use Rattle.std.proofs.Common.{ℕ, List, length, ap, sym, ◌∙◌}
use Rattle.rule_index.specs.declared.kin.Kin.{Kin}
use Rattle.rule_index.proofs.KinLooks.{long-with}
use Rattle.rule_index.proofs.kin.Kins.len.Goals as goal

pub returns : goal.returns
returns c = c.len.ensures ∙ (sym (long-with c.self.inside.inodes) ∙ ap (λ (kins : List (ℕ × Kin)). length kins) c.self.view_is)
