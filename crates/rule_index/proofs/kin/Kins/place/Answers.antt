use Rattle.std.proofs.Common.{ℕ, List, ap, sym, ◌∙◌}
use Rattle.rule_index.specs.declared.kin.Kin.{Kin}
use Rattle.rule_index.specs.Kins.{kin_place}
use Rattle.rule_index.proofs.KinLooks.{place-with}
use Rattle.rule_index.proofs.kin.Kins.place.Goals as goal

pub returns : goal.returns
returns c = c.place.ensures ∙ (sym (place-with c.args.id c.self.inside.inodes) ∙ ap (λ (kins : List (ℕ × Kin)). kin_place kins c.args.id) c.self.view_is)
