use Rattle.std.proofs.Common.{◌∙◌, ap, ℕ, List}
use Rattle.path_search.specs.Order.{by_name}
use Rattle.path_search.proofs.Listed.{name_map}
use Rattle.path_read.specs.Attributes.{attribute_told}
use Rattle.path_read.proofs.attributes.listed.Goals as goal

pub returns-in-Ok : goal.returns-in-Ok
returns-in-Ok c =
    c.in-Ok.ensures ∙ (ap (by_name (λ (t : List ℕ × ℕ). t.0)) c.in_ok-told.ensures ∙ name_map attribute_told (λ (t : List ℕ × ℕ). t.0) c.args.attributes.now)
