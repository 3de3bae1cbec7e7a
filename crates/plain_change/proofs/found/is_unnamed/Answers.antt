use Rattle.std.proofs.Common.{ℕ, sym, ap, ◌∙◌}
use Rattle.std.specs.List.{list_any}
use Rattle.apfs_model.proofs.BoolTests.{not-true}
use Rattle.rule_changes.specs.Changes.{is_name_of}
use Rattle.plain_change.proofs.Among.{unnamed}
use Rattle.plain_change.proofs.found.is_unnamed.Goals as goal

pub returns : goal.returns
returns c holds =
    let after = c.args.after.now.index.now.facts.now in
    unnamed after c.args.l.now (ap (λ (id : ℕ). list_any (is_name_of id) after.entries) (sym c.file.ensures) ∙ (sym c.is_named.ensures ∙ not-true c.is_named.result holds))
