use Rattle.std.proofs.Common.{ℕ, length, sym, ap, ◌∙◌}
use Rattle.std.specs.Prelude.{filter}
use Rattle.apfs_model.proofs.BoolTests.{equal-from}
use Rattle.rule_changes.specs.Changes.{is_of}
use Rattle.plain_change.proofs.Looks.{none-long, none-of-run}
use Rattle.plain_change.proofs.removed.has_no_attribute.Goals as goal

pub returns : goal.returns
returns c holds =
    let attributes = c.args.after.now.index.now.facts.now.attributes in
    let id = c.args.f.now.id in
    let run = c.attributes_of.result.now in
    none-of-run (is_of id) attributes
    (ap (λ (file : ℕ). filter (is_of file) attributes) (sym c.id.ensures) ∙ (sym c.attributes_of.ensures ∙ none-long run (equal-from (length run) 0 (sym c.is_empty.ensures ∙ holds))))
