use Rattle.std.proofs.Common.{ℕ, ap, ◌∙◌}
use Rattle.std.specs.Prelude.{count_by, filter}
use Rattle.view_rules.specs.Names.{is_attribute_at, is_attribute_repeated}
use Rattle.rule_changes.specs.Changes.{is_of}
use Rattle.plain_change.proofs.Looks.{not-twice, attribute-fellows}
use Rattle.plain_change.proofs.repeats.is_attribute_alone.Goals as goal

pub returns : goal.returns
unfolding is_attribute_repeated
returns c holds =
    let after = c.args.after.now.index.now.facts.now in
    let a = c.args.a.now in
    not-twice (count_by (is_attribute_at a.id a.what.name) c.attributes_of.result.now) (count_by (is_attribute_at a.id a.what.name) after.attributes) (c.is_attribute_once.ensures holds)
    (ap (count_by (is_attribute_at a.id a.what.name)) c.attributes_of.ensures
    ∙ (ap (λ (id : ℕ). count_by (is_attribute_at a.id a.what.name) (filter (is_of id) after.attributes)) c.id.ensures ∙ attribute-fellows after a))
