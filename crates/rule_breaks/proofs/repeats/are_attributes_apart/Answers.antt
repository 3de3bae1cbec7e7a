use Rattle.std.proofs.Common.{◌∙◌, ap, subst, List}
use Rattle.fs_record.specs.Attributes.{Attribute}
use Rattle.fs_record.specs.Facts.{Fact}
use Rattle.view_rules.specs.Facts.{Facts}
use Rattle.rule_index.specs.Ids.{CountsIds}
use Rattle.rule_index.specs.Digests.{attribute_digest}
use Rattle.rule_breaks.proofs.NamesApart.{attributes_apart}
use Rattle.rule_breaks.proofs.repeats.are_attributes_apart.Goals as goal

pub returns : goal.returns
returns c apart =
    attributes_apart c.args.facts.now c.in_ok-digests.digests
    (subst (λ (attributes : List (Fact Attribute)). CountsIds attribute_digest attributes c.in_ok-digests.digests) (c.deref.ensures.value ∙ ap (λ (f : Facts). f.attributes) c.facts.view_is) c.in_ok-digests.ensures)
    (c.are_distinct.ensures.distinct apart)
