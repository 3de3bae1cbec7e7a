use Rattle.std.proofs.Common.{ap, ◌∙◌}
use Rattle.std.specs.Prelude.{filter, ◌==◌}
use Rattle.std.specs.List.{list_any}
use Rattle.fs_record.specs.Attributes.{Attribute}
use Rattle.fs_record.specs.Facts.{Fact}
use Rattle.rule_index.specs.Ids.{is_target}
use Rattle.rule_index.proofs.Listed.{target-run}
use Rattle.rule_index.proofs.near.Near.has_target.Goals as goal

pub returns : goal.returns
returns c =
    let id = c.args.id in
    c.give_target.ensures
    ∙ (ap (list_any is_target) (c.run.ensures ∙ ap (filter (λ (a : Fact Attribute). a.id == id)) c.args.self.now.attributes_right) ∙ target-run c.args.self.now.facts.now.attributes id)
