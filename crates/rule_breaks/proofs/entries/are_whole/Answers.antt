use Rattle.std.proofs.Common.{sym, ◌∙◌}
use Rattle.std.specs.List.{list_any}
use Rattle.view_rules.specs.Facts.{Facts}
use Rattle.rule_index.specs.Lost.{is_lost}
use Rattle.rule_breaks.proofs.Wholes.{not-so, whole}
use Rattle.rule_breaks.proofs.entries.are_whole.Goals as goal

pub returns : goal.returns
returns c =
    λ yes.
    let facts : Facts = c.args.index.now.facts.now in
    whole facts (not-so (list_any (is_lost facts) facts.entries) (sym c.has_whole_entries.ensures ∙ yes))
