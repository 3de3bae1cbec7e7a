use Rattle.std.proofs.Common.{◌∙◌}
use Rattle.std.proofs.lemmas.List.Sorted.{searched}
use Rattle.rule_index.specs.Ids.{count_in}
use Rattle.id_lists.proofs.InOrder.{among-count}
use Rattle.rule_index.proofs.counts.is_among.Goals as goal

pub returns : goal.returns
unfolding count_in
returns c =
    c.is_ok.ensures.value ∙ among-count c.args.ids.now c.args.id c.binary_search.result (searched c.args.ids.now c.args.id c.binary_search.result c.binary_search.ensures.position (λ i j le low. c.requires i j 0 le low))
