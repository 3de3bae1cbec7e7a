use Rattle.std.proofs.Common.{◌∙◌}
use Rattle.rule_index.proofs.CountingKeys.{among-keys}
use Rattle.rule_index.proofs.key_counts.is_among.Goals as goal

pub returns : goal.returns
returns c = c.is_ok.ensures.value ∙ among-keys c.args.keys.now c.args.key.now c.binary_search.result c.requires c.binary_search.ensures.bound c.binary_search.ensures.position
