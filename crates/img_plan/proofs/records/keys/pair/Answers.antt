use Rattle.std.proofs.Common.{◌∙◌, sym}
use Rattle.img_plan.specs.Records.{IsPairKey}
use Rattle.img_plan.proofs.Kept.{written_back}
use Rattle.img_plan.proofs.records.keys.pair.Goals as goal

pub returns : goal.returns
returns c = written_back (IsPairKey c.args.first c.args.second) _ _ _ (c.put_pair.ensures.len ∙ sym c.in_ok-pair.ensures.len) c.put_pair.ensures
