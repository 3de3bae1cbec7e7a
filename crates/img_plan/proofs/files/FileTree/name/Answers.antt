use Rattle.std.proofs.Common.{◌∙◌}
use Rattle.img_plan.proofs.files.FileTree.name.Goals as goal

pub returns-in_ok-push-clause-adds : goal.returns-in_ok-push-clause-adds
returns-in_ok-push-clause-adds c = λ short. record {
  names = c.raise.ensures.names;
  inodes = c.raise.ensures.inodes;
  item = c.in_ok-entry.field-0;
  entry = record { key = c.in_ok-entry.ensures.key; value = c.in_ok-entry.ensures.value };
  records = c.raise.ensures.records ∙ c.in_ok-push.ensures.items;
}
