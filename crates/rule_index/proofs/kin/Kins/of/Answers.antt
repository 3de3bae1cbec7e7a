use Rattle.std.proofs.Common.{ap}
use Rattle.std.specs.Prelude.{map}
use Rattle.rule_index.specs.Kins.{with_id}
use Rattle.rule_index.proofs.KinLooks.{kins-given}
use Rattle.rule_index.proofs.kin.Kins.of.Goals as goal

pub returns : goal.returns
returns c = kins-given c.args.inodes.now (map with_id c.in_ok-inodes.inodes) (ap (map with_id) c.in_ok-inodes.ensures)
