use Rattle.std.proofs.Common.{refl}
use Rattle.vol_view.specs.Features.{volume_features}
use Rattle.vol_view.proofs.LoadSteps.{first-in}
use Rattle.vol_view.proofs.loading.test.Goals as goal

pub returns-in-Some-clause-present : goal.returns-in-Some-clause-present
returns-in-Some-clause-present c = (refl, first-in c.in-Some.feature (volume_features c.args.bytes.now) c.in-Some.ensures)
