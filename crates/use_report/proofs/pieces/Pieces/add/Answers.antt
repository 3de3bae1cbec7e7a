use Rattle.std.proofs.Common.{refl}
use Rattle.use_report.proofs.Sets.{grows-range}
use Rattle.use_report.proofs.pieces.Pieces.add.Goals as goal

pub returns : goal.returns
returns c = grows-range c.args.self.now _ c.args.first c.args.length c.saturating_add-end.result c.saturating_add-end.ensures refl c.in_ok-push.ensures.items
