use Rattle.std.proofs.Common.{Some}
use Rattle.view_sweep.proofs.Records.{record_found}
use Rattle.view_sweep.proofs.looking.find.Goals as goal

pub returns : goal.returns
returns c = record_found c.args.omap.now.records c.args.oid c.args.xid (Some c.in_ok-place.place) c.in_ok-place.ensures
