use Rattle.std.proofs.Common.{take}
use Rattle.use_report.specs.Counted.{Grows}
use Rattle.use_report.specs.Files.{IsNamedBlock}
use Rattle.use_report.proofs.holding.add_nodes.Given as goal

abbrev pub invariant-oids : goal.invariant-oids
invariant-oids l = Grows l.fn.held l.held (IsNamedBlock l.site l.volume l.view (take l.oid-index l.oids))
