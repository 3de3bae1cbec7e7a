use Rattle.std.proofs.Common.{◌≡◌, ℕ, Some}
use Rattle.vol_view.specs.Views.{view_named}
use Rattle.use_report.proofs.Adding.{grows-next}
use Rattle.use_report.proofs.holding.add_nodes.Goals as goal

pub oids-preserved : goal.oids-preserved
oids-preserved c =
    let Named : ℕ → ℕ → Type 0 = λ oid block. view_named c.args.site.now c.args.volume.now c.args.view.now oid ≡ Some block in
    grows-next Named c.args.oids.now c.oids.oid-index 0 c.args.held.now c.oids.held c.add_named.new.held c.oids-test.true c.oids.invariant c.in_ok-add_named.ensures
