use Rattle.use_report.proofs.Spread.{own-added}
use Rattle.use_report.proofs.sharing.add_own.Goals as goal

pub returns-clause-added : goal.returns-clause-added
returns-clause-added g c image told _ =
    own-added image c.args.site.now c.args.kept.now c.args.held.now c.add_references.new.held c.add_super.new.held (c.in-Ok.ensures.added image told) c.in_ok-add_super.ensures
