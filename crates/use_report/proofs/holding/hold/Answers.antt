use Rattle.std.proofs.Common.{◌∙◌}
use Rattle.use_report.proofs.Filled.{view-held}
use Rattle.use_report.proofs.holding.hold.Goals as goal

pub returns-clause-held : goal.returns-clause-held
returns-clause-held g c image told =
    view-held image c.args.site.now c.args.volume.now c.args.kept.now c.args.held.now c.add_files.new.held c.add_references.new.held c.add_metadata.new.held c.add_super.new.held
    (c.in-Ok.ensures.added image told) (c.in-Ok-add_references.ensures.added image (c.add_files.ensures.kept.same_bytes ∙ told)) c.in_ok-add_metadata.ensures c.in_ok-add_super.ensures
