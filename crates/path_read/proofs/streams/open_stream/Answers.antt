use Rattle.std.proofs.Common.{sym, ◌∙◌}
use Rattle.path_read.proofs.StreamFaults.{stream_there, stream_refused}
use Rattle.path_read.proofs.streams.open_stream.Goals as goal

pub returns-in-Some-clause-present : goal.returns-in-Some-clause-present
returns-in-Some-clause-present g c = λ image told.
    stream_there image c.args.site.now c.args.volume.now c.args.view.now c.args.id c.in-Err.stop c.in-Some.stop (sym c.in-Some.ensures) (c.in-Err.ensures.present image told)

pub returns-in-None-clause-present : goal.returns-in-None-clause-present
returns-in-None-clause-present g c = λ image told.
    c.refused.ensures.present image (c.in-Err.ensures.kept.same_bytes ∙ told)
    (stream_refused image c.args.site.now c.args.volume.now c.args.view.now c.args.id c.in-Err.stop (sym c.in-None.ensures) (c.in-Err.ensures.present image told))
