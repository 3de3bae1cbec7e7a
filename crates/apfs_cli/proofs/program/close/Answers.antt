-- Where the text was written nothing is said.
use Rattle.std.specs.Prelude.{Result}
use Rattle.std.proofs.Common.{inl, refl, sym, subst}
use Rattle.cmd_lines.specs.Stops.{outcome_of}
use Rattle.cmd_lines.specs.Written.{sunk}
use Rattle.cmd_lines.specs.Putting.{IsClosed}
use Rattle.cmd_lines.specs.declared.stopped.Stopped.{Stopped}
use Rattle.cmd_lines.proofs.Puts.{wrote_nothing}
use Rattle.apfs_cli.proofs.program.close.Goals as goal

pub returns-in-Ok : goal.returns-in-Ok
returns-in-Ok g c part =
    let err = sunk g.E.Sink.contents g.E.Sink.faults c.args.err.now c.args.err.now in
    let P : Result Unit Stopped → Type 0 = λ ended. IsClosed 0 (outcome_of ended part) err in
    subst P (sym c.in-Ok.is) (inl (inl (record { status_is = refl; put = wrote_nothing (g.E.Sink.contents c.args.err.now) })))
