-- What comes of the volume, or what stands in the way to it. In a container that is well-formed nothing does but that the slot holds no volume.
use Rattle.std.proofs.Common.{◌≡◌, ◌∙◌, ap, sym}
use Rattle.std.specs.Prelude.{Err}
use Rattle.cmd_lines.specs.declared.stopped.Stopped.{Stopped}
use Rattle.cmd_lines.specs.declared.stopped.Stopped.TheVariants.{ReadFailed}
use Rattle.cmd_texts.specs.Handed.{looked}
use Rattle.cmd_lines.specs.Words.{Usage}
use Rattle.cmd_lines.specs.Written.{sunk}
use Rattle.cmd_texts.proofs.Endings.{ended_later}
use Rattle.cmd_texts.proofs.Usages.{usage_way_ended}
use Rattle.cmd_texts.proofs.commands.usage.write.Goals as goal

pub write_of-requires-clause-meant : goal.write_of-requires-clause-meant
write_of-requires-clause-meant g c image given = c.in-Ok.ensures.clear image (sym c.in-Ok.ensures.kept.same_bytes ∙ given)

pub returns-in-Ok-clause-answer : goal.returns-in-Ok-clause-answer
returns-in-Ok-clause-answer g c =
    ended_later g.S.BlockSource.bytes g.S.BlockSource.faults (Usage c.args.volume) c.args.src.now c.reach.new.src c.write_of.new.src c.write_of.result (sunk g.W.Sink.contents g.W.Sink.faults c.args.out.now c.write_of.new.out)
    c.in-Ok.ensures.kept.same_bytes c.in-Ok.ensures.kept.later c.write_of.ensures.answer

pub returns-in-Err-clause-answer : goal.returns-in-Err-clause-answer
returns-in-Err-clause-answer g c =
    usage_way_ended c.args.volume (looked g.S.BlockSource.bytes g.S.BlockSource.faults c.args.src.now c.reach.new.src) c.in-Err.stopped
    (g.W.Sink.contents c.args.out.now) (g.W.Sink.faults c.args.out.now) c.requires.clean c.in-Err.ensures.way c.in-Err.ensures.looking
    (λ (e : c.in-Err.stopped ≡ ReadFailed). c.in-Err.ensures.cause (ap (λ (s : Stopped). Err s) e))
