-- The blocks are put, or there is no memory for the name.
use Rattle.std.proofs.Common.{[], subst, refl}
use Rattle.img_format.specs.declared.spec.Spec.{Spec}
use Rattle.img_format.specs.Fresh.{fresh}
use Rattle.cmd_texts.specs.Handed.{made}
use Rattle.cmd_lines.specs.Words.{Format}
use Rattle.cmd_lines.specs.Lent.{spec_of}
use Rattle.cmd_lines.specs.Written.{sunk}
use Rattle.cmd_lines.specs.Putting.{IsPut}
use Rattle.cmd_texts.proofs.Endings.{put_ended, no_memory_ended}
use Rattle.cmd_texts.proofs.commands.new_container.write.Goals as goal

pub returns-in-Ok : goal.returns-in-Ok
returns-in-Ok g c =
    let out = sunk g.W.Sink.contents g.W.Sink.faults c.args.out.now c.put_blocks.new.out in
    let P : Spec → Type 0 = λ spec. IsPut (fresh spec) c.put_blocks.result out in
    put_ended (Format (spec_of c.args.wanted)) (made []) (fresh (spec_of c.args.wanted)) c.put_blocks.result out refl (λ image given. refl) (subst P c.in-Ok.ensures c.put_blocks.ensures)

pub returns-in-Err : goal.returns-in-Err
returns-in-Err g c = no_memory_ended (Format (spec_of c.args.wanted)) (made []) (g.W.Sink.contents c.args.out.now) (g.W.Sink.faults c.args.out.now)
