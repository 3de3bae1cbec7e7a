-- The lines are put. In a container that is well-formed nothing stops the count but a read that fails and want of memory.
use Rattle.std.proofs.Common.{◌≡◌, ap, refl}
use Rattle.std.specs.Prelude.{Err}
use Rattle.obj_base.specs.declared.stop.Stop.{Stop}
use Rattle.obj_base.specs.declared.stop.Stop.TheVariants.{ReadFault}
use Rattle.use_report.specs.Numbers.{told_of}
use Rattle.use_report.specs.declared.stop.UseFault.{UseFault}
use Rattle.cmd_texts.specs.Commands.Usage.{usage_text}
use Rattle.cmd_texts.specs.Handed.{looked}
use Rattle.cmd_lines.specs.Words.{Usage}
use Rattle.cmd_lines.specs.Written.{sunk}
use Rattle.cmd_texts.proofs.Endings.{put_ended}
use Rattle.cmd_texts.proofs.Usages.{given_of, right_of, usage_stop_ended}
use Rattle.cmd_texts.proofs.commands.usage.write_of.Goals as goal

pub returns-in-Ok-clause-answer : goal.returns-in-Ok-clause-answer
returns-in-Ok-clause-answer g c =
    let seen = c.args.checkpoint.now in
    let volume = c.args.volume.now in
    let told = told_of c.in-Ok.usage in
    put_ended (Usage c.args.named) (looked g.S.BlockSource.bytes g.S.BlockSource.faults c.args.src.now c.usage.new.src) (usage_text volume.snaps told) c.put_usage.result
    (sunk g.W.Sink.contents g.W.Sink.faults c.args.out.now c.put_usage.new.out)
    (volume.snaps, told, refl)
    (λ image given.
    let meant = c.requires.meant image given in (
      c.requires.clean image given,
      record { seen = seen; volume = volume; meant = meant; told = told; numbers = c.in-Ok.ensures.count image given (given_of image c.args.named seen volume meant); same = refl },
    ))
    c.put_usage.ensures

pub returns-in-Err-clause-answer : goal.returns-in-Err-clause-answer
returns-in-Err-clause-answer g c =
    let seen = c.args.checkpoint.now in
    let volume = c.args.volume.now in
    let stop = c.in-Err.stop in
    rw c.stopped_in.ensures
    (usage_stop_ended c.args.named (looked g.S.BlockSource.bytes g.S.BlockSource.faults c.args.src.now c.usage.new.src) volume.head.slot stop
    (g.W.Sink.contents c.args.out.now) (g.W.Sink.faults c.args.out.now)
    (λ image given.
    let meant = c.requires.meant image given in
    c.in-Err.ensures.exact image given (given_of image c.args.named seen volume meant) (right_of image c.args.named seen volume (c.requires.clean image given) meant))
    (λ (e : stop ≡ ReadFault). c.in-Err.ensures.cause (ap (λ (s : Stop UseFault). Err s) e)))
