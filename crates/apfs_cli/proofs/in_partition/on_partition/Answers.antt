-- What a command came to over the partition, or what stops the search for one.
use Rattle.std.proofs.Common.{◌≡◌, ◌≤◌, ap}
use Rattle.std.specs.Prelude.{Err}
use Rattle.img_gpt.specs.declared.part.GptStop.{GptStop}
use Rattle.img_gpt.specs.declared.part.GptStop.TheVariants.{ReadFault}
use Rattle.cmd_texts.specs.Handed.{looked, part_looked}
use Rattle.cmd_lines.specs.Lent.{said}
use Rattle.cmd_lines.specs.Written.{sunk}
use Rattle.cmd_texts.proofs.Endings.{ended_same}
use Rattle.apfs_cli.proofs.Plugs.{come_part, come_without, none_taken}
use Rattle.cmd_texts.proofs.HandedIn.{handed_in}
use Rattle.cmd_lines.proofs.Puts.{rose_later}
use Rattle.apfs_cli.proofs.in_partition.on_partition.Goals as goal

pub returns-in-Ok-clause-answer : goal.returns-in-Ok-clause-answer
returns-in-Ok-clause-answer g c =
    let bytes = g.S.BlockSource.bytes in
    let faults = g.S.BlockSource.faults in
    let part = c.in-Ok.part in
    let mid = c.find_part.new.src in
    let new = c.on_slice.result.1 in
    let later : faults c.args.src ≤ faults mid = c.in-Ok.ensures.kept.later in
    let out = sunk g.W.Sink.contents g.W.Sink.faults c.args.out.now c.on_slice.new.out in
    come_part (said c.args.command) (handed_in c.args.command) (none_taken c.args.command) (looked bytes faults c.args.src new) part c.on_slice.result.0 out c.in-Ok.ensures.found
    (ended_same (said c.args.command) (part_looked part (looked bytes faults mid new)) (part_looked part (looked bytes faults c.args.src new)) c.on_slice.result.0 out
    (ap (λ told. (part_looked part (record { bytes = told; old_faults = 0; new_faults = 0 })).bytes) c.in-Ok.ensures.kept.same_bytes)
    (rose_later (faults c.args.src) (faults mid) (faults new) later)
    c.on_slice.ensures.answer)

pub returns-in-Err-clause-answer : goal.returns-in-Err-clause-answer
returns-in-Err-clause-answer g c =
    let stop = c.in-Err.stop in
    rw c.stopped_without.ensures
    (come_without (said c.args.command) (handed_in c.args.command) (none_taken c.args.command) (looked g.S.BlockSource.bytes g.S.BlockSource.faults c.args.src c.find_part.new.src) stop (g.W.Sink.contents c.args.out.now) (g.W.Sink.faults c.args.out.now)
    c.in-Err.ensures.fault
    (λ (e : stop ≡ ReadFault). c.in-Err.ensures.cause (ap (λ (s : GptStop). Err s) e)))
