-- The check stops the run, or what comes of a container that is well-formed is what it comes to.
use Rattle.std.proofs.Common.{◌∙◌, sym, refl}
use Rattle.cmd_words.specs.Lent.{target_asked}
use Rattle.view_rules.specs.declared.profile.Profile.TheVariants.{Plain}
use Rattle.cmd_texts.specs.Handed.{looked, stored}
use Rattle.cmd_lines.specs.Words.{Export}
use Rattle.cmd_lines.specs.Written.{sunk}
use Rattle.cmd_lines.specs.declared.words.Checks.TheVariants.{First}
use Rattle.cmd_texts.proofs.Checked.{first_stops, flaw_ended}
use Rattle.cmd_texts.proofs.Fillings.{into_same, kept_store, unfilled}
use Rattle.cmd_lines.proofs.Puts.{rose_later}
use Rattle.cmd_texts.proofs.commands.export.write.Goals as goal

pub write_checked-requires : goal.write_checked-requires
write_checked-requires g c = record { clean = λ image given. c.in-Ok.ensures.clear image (sym c.in-Ok.ensures.kept.same_bytes ∙ given) }

pub returns-in-Ok-clause-answer : goal.returns-in-Ok-clause-answer
returns-in-Ok-clause-answer g c =
    let bytes = g.S.BlockSource.bytes in
    let faults = g.S.BlockSource.faults in
    into_same (Export (target_asked c.args.target)) (looked bytes faults c.check_first.new.src c.write_checked.new.src) (looked bytes faults c.args.src.now c.write_checked.new.src)
    (stored g.F.Folder.contents g.F.Folder.faults c.args.folder.now c.write_checked.new.folder) c.write_checked.result (sunk g.W.Sink.contents g.W.Sink.faults c.args.out.now c.write_checked.new.out)
    c.in-Ok.ensures.kept.same_bytes (rose_later (faults c.args.src.now) (faults c.check_first.new.src) (faults c.write_checked.new.src) c.in-Ok.ensures.kept.later)
    c.write_checked.ensures.answer

pub returns-in-Err-clause-answer : goal.returns-in-Err-clause-answer
returns-in-Err-clause-answer g c =
    let command = Export (target_asked c.args.target) in
    let source = looked g.S.BlockSource.bytes g.S.BlockSource.faults c.args.src.now c.check_first.new.src in
    unfilled command source (stored g.F.Folder.contents g.F.Folder.faults c.args.folder.now c.args.folder.now) c.in-Err.stopped (g.W.Sink.contents c.args.out.now) (g.W.Sink.faults c.args.out.now)
    (kept_store g.F.Folder.contents g.F.Folder.faults c.args.folder.now)
    (flaw_ended {T = Unit} g.S.BlockSource.bytes g.S.BlockSource.faults (First Plain) command c.args.src.now c.check_first.new.src c.in-Err.stopped (g.W.Sink.contents c.args.out.now) (g.W.Sink.faults c.args.out.now)
    (first_stops command refl) c.in-Err.ensures.flaw c.in-Err.ensures.looking c.in-Err.ensures.cause)
