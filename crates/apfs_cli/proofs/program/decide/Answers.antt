-- The words are those of the order, or no line.
use Rattle.std.proofs.Common.{◌≡◌, ◌∙◌, ap, sym, refl}
use Rattle.std.specs.Prelude.{map, option_map, None, Some}
use Rattle.std.specs.String.{string_bytes}
use Rattle.cmd_words.specs.Lent.{target_asked}
use Rattle.cmd_texts.specs.Handed.{looked_at, stored_in}
use Rattle.cmd_lines.specs.Words.{Export, Format, Gen, asked_of, line_in, plain_line}
use Rattle.cmd_lines.specs.Lent.{line_said, said, spec_of}
use Rattle.cmd_lines.specs.Written.{sunk}
use Rattle.cmd_lines.proofs.Orders.{format_valid, gen_few}
use Rattle.apfs_cli.proofs.Plugs.{come_no_memory, come_wrong, come_made, come_new, come_with, kept_folder, kept_given, none_taken}
use Rattle.apfs_cli.proofs.program.decide.Goals as goal

pub returns-in-Err-clause-answer : goal.returns-in-Err-clause-answer
returns-in-Err-clause-answer g c =
    come_no_memory (asked_of (map string_bytes c.args.words.now)) (looked_at g.S.BlockSource.bytes g.S.BlockSource.faults c.args.image.now c.args.image.now) (stored_in g.F.Folder.contents g.F.Folder.faults c.args.folder.now c.args.folder.now)
    (kept_folder g.F.Folder.contents g.F.Folder.faults c.args.folder.now) (g.W.Sink.contents c.args.out.now) (g.W.Sink.faults c.args.out.now)

pub returns-in-Err-clause-given : goal.returns-in-Err-clause-given
returns-in-Err-clause-given g c = kept_given c.args.folder.now

pub returns-in-None-clause-answer : goal.returns-in-None-clause-answer
returns-in-None-clause-answer g c =
    let same : None ≡ asked_of (map string_bytes c.args.words.now) = sym (ap (λ order. option_map line_said order) c.in-None.is) ∙ c.in-Ok.ensures in
    come_wrong (asked_of (map string_bytes c.args.words.now)) (looked_at g.S.BlockSource.bytes g.S.BlockSource.faults c.args.image.now c.args.image.now) (stored_in g.F.Folder.contents g.F.Folder.faults c.args.folder.now c.args.folder.now)
    (kept_folder g.F.Folder.contents g.F.Folder.faults c.args.folder.now) (g.W.Sink.contents c.args.out.now) (g.W.Sink.faults c.args.out.now) (sym same)

pub returns-in-None-clause-given : goal.returns-in-None-clause-given
returns-in-None-clause-given g c = kept_given c.args.folder.now

pub returns-in-On-clause-answer : goal.returns-in-On-clause-answer
returns-in-On-clause-answer g c =
    let same : Some (line_in c.in-On.in_partition (said c.in-On.command)) ≡ asked_of (map string_bytes c.args.words.now) =
    ap (λ order. Some (line_said order)) (sym c.in-On.is) ∙ sym (ap (λ order. option_map line_said order) c.in-Some.is) ∙ c.in-Ok.ensures in
    rw (← same)
    (come_with (line_in c.in-On.in_partition (said c.in-On.command)) (looked_at g.S.BlockSource.bytes g.S.BlockSource.faults c.args.image.now c.on_opened.new.image) (stored_in g.F.Folder.contents g.F.Folder.faults c.args.folder.now c.args.folder.now) c.on_opened.result
    (sunk g.W.Sink.contents g.W.Sink.faults c.args.out.now c.on_opened.new.out) (none_taken c.in-On.command) (kept_folder g.F.Folder.contents g.F.Folder.faults c.args.folder.now) c.on_opened.ensures.answer)

pub returns-in-On-clause-given : goal.returns-in-On-clause-given
returns-in-On-clause-given g c = kept_given c.args.folder.now

pub returns-in-Export-clause-answer : goal.returns-in-Export-clause-answer
returns-in-Export-clause-answer g c =
    let same : Some (line_in c.in-Export.in_partition (Export (target_asked c.in-Export.target))) ≡ asked_of (map string_bytes c.args.words.now) =
    ap (λ order. Some (line_said order)) (sym c.in-Export.is) ∙ sym (ap (λ order. option_map line_said order) c.in-Some.is) ∙ c.in-Ok.ensures in
    rw (← same) c.fill_opened.ensures.answer

pub write-requires : goal.write-requires
write-requires g c =
    let same : Some (plain_line (Gen c.in-Gen.files)) ≡ asked_of (map string_bytes c.args.words.now) =
    ap (λ order. Some (line_said order)) (sym c.in-Gen.is) ∙ sym (ap (λ order. option_map line_said order) c.in-Some.is) ∙ c.in-Ok.ensures in
    gen_few (map string_bytes c.args.words.now) c.in-Gen.files same

pub returns-in-Gen-clause-answer : goal.returns-in-Gen-clause-answer
returns-in-Gen-clause-answer g c =
    let same : Some (plain_line (Gen c.in-Gen.files)) ≡ asked_of (map string_bytes c.args.words.now) =
    ap (λ order. Some (line_said order)) (sym c.in-Gen.is) ∙ sym (ap (λ order. option_map line_said order) c.in-Some.is) ∙ c.in-Ok.ensures in
    let image = looked_at g.S.BlockSource.bytes g.S.BlockSource.faults c.args.image.now c.args.image.now in
    let out = sunk g.W.Sink.contents g.W.Sink.faults c.args.out.now c.write.new.out in
    rw (← same)
    (come_with (plain_line (Gen c.in-Gen.files)) image (stored_in g.F.Folder.contents g.F.Folder.faults c.args.folder.now c.args.folder.now) c.write.result out refl (kept_folder g.F.Folder.contents g.F.Folder.faults c.args.folder.now)
    (come_made c.in-Gen.files _ image c.write.result out c.write.ensures))

pub returns-in-Gen-clause-given : goal.returns-in-Gen-clause-given
returns-in-Gen-clause-given g c = kept_given c.args.folder.now

pub write-requires-in-Format : goal.write-requires-in-Format
write-requires-in-Format g c =
    let same : Some (plain_line (Format (spec_of c.in-Format.wanted))) ≡ asked_of (map string_bytes c.args.words.now) =
    ap (λ order. Some (line_said order)) (sym c.in-Format.is) ∙ sym (ap (λ order. option_map line_said order) c.in-Some.is) ∙ c.in-Ok.ensures in
    format_valid (map string_bytes c.args.words.now) (spec_of c.in-Format.wanted) same

pub returns-in-Format-clause-answer : goal.returns-in-Format-clause-answer
returns-in-Format-clause-answer g c =
    let same : Some (plain_line (Format (spec_of c.in-Format.wanted))) ≡ asked_of (map string_bytes c.args.words.now) =
    ap (λ order. Some (line_said order)) (sym c.in-Format.is) ∙ sym (ap (λ order. option_map line_said order) c.in-Some.is) ∙ c.in-Ok.ensures in
    let image = looked_at g.S.BlockSource.bytes g.S.BlockSource.faults c.args.image.now c.args.image.now in
    let out = sunk g.W.Sink.contents g.W.Sink.faults c.args.out.now c.write-in-Format.new.out in
    rw (← same)
    (come_with (plain_line (Format (spec_of c.in-Format.wanted))) image (stored_in g.F.Folder.contents g.F.Folder.faults c.args.folder.now c.args.folder.now) c.write-in-Format.result out refl (kept_folder g.F.Folder.contents g.F.Folder.faults c.args.folder.now)
    (come_new (spec_of c.in-Format.wanted) image c.write-in-Format.result out c.write-in-Format.ensures))

pub returns-in-Format-clause-given : goal.returns-in-Format-clause-given
returns-in-Format-clause-given g c = kept_given c.args.folder.now
