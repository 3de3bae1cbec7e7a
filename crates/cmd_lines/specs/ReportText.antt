-- What the command `check` writes of a well-formed container.
use Rattle.std.specs.Prelude.{ℕ, List, length, codes}
use Rattle.std.specs.Fmt.{decimal, signed_decimal}
use Rattle.std.specs.List.{flat_map}
use Rattle.apfs_model.specs.Counts.{given}
use Rattle.view_rules.specs.declared.notes.Note.{Note}
use Rattle.view_rules.specs.declared.notes.Note.TheVariants.{Skipped, Hash, Unreached, Unnamed, Count}
use Rattle.apfs_check.specs.Report.{Told}
use Rattle.cmd_lines.specs.Texts.{◌▹◌}
use Rattle.cmd_lines.specs.FaultTexts.{id_text, name_text, run_text, count_text}

-- a candidate is newer than the newest valid checkpoint
abbrev pub skipped_text : ℕ → ℕ → List ℕ
skipped_text index xid = codes "note skipped index " ▹ decimal index ▹ codes " xid " ▹ decimal xid

-- the text of a note
abbrev pub note_text : Note → List ℕ
note_text (Skipped index xid) = skipped_text index xid
note_text (Hash at) = name_text (codes "note hash") at
note_text (Unreached slot block length) = run_text (codes "note unreached") slot block length
note_text (Unnamed at) = id_text (codes "note unnamed") at
note_text (Count slot block stored streams) = count_text (codes "note count") slot block (signed_decimal stored) streams

-- the line of a note
abbrev pub note_line : Note → List ℕ
note_line note = note_text note ▹ codes "\n"

-- what there is of a container: its newest transaction, and the numbers of its volumes, views, named objects and records
abbrev pub things_text : Told → List ℕ
things_text told =
    codes "xid " ▹ decimal told.xid ▹ codes "\nvolumes " ▹ decimal told.volumes ▹ codes "\nviews " ▹ decimal told.views
    ▹ codes "\nobjects " ▹ decimal told.objects ▹ codes "\nrecords " ▹ decimal told.records ▹ codes "\n"

-- its blocks: those that are owned, and the rest
abbrev pub blocks_text : Told → List ℕ
blocks_text told = codes "used " ▹ decimal told.used ▹ codes "\nfree " ▹ decimal told.free ▹ codes "\n"

-- the nine lines of a report
abbrev pub head_text : Told → List ℕ
head_text told =
    codes "clean\n" ▹ things_text told ▹ blocks_text told
    ▹ codes "notes " ▹ decimal (given (length told.notes)) ▹ codes "\n"

-- the nine lines of a report, and one for each note
abbrev pub report_text : Told → List ℕ
report_text told = head_text told ▹ flat_map note_line told.notes
