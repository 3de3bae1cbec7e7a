-- What words ask for, what a run was handed, how it may end, and what is said of small runs; then some texts piece by piece.
use Rattle.std.proofs.Common.{◌≡◌, ℕ, List, [], ◌∷◌, ◌++◌, map, true, false, Option, Some, None, inl, inr, refl, ap, subst, arith}
use Rattle.std.specs.Prelude.{negsuc, codes, option_map}
use Rattle.std.specs.Fmt.{decimal, digits, signed_decimal}
use Rattle.std.specs.Str.{is_utf8, chars}
use Rattle.std.specs.Char.{encode_utf8}
use Rattle.uuid.specs.Text.{by_index}
use Rattle.obj_base.specs.declared.stop.Feature.TheVariants.{Encrypted}
use Rattle.obj_base.specs.declared.stop.Within.TheVariants as withins
use Rattle.blk_source.specs.declared.source.Opened.TheVariants.{Absent, Image}
use Rattle.blk_folder.specs.declared.folder.Given.TheVariants.{Nothing, Into}
use Rattle.blk_folder.specs.Items.{Item, directory_at, file_at, IsFront}
use Rattle.blk_folder.specs.Put.{Filled}
use Rattle.apfs_model.specs.Sink.{Wrote}
use Rattle.img_gpt.specs.Table.{has_header, sector_of}
use Rattle.view_rules.specs.declared.profile.Profile.TheVariants.{Plain, Strict}
use Rattle.apfs_check.specs.declared.fault.Fault.TheVariants.{BlockZero, UnusedMapping, NoInode, DataCount}
use Rattle.apfs_check.specs.Present.{IsPresent}
use Rattle.apfs_check.specs.WellFormed.{IsWellFormed}
use Rattle.apfs_check.proofs.Examples.{no_bytes_present, no_bytes_flawed}
use Rattle.view_rules.specs.declared.notes.Note.TheVariants.{Skipped}
use Rattle.path_search.specs.declared.answer.Answer.{Answer}
use Rattle.path_search.specs.declared.answer.Answer.TheVariants.{NotFound, NoVolume}
use Rattle.tree_export.proofs.Examples.{both_stay}
use Rattle.img_format.specs.declared.spec.Spec.{Spec}
use Rattle.img_format.specs.Fresh.{fresh}
use Rattle.cmd_words.specs.Asked.{AskedTarget}
use Rattle.cmd_lines.specs.declared.words.Checks.TheVariants.{Quick}
use Rattle.cmd_lines.specs.declared.named.Named.TheVariants.{InContainer, InUsage, NoTable}
use Rattle.cmd_lines.specs.Words.{Asked, Line, asked_of, asked_by, after_gpt, plain_of, new_of, command_of, line_in, plain_line, Check, Ls, Info, Snapshots, Export, Gen, Format}
use Rattle.cmd_texts.specs.ByCommand.{HandedIn, Made, Nowhere, from_of, lead_of, IsText, IsNamed, IsFeature, IsAnswer, AreItems, profile_of, HasResult}
use Rattle.cmd_texts.specs.Meant.{HasNoVolume}
use Rattle.cmd_texts.specs.Handed.{Looked, looked, looked_at, made, Stored, stored, stored_in, StoreFailed, IsGivenKept}
use Rattle.cmd_lines.specs.Outcome.{status_of, text_of, line_of, Written, Faulty, WrongWords, WriteFailed, Refused, Answered, NoImage}
use Rattle.cmd_lines.specs.Written.{Sunk, sunk, Failed, Ends}
use Rattle.cmd_texts.specs.Says.{StopsAt, IsOnlyAnswer, AnswersAt, BeginsText, IsSame, IsUntouched, LacksImage, LacksFolder, HasAll, IsTableFault, PutFailed, Ran, HasNoImage, HasNoFolder, HasNoPart, Says, wrong_words, ran, CameTo, IsOpenedKept}
use Rattle.apfs_cli.specs.Rows.{BothWrote, HasText, RanOrNoPart, RanNaming, NamesFault, RanRefusing, NamesFeature, NamesAnswer, SaysReadFailed, IsSomePart, SaysOutOfMemory, HasFailedPut, IsAsked, HasDefinedText, HasDefinedItems, HasDefinedAnswer, HasSound, HasUnsound, HasTableFault, IsExactly, IsOrFree, IsCleanOrFree, IsFoundOrFree, HandedFailed, IsUndisturbed, IsCompleted, IsNewOrFree, HasMore, HasFrontMore, IsFilledWith, HasSafeMore, lead_in, IsRefusal, IsTurnedAway, AsksFolder, IsUntold, MayFill}
use Rattle.cmd_texts.specs.Commands.Gen.{lead}
use Rattle.cmd_lines.specs.FaultTexts.{fault_text}
use Rattle.cmd_lines.specs.ReportText.{report_text}

-- ---- words: lines of the manual, and what is none
-- a path in the first volume as it is
abbrev at : List ℕ → AskedTarget
at path = record { path = path; volume = None; snapshot = None }

strictly : asked_of (codes "check" ∷ codes "x.img" ∷ codes "--strict" ∷ []) ≡ Some (plain_line (Check Strict))
unfolding asked_of plain_of new_of command_of
strictly = refl

of_partition : asked_of (codes "--gpt" ∷ codes "info" ∷ codes "x.img" ∷ []) ≡ Some (line_in true Info)
unfolding asked_of plain_of new_of command_of
of_partition = refl

after : after_gpt (codes "--gpt" ∷ codes "info" ∷ codes "x.img" ∷ []) ≡ Some (codes "info" ∷ codes "x.img" ∷ [])
after = refl

-- a partition is no image that is made
not_made : asked_by (codes "--gpt" ∷ codes "gen" ∷ codes "3" ∷ []) (Some (codes "gen" ∷ codes "3" ∷ [])) ≡ None
unfolding command_of
not_made = refl

quickly : asked_of (codes "ls" ∷ codes "x.img" ∷ codes "--quick" ∷ codes "/d" ∷ []) ≡ Some (plain_line (Ls Quick (at (codes "/d"))))
unfolding asked_of plain_of new_of command_of
quickly = refl

-- the word after the image is the folder's
into_folder : asked_of (codes "export" ∷ codes "x.img" ∷ codes "dir" ∷ []) ≡ Some (plain_line (Export (at (codes "/"))))
unfolding asked_of plain_of new_of command_of
into_folder = refl

most : asked_of (codes "gen" ∷ codes "20000" ∷ []) ≡ Some (plain_line (Gen 20000))
unfolding asked_of plain_of new_of command_of
most = refl

too_many : asked_of (codes "gen" ∷ codes "20001" ∷ []) ≡ None
unfolding asked_of plain_of new_of command_of
too_many = refl

abbrev small : Spec
small = record {
  blocks = 256;
  name = codes "Small";
  container = 0x00 ∷ 0x11 ∷ 0x22 ∷ 0x33 ∷ 0x44 ∷ 0x55 ∷ 0x66 ∷ 0x77 ∷ 0x88 ∷ 0x99 ∷ 0xaa ∷ 0xbb ∷ 0xcc ∷ 0xdd ∷ 0xee ∷ 0xff ∷ [];
  volume = 0xff ∷ 0xee ∷ 0xdd ∷ 0xcc ∷ 0xbb ∷ 0xaa ∷ 0x99 ∷ 0x88 ∷ 0x77 ∷ 0x66 ∷ 0x55 ∷ 0x44 ∷ 0x33 ∷ 0x22 ∷ 0x11 ∷ 0x00 ∷ [];
}

new_container : asked_of (codes "format" ∷ codes "256" ∷ codes "Small" ∷ codes "00112233-4455-6677-8899-aabbccddeeff" ∷ codes "ffeeddcc-bbaa-9988-7766-554433221100" ∷ []) ≡ Some (plain_line (Format small))
unfolding is_utf8 chars encode_utf8 by_index asked_of plain_of new_of command_of
new_container = refl

-- a path is missing
no_path : asked_of (codes "cat" ∷ codes "x.img" ∷ []) ≡ None
unfolding asked_of plain_of new_of command_of
no_path = refl

-- ---- lines that are asked for: four of an image, one of none
abbrev asked : Asked → Option Line
asked command = Some (plain_line command)

abbrev info : Option Line
info = asked Info

abbrev check : Option Line
check = asked (Check Plain)

abbrev snapshots : Option Line
snapshots = asked (Snapshots (Some 3))

abbrev into_dir : Option Line
into_dir = asked (Export (at (codes "/")))

abbrev format : Option Line
format = asked (Format small)

-- ---- what each takes, writes first, and checks
come_from : map from_of (Info ∷ Gen 3 ∷ Format small ∷ []) ≡ HandedIn ∷ Made ∷ Nowhere ∷ []
come_from = refl

gen_leads : lead_of (Gen 3) ≡ codes "generated 3\n"
unfolding digits
gen_leads = refl

info_leads : lead_in info ≡ []
info_leads = refl

wrong_words_lead : lead_in None ≡ []
wrong_words_lead = refl

strict_profile : profile_of (Check Strict) ≡ Some Strict
strict_profile = refl

gen_profile : profile_of (Gen 3) ≡ Some Plain
gen_profile = refl

quick_profile : profile_of (Ls Quick (at (codes "/d"))) ≡ None
quick_profile = refl

-- the text of `format` is the container; `check` has none of an image without bytes
new_text : IsText (Format small) [] (fresh small)
new_text = refl

no_text : (text : List ℕ) → IsText (Check Plain) [] text → ⊥
no_text text is = no_bytes_flawed Plain is.1.right

-- `snapshots` answers that there is no volume, `info` never answers
no_volume : (image : List ℕ) → HasNoVolume image (Some 3) → IsAnswer (Snapshots (Some 3)) image NoVolume
no_volume image none = (refl, none)

no_answer : (image : List ℕ) (answer : Answer) → IsAnswer Info image answer → ⊥
no_answer image answer is = is

-- `info` has no items, and `export` has none of an image without bytes
no_items : (image : List ℕ) → AreItems Info image []
no_items image = refl

not_exported : (items : List Item) → AreItems (Export (at (codes "/"))) [] items → ⊥
not_exported items are = no_bytes_flawed Plain are.0

asks_folder : AsksFolder into_dir
asks_folder = refl

asks_no_folder : AsksFolder info → ⊥
asks_no_folder asks = let e : false ≡ true = asks in cc

-- ---- what a run was handed: here a number stands for a source, a folder or a sink that has failed so often
-- it tells a byte, or a file without bytes by that name
abbrev byte_of : ℕ → Option (List ℕ)
byte_of n = Some (n ∷ [])

abbrev file_of : ℕ → Option (List Item)
file_of n = Some (file_at (n ∷ []) [] ∷ [])

looked_so : looked byte_of (λ n. n) 3 4 ≡ record { bytes = Some (3 ∷ []); old_faults = 3; new_faults = 4 }
looked_so = refl

opened : looked_at byte_of (λ n. n) (Image 3) (Image 4) ≡ Some (looked byte_of (λ n. n) 3 4)
opened = refl

absent : looked_at byte_of (λ n. n) Absent Absent ≡ None
absent = refl

stored_so : stored file_of (λ n. n) 3 4 ≡ record { old = Some (file_at (3 ∷ []) [] ∷ []); new = Some (file_at (4 ∷ []) [] ∷ []); old_faults = 3; new_faults = 4 }
stored_so = refl

given : stored_in file_of (λ n. n) (Into 3) (Into 4) ≡ Some (stored file_of (λ n. n) 3 4)
given = refl

not_given : stored_in file_of (λ n. n) Nothing Nothing ≡ None
not_given = refl

sunk_so : sunk byte_of (λ n. n) 3 4 ≡ record { old = Some (3 ∷ []); new = Some (4 ∷ []); old_faults = 3; new_faults = 4 }
sunk_so = refl

-- a source is kept; it isn't where it tells another byte, or is gone
image_kept : IsOpenedKept byte_of (λ n. 1) (Image 3) (Image 3)
image_kept = (refl, refl)

other_bytes : IsOpenedKept byte_of (λ n. 1) (Image 3) (Image 4) → ⊥
other_bytes kept = let e : ◌≡◌ {A = Option (List ℕ)} (Some (4 ∷ [])) (Some (3 ∷ [])) = kept.0 in cc

image_lost : IsOpenedKept byte_of (λ n. 1) (Image 3) Absent → ⊥
image_lost kept = kept

folder_kept : IsGivenKept {F = ℕ} (Into 3) (Into 4)
folder_kept = tt

folder_lost : IsGivenKept {F = ℕ} (Into 3) Nothing → ⊥
folder_lost kept = kept

-- a source that tells these bytes, or none, and failed so often in the run
abbrev told_of : Option (List ℕ) → ℕ → Looked
told_of bytes faults = record { bytes = bytes; old_faults = 0; new_faults = faults }

-- an image without bytes, of which no read failed
abbrev no_bytes : Looked
no_bytes = told_of (Some []) 0

-- a folder that had nothing, has some items now, and failed so often in the run
abbrev gained : ℕ → List Item → Stored
gained faults items = record { old = Some []; new = Some items; old_faults = 0; new_faults = faults }

filled : (items : List Item) → Filled (Some []) (Some items) items
filled items held e = ap (λ (had : Option (List Item)). option_map (λ those. those ++ items) had) e

-- a sink that had nothing, has a text now, and failed so often in the run
abbrev got : ℕ → List ℕ → Sunk
got faults text = record { old = Some []; new = Some text; old_faults = 0; new_faults = faults }

wrote : (text : List ℕ) → Wrote (Some []) (Some text) text
wrote text held e = ap (λ (had : Option (List ℕ)). option_map (λ bytes. bytes ++ text) had) e

-- what holds of the bytes that a source tells
of_told : (bytes : List ℕ) (P : List ℕ → Type 0) → P bytes → (image : List ℕ) → Some bytes ≡ Some image → P image
of_told bytes P holds image e = let same : bytes ≡ image = cc in subst P same holds

image_wanted : LacksImage (plain_line Info) None
image_wanted = tt

none_wanted : LacksImage (plain_line (Gen 3)) None → ⊥
none_wanted lacks = lacks

folder_wanted : LacksFolder (plain_line (Export (at (codes "/")))) None
folder_wanted = tt

-- nothing that a command takes is lacking
export_all : HasAll (plain_line (Export (at (codes "/")))) (Some no_bytes) (Some (gained 0 []))
export_all = record { image_there = λ lacks. lacks; folder_there = λ lacks. lacks }

format_all : HasAll (plain_line (Format small)) None None
format_all = record { image_there = λ lacks. lacks; folder_there = λ lacks. lacks }

info_all : (faults : ℕ) → HasAll (plain_line Info) (Some (told_of (Some []) faults)) None
info_all faults = record { image_there = λ lacks. lacks; folder_there = λ lacks. lacks }

gpt_all : HasAll (line_in true Info) (Some no_bytes) None
gpt_all = record { image_there = λ lacks. lacks; folder_there = λ lacks. lacks }

check_all : (image : List ℕ) → HasAll (plain_line (Check Plain)) (Some (told_of (Some image) 0)) None
check_all image = record { image_there = λ lacks. lacks; folder_there = λ lacks. lacks }

snapshots_all : (image : List ℕ) → HasAll (plain_line (Snapshots (Some 3))) (Some (told_of (Some image) 0)) None
snapshots_all image = record { image_there = λ lacks. lacks; folder_there = λ lacks. lacks }

not_all : HasAll (plain_line Info) None None → ⊥
not_all all = all.image_there tt

no_image : HasNoImage info None
no_image = record { line = plain_line Info; words = refl; lacks = tt }

no_folder : HasNoFolder into_dir (Some no_bytes) None
no_folder = record { line = plain_line (Export (at (codes "/"))); words = refl; has = λ lacks. lacks; lacks = tt }

untold : IsUntold (Some (told_of None 0))
untold = refl

is_told : IsUntold (Some no_bytes) → ⊥
is_told none = let e : ◌≡◌ {A = Option (List ℕ)} (Some []) None = none in cc

-- ---- what failed
read_failed : HandedFailed (Some (told_of (Some []) 1))
read_failed = omega arith

sink_failed : Failed (got 1 [])
sink_failed = omega arith

folder_failed : StoreFailed (Some (gained 1 []))
folder_failed = omega arith

put_failed : PutFailed (got 0 []) (Some (gained 1 []))
put_failed = inr folder_failed

nothing_failed : PutFailed (got 0 []) (Some (gained 0 [])) → ⊥
nothing_failed failed = omega arith

-- ---- how a run ends: the statuses and lines of the table of statuses
written_status : status_of (Written (codes "clean\n")) ≡ 0
written_status = refl

written_line : line_of (Written (codes "clean\n")) ≡ []
written_line = refl

-- a text that a put cut short, and no line
cut_text : text_of (WriteFailed (codes "cle")) ≡ codes "cle"
cut_text = refl

cut_short : Ends 4 (WriteFailed (codes "cle")) (got 1 (codes "cle")) (got 0 [])
cut_short = record { text = wrote (codes "cle"); said = inl (record { status_is = refl; put = wrote [] }) }

refused_line : line_of (Refused [] Encrypted 41) ≡ codes "apfs: unsupported: Encrypted block 41\n"
unfolding digits
refused_line = refl

answered_line : line_of (Answered [] NotFound) ≡ codes "apfs: answer: NotFound\n"
answered_line = refl

-- `gen` has written its first line before it finds a fault
after_lead : text_of (Faulty (lead 3) (InUsage 0 7)) ≡ codes "generated 3\n"
unfolding digits
after_lead = refl

both_wrote : BothWrote (got 0 []) (got 0 (codes "apfs: no image\n")) NoImage
both_wrote = (wrote [], wrote (codes "apfs: no image\n"))

-- ---- wrong words: status 2, the line, and a folder that stays as it was
same : IsSame (gained 0 [])
same = filled []

another : IsSame (gained 0 (directory_at (codes "d") ∷ [])) → ⊥
another kept = let e : ◌≡◌ {A = Option (List Item)} (Some (directory_at (codes "d") ∷ [])) (Some []) = kept [] refl in cc

untouched : IsUntouched (Some (gained 0 []))
untouched = same

came_to_usage : CameTo None (Some no_bytes) (Some (gained 0 [])) 2 (got 0 []) (got 0 (codes "apfs: usage: apfs COMMAND IMAGE [WORDS]\n"))
came_to_usage = (WrongWords, wrong_words refl refl untouched, record { text = wrote []; said = inl (record { status_is = refl; put = wrote _ }) })

abbrev no_line : Option Line
no_line = None

exactly : IsExactly 2 2 (no_line ≡ None)
exactly = record { only = λ e. refl; always = λ e. inl refl }

-- or a put failed in its place
not_exactly : IsExactly 4 2 (no_line ≡ None)
not_exactly = record { only = λ e. absurd (omega arith); always = λ e. inr (inl refl) }

-- ---- `format`: status 0, and the first sink has the container
new_ran : Ran format None None (got 0 (fresh small)) (Written (fresh small))
new_ran = record {
  line = plain_line (Format small);
  words = refl;
  all = format_all;
  source = made [];
  source_is = refl;
  says = record { formed = refl; is = λ image e rests. refl };
  fills = tt;
}

says_new : Says format None None (got 0 (fresh small)) (Written (fresh small))
says_new = ran new_ran

has_new : HasText format None None (got 0 (fresh small)) (got 0 [])
has_new = (fresh small, new_ran, (wrote (fresh small), wrote []))

is_new : IsNewOrFree small 0 (got 0 (fresh small))
is_new = inl (refl, wrote (fresh small))

asked_new : IsAsked format None None (Format small) []
asked_new = record { line = plain_line (Format small); words = refl; same = refl; all = format_all; given = refl }

defined_new : HasDefinedText format None None
defined_new = record { command = Format small; bytes = []; text = fresh small; is = asked_new; defined = refl }

undisturbed : IsUndisturbed format None None (got 0 (fresh small)) (got 0 [])
undisturbed = record {
  line = plain_line (Format small);
  words = refl;
  all = format_all;
  source = λ failed. failed;
  text = λ failed. omega arith;
  line_put = λ failed. omega arith;
  store = λ failed. failed;
}

-- ---- `--gpt info` of a disk without bytes: it has no table
abbrev gpt_info : Option Line
gpt_info = Some (line_in true Info)

no_table : IsTableFault [] NoTable
unfolding has_header sector_of
no_table = refl

no_part : HasNoPart gpt_info (Some no_bytes) None (Faulty [] NoTable)
no_part = record {
  line = line_in true Info;
  words = refl;
  wanted = refl;
  image_from = refl;
  all = gpt_all;
  disk = no_bytes;
  disk_is = refl;
  stops = inl (NoTable, refl, of_told [] (λ disk. IsTableFault disk NoTable) no_table);
}

stopped : RanOrNoPart gpt_info (Some no_bytes) None (got 0 []) (Faulty [] NoTable)
stopped = inr no_part

names_no_table : NamesFault gpt_info (Some no_bytes) None (got 0 []) (got 0 (codes "apfs: fault: Gpt NoTable\n"))
names_no_table = ([], NoTable, inr no_part, (wrote [], wrote _))

has_no_table : HasTableFault gpt_info (Some no_bytes) None NoTable
has_no_table = record {
  line = line_in true Info;
  words = refl;
  wanted = refl;
  image_from = refl;
  all = gpt_all;
  source = no_bytes;
  source_is = refl;
  disk = [];
  told = refl;
  there = no_table;
}

-- ---- `check` of an image without bytes: it has no block 0
no_result : HasResult (Check Plain) [] → ⊥
no_result (inl has) = no_text has.0 has.1
no_result (inr has) = has.1

no_zero : RanNaming check (Some no_bytes) None (got 0 []) [] (InContainer BlockZero)
no_zero = (
  record {
    line = plain_line (Check Plain);
    words = refl;
    all = check_all [];
    source = no_bytes;
    source_is = refl;
    says = (refl, of_told [] (λ image. StopsAt (Check Plain) image (IsNamed (Check Plain) image (InContainer BlockZero))) (record { none = no_result; there_is = no_bytes_present Plain }));
    fills = tt;
  },
  of_told [] (λ image. IsPresent Plain image BlockZero) (no_bytes_present Plain),
)

names_no_zero : NamesFault check (Some no_bytes) None (got 0 []) (got 0 (codes "apfs: fault: BlockZero\n"))
names_no_zero = ([], InContainer BlockZero, inl no_zero, (wrote [], wrote _))

asked_check : (image : List ℕ) → IsAsked check (Some (told_of (Some image) 0)) None (Check Plain) image
asked_check image = record { line = plain_line (Check Plain); words = refl; same = refl; all = check_all image; given = refl }

unsound : HasUnsound check (Some no_bytes) None
unsound = record { command = Check Plain; bytes = []; profile = Plain; is = asked_check []; checks = refl; unsound = no_bytes_flawed Plain }

sound : (image : List ℕ) → IsWellFormed Plain image → HasSound check (Some (told_of (Some image) 0)) None
sound image well = record { command = Check Plain; bytes = image; profile = Plain; is = asked_check image; checks = refl; sound = well }

-- ---- `check` of an image in which a feature is there, and `snapshots` of one in which slot 3 holds no volume
refusing : (image : List ℕ) → StopsAt (Check Plain) image (IsFeature (Check Plain) image Encrypted 41)
    → RanRefusing check (Some (told_of (Some image) 0)) None (got 0 []) [] Encrypted 41
refusing image stops = (
  record {
    line = plain_line (Check Plain);
    words = refl;
    all = check_all image;
    source = told_of (Some image) 0;
    source_is = refl;
    says = (refl, of_told image (λ bytes. StopsAt (Check Plain) bytes (IsFeature (Check Plain) bytes Encrypted 41)) stops);
    fills = tt;
  },
  of_told image (λ bytes. IsFeature (Check Plain) bytes Encrypted 41) stops.there_is,
)

names_feature : (image : List ℕ) → StopsAt (Check Plain) image (IsFeature (Check Plain) image Encrypted 41)
    → NamesFeature check (Some (told_of (Some image) 0)) None (got 0 []) (got 0 (codes "apfs: unsupported: Encrypted block 41\n"))
unfolding digits
names_feature image stops = ([], Encrypted, 41, refusing image stops, (wrote [], wrote _))

names_answer : (image : List ℕ) → IsOnlyAnswer (Snapshots (Some 3)) image NoVolume
    → NamesAnswer snapshots (Some (told_of (Some image) 0)) None (got 0 []) (got 0 (codes "apfs: answer: NoVolume\n"))
names_answer image only = (
  [],
  NoVolume,
  record {
    line = plain_line (Snapshots (Some 3));
    words = refl;
    all = snapshots_all image;
    source = told_of (Some image) 0;
    source_is = refl;
    says = (refl, of_told image (λ bytes. AnswersAt (Snapshots (Some 3)) bytes NoVolume) (λ rests. only));
    fills = tt;
  },
  (wrote [], wrote _),
)

defined_answer : (image : List ℕ) → HasNoVolume image (Some 3) → HasDefinedAnswer snapshots (Some (told_of (Some image) 0)) None
defined_answer image none = record {
  command = Snapshots (Some 3);
  bytes = image;
  answer = NoVolume;
  is = record { line = plain_line (Snapshots (Some 3)); words = refl; same = refl; all = snapshots_all image; given = refl };
  defined = no_volume image none;
}

-- ---- a read of `info` failed, memory ran out, and a put failed: nothing was written
says_read_failed : SaysReadFailed info (Some (told_of (Some []) 1)) None (got 0 []) (got 0 (codes "apfs: read failed\n"))
says_read_failed = (
  [],
  inl (record {
    line = plain_line Info;
    words = refl;
    all = info_all 1;
    source = told_of (Some []) 1;
    source_is = refl;
    says = (
      read_failed,
      record {
        is = record { formed = inl ([], refl); begins = of_told [] (λ image. BeginsText Info image []) (inl ([], refl)) };
        before = λ e. ([], refl);
      },
    );
    fills = tt;
  }),
  (wrote [], wrote _),
)

no_part_of_it : IsSomePart info (Some no_bytes) None (got 0 []) []
no_part_of_it = inr (refl, tt)

says_out_of_memory : SaysOutOfMemory info (Some no_bytes) None (got 0 []) (got 0 (codes "apfs: out of memory\n"))
says_out_of_memory = ([], no_part_of_it, (wrote [], wrote _))

has_failed_put : HasFailedPut info (Some no_bytes) None (got 1 []) (got 0 [])
has_failed_put = ([], inr (refl, tt), wrote [], inl (inl sink_failed))

-- ---- what a folder gets: a file of five bytes, or after a put that failed its first two
abbrev hello : Item
hello = file_at (codes "f") (codes "hello")

abbrev he : Item
he = file_at (codes "f") (codes "he")

hello_more : HasMore (Some (gained 0 (hello ∷ []))) (hello ∷ [])
hello_more = filled (hello ∷ [])

all_of_it : IsFront (hello ∷ []) (hello ∷ [])
all_of_it = record { whole = hello ∷ []; rest = []; split = refl; end = inl refl }

front_of_it : IsFront (he ∷ []) (hello ∷ [])
front_of_it = record { whole = []; rest = hello ∷ []; split = refl; end = inr (codes "f", codes "he", record { bytes = codes "hello"; later = []; first = refl; left = codes "llo"; split = refl }, refl) }

he_more : HasFrontMore (Some (gained 1 (he ∷ []))) (hello ∷ [])
he_more held e = (he ∷ [], front_of_it, filled (he ∷ []) held e)

filled_whole : IsFilledWith 0 (got 0 (codes "exported 0 directories 1 files 5 bytes\n")) (Some (gained 0 (hello ∷ []))) (hello ∷ [])
filled_whole = record { whole = λ e. hello_more; front = λ held e. (hello ∷ [], all_of_it, filled (hello ∷ []) held e); before_text = inl hello_more }

filled_partly : IsFilledWith 4 (got 0 []) (Some (gained 1 (he ∷ []))) (hello ∷ [])
filled_partly = record { whole = λ e. absurd (omega arith); front = he_more; before_text = inr (wrote []) }

safe_more : HasSafeMore (Some (gained 0 (directory_at (codes "d") ∷ file_at (codes "d/f") (codes "hello") ∷ [])))
safe_more = (_, filled _, both_stay)

defined_items : HasDefinedItems info (Some no_bytes) None []
defined_items = record { command = Info; bytes = []; is = record { line = plain_line Info; words = refl; same = refl; all = info_all 0; given = refl }; defined = refl }

may_fill : MayFill into_dir (Some no_bytes) 4
may_fill = (refl, inl (inr (inr (inl refl))))

may_not_fill : MayFill into_dir (Some no_bytes) 7 → ⊥
may_not_fill may = omega arith

-- ---- which statuses may come in place of one another
read_failed_free : IsOrFree 3 0
read_failed_free = inr (inl refl)

fault_not_free : IsOrFree 1 0 → ⊥
fault_not_free free = omega arith

answer_clean : IsCleanOrFree 7
answer_clean = inr (inl refl)

fault_not_clean : IsCleanOrFree 1 → ⊥
fault_not_clean free = omega arith

feature_found : IsFoundOrFree 6
feature_found = inr (inl refl)

clean_not_found : IsFoundOrFree 0 → ⊥
clean_not_found free = omega arith

fault_completed : IsCompleted 1
fault_completed = inr (inr (inl refl))

failure_not_completed : IsCompleted 3 → ⊥
failure_not_completed completed = omega arith

answer_refuses : IsRefusal 7
answer_refuses = inr (inr refl)

no_folder_turns_away : IsTurnedAway 9
no_folder_turns_away = inr (inr refl)

-- ---- a report
reported : report_text (record { xid = 7; volumes = 1; views = 2; objects = 46; records = 758; used = 6236; free = 255908; notes = Skipped 3 8 ∷ [] })
    ≡ codes "clean\nxid 7\nvolumes 1\nviews 2\nobjects 46\nrecords 758\nused 6236\nfree 255908\nnotes 1\nnote skipped index 3 xid 8\n"
unfolding digits
reported = refl

-- ---- faults
-- a record that nothing uses
unused : fault_text (UnusedMapping (withins.Volume 0) 1031 3) ≡ codes "UnusedMapping volume " ++ (decimal 0 ++ (codes " oid " ++ (decimal 1031 ++ (codes " xid " ++ decimal 3))))
unused = refl

-- a name is shown with its slash hidden
named : fault_text (NoInode 0 1 2 (Some (0x61 ∷ 0x2f ∷ []))) ≡ (codes "NoInode volume " ++ (decimal 0 ++ (codes " view " ++ decimal 1)) ++ (codes " id " ++ decimal 2)) ++ codes " name a\\x2f"
named = refl

-- a count that is stored as a negative number
counted : fault_text (DataCount 0 57 (negsuc 1) 2) ≡ codes "DataCount volume " ++ (decimal 0 ++ (codes " block " ++ (decimal 57 ++ (codes " stored " ++ (signed_decimal (negsuc 1) ++ (codes " streams " ++ decimal 2))))))
counted = refl
