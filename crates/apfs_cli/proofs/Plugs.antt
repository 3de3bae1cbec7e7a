-- How a command's outcome over its source becomes one of the run.
use Rattle.std.specs.Prelude.{◌≡◌, ℕ, Bool, true, false, List, [], Option, Some, None, Result, Ok, Err, refl}
use Rattle.std.proofs.Common.{inl, inr, sym, ◌∙◌, ap, subst}
use Rattle.std.proofs.lemmas.List.{append-nil}
use Rattle.blk_folder.specs.Items.{Item}
use Rattle.blk_folder.specs.declared.folder.Given.{Given}
use Rattle.blk_folder.specs.declared.folder.Given.TheVariants.{Nothing, Into}
use Rattle.img_format.specs.declared.spec.Spec.{Spec}
use Rattle.img_gpt.specs.Partition.{found_part}
use Rattle.img_gpt.specs.Laws.{IsTableStop}
use Rattle.img_gpt.specs.declared.part.GptStop.{GptStop}
use Rattle.img_gpt.specs.declared.part.GptStop.TheVariants as gpt
use Rattle.img_gpt.specs.declared.part.Part.{Part}
use Rattle.cmd_lines.specs.declared.named.Named.TheVariants.{NoTable, BadTable, NoPartition, PartOutside}
use Rattle.cmd_lines.specs.declared.stopped.Stopped.{Stopped}
use Rattle.cmd_lines.specs.declared.stopped.Stopped.TheVariants as stops
use Rattle.cmd_lines.specs.declared.words.Command.{Command}
use Rattle.cmd_lines.specs.declared.words.Command.TheVariants as commands
use Rattle.cmd_texts.specs.ByCommand.{From, HandedIn, Made, Nowhere, from_of, takes_folder, AreItems}
use Rattle.cmd_texts.specs.Handed.{Looked, LookFailed, OfImage, part_looked, made, Stored, stored_in, IsGivenKept}
use Rattle.cmd_lines.specs.Outcome.{Outcome, Written, Faulty, WrongWords, ReadFailed, WriteFailed, OutOfMemory, Refused, NoImage, NoFolder, text_of}
use Rattle.cmd_texts.specs.Says.{AreItemsIf, AreItemsBy, FillsBy, FillsOn, IsSame, IsUntouched, LacksFrom, LacksStore, IsSourceFrom, IsSource, StopsTable, PutFailed, HasAll, Says, SaysOn, CameTo, wrong_words, no_image, no_folder, no_part, ran, no_memory}
use Rattle.cmd_texts.specs.Ended.{HasEnded, HasEndedInto, HasMade, HasCome}
use Rattle.cmd_texts.specs.Seen.{stopped_at_table}
use Rattle.cmd_lines.specs.Stops.{outcome_of}
use Rattle.cmd_lines.specs.Words.{Asked, Line, plain_line, Export, Gen, Format}
use Rattle.cmd_lines.specs.Lent.{partition_line, said}
use Rattle.cmd_lines.specs.Written.{Sunk, Failed}
use Rattle.cmd_lines.specs.Putting.{IsClosed}
use Rattle.cmd_texts.proofs.Fillings.{says_more, none_more}
use Rattle.cmd_lines.proofs.Puts.{wrote_nothing}
use Rattle.apfs_cli.proofs.Statuses.{some_part}

-- ---- a command that takes no folder

pub none_taken : (command : Command) → takes_folder (said command) ≡ false
none_taken commands.Ring = refl
none_taken command = refl

no_items : (command : Asked) (image : List ℕ) → takes_folder command ≡ false → AreItems command image []
no_items (Export target) image none = absurd Prim.cc
no_items command image none = refl

same_by : (command : Asked) (source : Looked) (folder : Stored) (o : Outcome) → takes_folder command ≡ false → IsSame folder → FillsBy command source folder o
same_by command source folder (Written text) plain same = none_more command source folder (AreItemsIf command) (λ image rests. no_items command image plain) same
same_by command source folder (Faulty lead named) plain same = none_more command source folder (λ image added. added ≡ []) (λ image. refl) same
same_by command source folder (ReadFailed part) plain same = none_more command source folder (AreItemsBy command part) (λ image. inl (λ rests. no_items command image plain)) same
same_by command source folder (WriteFailed part) plain same = none_more command source folder (AreItemsBy command part) (λ image. inl (λ rests. no_items command image plain)) same
same_by command source folder (OutOfMemory part) plain same = none_more command source folder (AreItemsBy command part) (λ image. inl (λ rests. no_items command image plain)) same
same_by command source folder (Refused lead feature block) plain same = none_more command source folder (λ image added. added ≡ []) (λ image. refl) same
same_by command source folder o plain same = same

fills_same : (command : Asked) (source : Looked) (folder : Option Stored) (o : Outcome) → takes_folder command ≡ false → IsUntouched folder → FillsOn command source folder o
fills_same command source None o plain same = tt
fills_same command source (Some folder) o plain same = same_by command source folder o plain same

no_store : (b : Bool) (folder : Option Stored) → b ≡ false → LacksStore b folder → ⊥
no_store false folder e lacks = lacks
no_store true folder e lacks = absurd Prim.cc

-- so what was handed in for it, which is as before, counts for nothing
all_with : (line : Line) (image : Option Looked) (folder : Option Stored) → takes_folder line.command ≡ false → HasAll line image None → HasAll line image folder
all_with line image folder plain all = record { image_there = all.image_there; folder_there = no_store (takes_folder line.command) folder plain }

put_with : (out : Sunk) (folder : Option Stored) → PutFailed out None → PutFailed out folder
put_with out folder (inl failed) = inl failed
put_with out folder (inr none) = absurd none

-- the words ask for none that takes one
abbrev AsksNone : Option Line → Type 0
AsksNone asked = (line : Line) → asked ≡ Some line → takes_folder line.command ≡ false

says_with : (asked : Option Line) (image : Option Looked) (folder : Option Stored) (out : Sunk) (o : Outcome) → AsksNone asked → IsUntouched folder → Says asked image None out o → Says asked image folder out o
says_with asked image folder out o plain same (wrong_words none is before) = wrong_words none is same
says_with asked image folder out o plain same (no_image lacks is before) = no_image lacks is same
says_with asked image folder out o plain same (no_folder lacks is before) = absurd (no_store (takes_folder lacks.line.command) None (plain lacks.line lacks.words) lacks.lacks)
says_with asked image folder out o plain same (no_part has before) = no_part (record {
  line = has.line;
  words = has.words;
  wanted = has.wanted;
  image_from = has.image_from;
  all = all_with has.line image folder (plain has.line has.words) has.all;
  disk = has.disk;
  disk_is = has.disk_is;
  stops = has.stops;
}) same
says_with asked image folder out o plain same (ran has) = ran (record {
  line = has.line;
  words = has.words;
  all = all_with has.line image folder (plain has.line has.words) has.all;
  source = has.source;
  source_is = has.source_is;
  says = says_more has.line.command has.source (PutFailed out None) (PutFailed out folder) o (put_with out folder) has.says;
  fills = fills_same has.line.command has.source folder o (plain has.line has.words) same;
})
says_with asked image folder out o plain same (no_memory is before) = no_memory is same

-- a folder that is as before is the one that was handed in
pub kept_folder : {F : Type 0} (contents : F → Option (List Item)) (faults : F → ℕ) (given : Given F) → IsUntouched (stored_in contents faults given given)
kept_folder contents faults Nothing = tt
kept_folder contents faults (Into folder) = λ held told. told ∙ ap (λ (l : List Item). Some l) (sym (append-nil held))

pub kept_given : {F : Type 0} (given : Given F) → IsGivenKept given given
kept_given Nothing = tt
kept_given (Into folder) = tt

-- one line is asked for, and it takes no folder
asks_none : (line : Line) → takes_folder line.command ≡ false → AsksNone (Some line)
asks_none line plain other words =
    let same : line ≡ other = Prim.cc in
    let P : Line → Type 0 = λ l. takes_folder l.command ≡ false in
    subst P same plain

-- a run that took none has come to what it has, whatever was handed in for it
pub come_with : (line : Line) (image : Option Looked) (folder : Option Stored) (ended : Result Unit Stopped) (out : Sunk) → takes_folder line.command ≡ false → IsUntouched folder → HasCome (Some line) image None ended out → HasCome (Some line) image folder ended out
come_with line image folder ended out plain same (part, says, wrote) = (part, says_with (Some line) image folder out (outcome_of ended part) (asks_none line plain) same says, wrote)

-- ---- a command over what is handed in

image_there : (f : From) (source : Looked) → LacksFrom f (Some source) → ⊥
image_there HandedIn source lacks = lacks
image_there Made source lacks = lacks
image_there Nowhere source lacks = lacks

all_there : (line : Line) (source : Looked) → takes_folder line.command ≡ false → HasAll line (Some source) None
all_there line source plain = record { image_there = image_there (from_of line.command) source; folder_there = no_store (takes_folder line.command) None plain }

-- and a folder is taken where one is
folder_there : (b : Bool) (folder : Stored) → LacksStore b (Some folder) → ⊥
folder_there true folder lacks = lacks
folder_there false folder lacks = lacks

all_given : (line : Line) (source : Looked) (folder : Stored) → HasAll line (Some source) (Some folder)
all_given line source folder = record { image_there = image_there (from_of line.command) source; folder_there = folder_there (takes_folder line.command) folder }

-- what is handed in is the source
source_plain : (command : Asked) → from_of command ≡ HandedIn → (source : Looked) → IsSource (plain_line command) (Some source) source
source_plain command from source = let P : From → Type 0 = λ f. IsSourceFrom f false (Some source) source in subst P (sym from) refl

-- or a part of it is, where the table is told the partition
source_part : (command : Asked) → from_of command ≡ HandedIn → (disk : Looked) (part : Part) → OfImage disk (λ bytes. found_part bytes ≡ Ok part) → IsSource (partition_line command) (Some disk) (part_looked part disk)
source_part command from disk part found = let P : From → Type 0 = λ f. IsSourceFrom f true (Some disk) (part_looked part disk) in subst P (sym from) (disk, part, refl, found, refl)

-- a command came to an outcome over its source, and to what it put into a folder where it takes one
over_source : (line : Line) (image : Option Looked) (folder : Option Stored) (source : Looked) (out : Sunk) (o : Outcome) → HasAll line image folder → IsSource line image source → SaysOn line.command source (PutFailed out folder) o →
    FillsOn line.command source folder o → Says (Some line) image folder out o
over_source line image folder source out o all is says fills =
    ran (record { line = line; words = refl; all = all; source = source; source_is = is; says = says; fills = fills })

-- so it did where no folder was handed in
come_over : (line : Line) (image : Option Looked) (source : Looked) (ended : Result Unit Stopped) (out : Sunk) → HasAll line image None → IsSource line image source → HasEnded line.command source ended out → HasCome (Some line) image None ended out
come_over line image source ended out all is (part, says, wrote) =
    let more = says_more line.command source (Failed out) (PutFailed out None) (outcome_of ended part) (λ failed. inl failed) says in
    (part, over_source line image None source out (outcome_of ended part) all is more tt, wrote)

pub come_plain : (command : Asked) → from_of command ≡ HandedIn → takes_folder command ≡ false → (source : Looked) (ended : Result Unit Stopped) (out : Sunk) → HasEnded command source ended out → HasCome (Some (plain_line command)) (Some source) None ended out
come_plain command from plain source ended out has =
    come_over (plain_line command) (Some source) source ended out (all_there (plain_line command) source plain) (source_plain command from source) has

pub come_part : (command : Asked) → from_of command ≡ HandedIn → takes_folder command ≡ false → (disk : Looked) (part : Part) (ended : Result Unit Stopped) (out : Sunk) → OfImage disk (λ bytes. found_part bytes ≡ Ok part) → HasEnded command (part_looked part disk) ended out →
    HasCome (Some (partition_line command)) (Some disk) None ended out
come_part command from plain disk part ended out found has =
    come_over (partition_line command) (Some disk) (part_looked part disk) ended out (all_there (partition_line command) disk plain) (source_part command from disk part found) has

-- so is what a command came to that fills a folder
pub come_into : (command : Asked) → from_of command ≡ HandedIn → (source : Looked) (folder : Stored) (ended : Result Unit Stopped) (out : Sunk) → HasEndedInto command source folder ended out →
    HasCome (Some (plain_line command)) (Some source) (Some folder) ended out
come_into command from source folder ended out (part, says, fills, wrote) =
    let line = plain_line command in
    (part, over_source line (Some source) (Some folder) source out (outcome_of ended part) (all_given line source folder) (source_plain command from source) says fills, wrote)

pub come_part_into : (command : Asked) → from_of command ≡ HandedIn → (disk : Looked) (part : Part) (folder : Stored) (ended : Result Unit Stopped) (out : Sunk) → OfImage disk (λ bytes. found_part bytes ≡ Ok part) →
    HasEndedInto command (part_looked part disk) folder ended out → HasCome (Some (partition_line command)) (Some disk) (Some folder) ended out
come_part_into command from disk part folder ended out found (text, says, fills, wrote) =
    let line = partition_line command in
    (text, over_source line (Some disk) (Some folder) (part_looked part disk) out (outcome_of ended text) (all_given line disk folder) (source_part command from disk part found) says fills, wrote)

-- the table stopped the run, and nothing was written
come_table : (command : Asked) → from_of command ≡ HandedIn → (disk : Looked) (folder : Option Stored) → HasAll (partition_line command) (Some disk) folder → IsUntouched folder → (o : Outcome) → StopsTable disk o → (out : Sunk) →
    Says (Some (partition_line command)) (Some disk) folder out o
come_table command from disk folder all same o stops out = no_part (record {
  line = partition_line command;
  words = refl;
  wanted = refl;
  image_from = from;
  all = all;
  disk = disk;
  disk_is = refl;
  stops = stops;
}) same

stopped_without : (command : Asked) → from_of command ≡ HandedIn → (disk : Looked) (folder : Option Stored) → HasAll (partition_line command) (Some disk) folder → IsUntouched folder → (stop : GptStop) (contents : Option (List ℕ)) (count : ℕ) →
    OfImage disk (λ bytes. IsTableStop bytes stop) → (stop ≡ gpt.ReadFault → LookFailed disk) →
    HasCome (Some (partition_line command)) (Some disk) folder (Err (stopped_at_table stop)) (record { old = contents; new = contents; old_faults = count; new_faults = count })
stopped_without command from disk folder all same gpt.NoTable contents count told cause =
    ([], come_table command from disk folder all same (Faulty [] NoTable) (inl (NoTable, refl, told)) (record { old = contents; new = contents; old_faults = count; new_faults = count }), wrote_nothing contents)
stopped_without command from disk folder all same gpt.BadTable contents count told cause =
    ([], come_table command from disk folder all same (Faulty [] BadTable) (inl (BadTable, refl, told)) (record { old = contents; new = contents; old_faults = count; new_faults = count }), wrote_nothing contents)
stopped_without command from disk folder all same gpt.NoPartition contents count told cause =
    ([], come_table command from disk folder all same (Faulty [] NoPartition) (inl (NoPartition, refl, told)) (record { old = contents; new = contents; old_faults = count; new_faults = count }), wrote_nothing contents)
stopped_without command from disk folder all same (gpt.PartOutside at) contents count told cause =
    ([], come_table command from disk folder all same (Faulty [] (PartOutside at)) (inl (PartOutside at, refl, told)) (record { old = contents; new = contents; old_faults = count; new_faults = count }), wrote_nothing contents)
stopped_without command from disk folder all same gpt.ReadFault contents count told cause =
    ([], come_table command from disk folder all same (ReadFailed []) (inr (refl, cause refl)) (record { old = contents; new = contents; old_faults = count; new_faults = count }), wrote_nothing contents)

pub come_without : (command : Asked) → from_of command ≡ HandedIn → takes_folder command ≡ false → (disk : Looked) (stop : GptStop) (contents : Option (List ℕ)) (count : ℕ) → OfImage disk (λ bytes. IsTableStop bytes stop) →
    (stop ≡ gpt.ReadFault → LookFailed disk) →
    HasCome (Some (partition_line command)) (Some disk) None (Err (stopped_at_table stop)) (record { old = contents; new = contents; old_faults = count; new_faults = count })
come_without command from plain disk stop contents count told cause =
    stopped_without command from disk None (all_there (partition_line command) disk plain) tt stop contents count told cause

pub come_without_into : (command : Asked) → from_of command ≡ HandedIn → (disk : Looked) (folder : Stored) → IsSame folder → (stop : GptStop) (contents : Option (List ℕ)) (count : ℕ) → OfImage disk (λ bytes. IsTableStop bytes stop) →
    (stop ≡ gpt.ReadFault → LookFailed disk) →
    HasCome (Some (partition_line command)) (Some disk) (Some folder) (Err (stopped_at_table stop)) (record { old = contents; new = contents; old_faults = count; new_faults = count })
come_without_into command from disk folder same stop contents count told cause =
    stopped_without command from disk (Some folder) (all_given (partition_line command) disk folder) same stop contents count told cause

-- no image was handed in
pub come_absent : (line : Line) → from_of line.command ≡ HandedIn → (folder : Option Stored) → IsUntouched folder → (contents : Option (List ℕ)) (count : ℕ) →
    HasCome (Some line) None folder (Err stops.NoImage) (record { old = contents; new = contents; old_faults = count; new_faults = count })
come_absent line from folder same contents count =
    let P : From → Type 0 = λ f. LacksFrom f None in
    ([], no_image (record { line = line; words = refl; lacks = subst P (sym from) tt }) refl same, wrote_nothing contents)

-- no folder was handed in for a command that takes one
pub come_nowhere : (line : Line) → takes_folder line.command ≡ true → (source : Looked) (contents : Option (List ℕ)) (count : ℕ) →
    HasCome (Some line) (Some source) None (Err stops.NoFolder) (record { old = contents; new = contents; old_faults = count; new_faults = count })
come_nowhere line takes source contents count =
    let P : Bool → Type 0 = λ b. LacksStore b None in
    ([], no_folder (record { line = line; words = refl; has = image_there (from_of line.command) source; lacks = subst P (sym takes) tt }) refl tt, wrote_nothing contents)

-- ---- a command over the image that it makes

pub come_made : (n : ℕ) (made : Option (List ℕ)) (image : Option Looked) (ended : Result Unit Stopped) (out : Sunk) → HasMade (Gen n) made ended out → HasCome (Some (plain_line (Gen n))) image None ended out
come_made n None image ended out (none, wrote) =
    let P : Result Unit Stopped → Type 0 = λ e. HasCome (Some (plain_line (Gen n))) image None e out in
    subst P (sym none) ([], no_memory refl tt, wrote)
come_made n (Some bytes) image ended out has = come_over (plain_line (Gen n)) image (made bytes) ended out (record { image_there = λ lacks. lacks; folder_there = λ lacks. lacks }) (bytes, refl) has

-- ---- a command without an image

-- what `format` came to over no bytes
pub come_new : (spec : Spec) (image : Option Looked) (ended : Result Unit Stopped) (out : Sunk) → HasEnded (Format spec) (made []) ended out → HasCome (Some (plain_line (Format spec))) image None ended out
come_new spec image ended out has = come_over (plain_line (Format spec)) image (made []) ended out (record { image_there = λ lacks. lacks; folder_there = λ lacks. lacks }) refl has

-- ---- the words

-- the words are wrong
pub come_wrong : (asked : Option Line) (image : Option Looked) (folder : Option Stored) → IsUntouched folder → (contents : Option (List ℕ)) (count : ℕ) → asked ≡ None →
    HasCome asked image folder (Err stops.WrongWords) (record { old = contents; new = contents; old_faults = count; new_faults = count })
come_wrong asked image folder same contents count none = ([], wrong_words none refl same, wrote_nothing contents)

-- memory ran out for the words
pub come_no_memory : (asked : Option Line) (image : Option Looked) (folder : Option Stored) → IsUntouched folder → (contents : Option (List ℕ)) (count : ℕ) →
    HasCome asked image folder (Err stops.OutOfMemory) (record { old = contents; new = contents; old_faults = count; new_faults = count })
come_no_memory asked image folder same contents count = ([], no_memory refl same, wrote_nothing contents)

-- ---- the line of an outcome

-- memory may run out for it
no_line_memory : (asked : Option Line) (image : Option Looked) (folder : Option Stored) (out : Sunk) (o : Outcome) → Says asked image folder out o → Says asked image folder out (OutOfMemory (text_of o))
no_line_memory asked image folder out o says =
    elim (some_part asked image folder out o says) as (λ _. Says asked image folder out (OutOfMemory (text_of o))) [ inl has ↦ ran has | inr none ↦ no_memory (ap (λ (l : List ℕ). OutOfMemory l) none.0) none.1 ]

-- a run has come to the outcome of what was decided, or memory ran out where there was none for its line
pub came_to : (asked : Option Line) (image : Option Looked) (folder : Option Stored) (ended : Result Unit Stopped) (result : ℕ) (out err : Sunk) →
    HasCome asked image folder ended out → ((part : List ℕ) → IsClosed result (outcome_of ended part) err) → CameTo asked image folder result out err
came_to asked image folder ended result out err (part, says, wrote) closed =
    let o = outcome_of ended part in
    elim (closed part) [
      | inl said ↦ (o, says, record { text = wrote; said = said })
      | inr none ↦ (OutOfMemory (text_of o), no_line_memory asked image folder out o says, record { text = wrote; said = none })
    ]
