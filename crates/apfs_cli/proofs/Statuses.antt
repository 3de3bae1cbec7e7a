-- What each status says and when it comes, from the outcome that a run has come to and from what each command owes.
use Rattle.std.specs.Prelude.{◌≡◌, ◌⊎◌, ℕ, Bool, true, false, List, [], Option, Some, None, Ok, refl}
use Rattle.std.proofs.Common.{inl, inr, sym, ◌∙◌, ap, subst, arith}
use Rattle.apfs_model.specs.Sink.{Wrote}
use Rattle.obj_base.specs.declared.stop.Feature.{Feature}
use Rattle.blk_folder.specs.Items.{Item}
use Rattle.blk_folder.specs.Put.{Filled}
use Rattle.img_gpt.specs.Slices.{sliced}
use Rattle.img_gpt.specs.Partition.{found_part, bytes_in}
use Rattle.img_gpt.specs.declared.part.Part.{Part}
use Rattle.img_gpt.specs.declared.part.GptStop.TheVariants as gpt
use Rattle.img_gpt.proofs.Exactly.{found_not_faulty}
use Rattle.view_rules.specs.declared.profile.Profile.{Profile}
use Rattle.apfs_check.specs.WellFormed.{IsWellFormed}
use Rattle.path_search.specs.declared.answer.Answer.{Answer}
use Rattle.cmd_texts.proofs.ByAnswers.{for_answer}
use Rattle.cmd_lines.specs.Texts.{IsPrefix}
use Rattle.cmd_lines.specs.Written.{Sunk, Failed, Ends}
use Rattle.apfs_check.proofs.Numbers.{reported}
use Rattle.cmd_lines.specs.ReportText.{report_text}
use Rattle.cmd_lines.specs.Words.{Asked, Line, plain_line, Check, Gen}
use Rattle.cmd_texts.specs.Handed.{Looked, LookFailed, OfImage, made, Stored, StoreFailed}
use Rattle.cmd_lines.specs.Outcome.{Outcome, Written, Faulty, WrongWords, ReadFailed, WriteFailed, OutOfMemory, Refused, Answered, NoImage, NoFolder, status_of, text_of}
use Rattle.cmd_texts.specs.ByCommand.{From, HandedIn, Made, Nowhere, from_of, takes_folder, lead_of, IsText, IsNamed, IsAnswer, RestsOn, HasResult, profile_of}
use Rattle.cmd_texts.specs.Says.{SaysOn, Fills, FillsBy, FillsOn, AreItemsIf, AreItemsBy, IsSame, IsUntouched, LacksImage, LacksFolder, IsSourceFrom, IsSource, IsTableFault, StopsTable, PutFailed, Ran, HasNoImage, HasNoFolder, HasNoPart, Says, CameTo, wrong_words, no_image, no_folder, no_part, ran, no_memory}
use Rattle.apfs_cli.specs.Rows.{BothWrote, HasText, RanOrNoPart, IsPresentIn, RanNaming, RanRefusing, NamesFault, NamesFeature, NamesAnswer, SaysReadFailed, IsSomePart, SaysOutOfMemory, HasFailedPut, IsGivenFrom, IsGiven, IsAsked, HasDefinedText, HasDefinedAnswer, HasSound, HasUnsound, HasTableFault, IsExactly, IsOrFree, IsCleanOrFree, IsFoundOrFree, HandedFailed, IsUndisturbed, IsCompleted, lead_in, IsRefusal, IsTurnedAway, AsksFolder, IsUntold, MayFill}
use Rattle.cmd_lines.specs.declared.named.Named.{Named}
use Rattle.cmd_lines.specs.declared.named.Named.TheVariants.{InContainer, InUsage, InExport, NoTable, BadTable, NoPartition, PartOutside}
use Rattle.cmd_texts.proofs.Fillings.{none_more}
use Rattle.cmd_texts.proofs.Parts.{whole_prefix, part_on}
use Rattle.apfs_cli.proofs.Owed.{IsOwed, owed}
use Rattle.apfs_cli.proofs.Present.{fault_there, feature_there}

-- ---- the outcome of a status

-- a run that ended with another status than 4 has that of its outcome, whose text and line were written
whole_at : (result status : ℕ) (o : Outcome) (out err : Sunk) → Ends result o out err → result ≡ status → (status ≡ 4 → ⊥) → (status_of o ≡ status) × BothWrote out err o
whole_at result status o out err ends e other =
    elim ends.said [ inl has ↦ (sym has.status_is ∙ e, (ends.text, has.put)) | inr lacks ↦ absurd (other (sym e ∙ lacks.status_is)) ]

-- the outcome of a run, by its status
row : (asked : Option Line) (image : Option Looked) (folder : Option Stored) (result status : ℕ) (out err : Sunk) → (status ≡ 4 → ⊥) → CameTo asked image folder result out err → result ≡ status →
    (o : Outcome) × (status_of o ≡ status) × Says asked image folder out o × BothWrote out err o
row asked image folder result status out err other (o, says, ends) e =
    let whole = whole_at result status o out err ends e other in
    (o, whole.0, says, whole.1)

-- what an outcome says of the run, whichever way led to it
abbrev FactOf : Option Line → Option Looked → Option Stored → Sunk → Outcome → Type 0
FactOf asked image folder out (Faulty lead named) = RanOrNoPart asked image folder out (Faulty lead named)
FactOf asked image folder out WrongWords = asked ≡ None
FactOf asked image folder out (ReadFailed part) = RanOrNoPart asked image folder out (ReadFailed part)
FactOf asked image folder out (OutOfMemory part) = IsSomePart asked image folder out part
FactOf asked image folder out NoImage = HasNoImage asked image
FactOf asked image folder out NoFolder = HasNoFolder asked image folder
FactOf asked image folder out o = Ran asked image folder out o

-- a command came to it
fact_ran : (asked : Option Line) (image : Option Looked) (folder : Option Stored) (out : Sunk) (o : Outcome) → Ran asked image folder out o → FactOf asked image folder out o
fact_ran asked image folder out (Faulty lead named) has = inl has
fact_ran asked image folder out WrongWords has = absurd has.says
fact_ran asked image folder out (ReadFailed part) has = inl has
fact_ran asked image folder out (OutOfMemory part) has = inl has
fact_ran asked image folder out NoImage has = absurd has.says
fact_ran asked image folder out NoFolder has = absurd has.says
fact_ran asked image folder out o has = has

-- the table of partitions stopped the run with it
fact_table : (asked : Option Line) (image : Option Looked) (folder : Option Stored) (out : Sunk) (o : Outcome) → HasNoPart asked image folder o → FactOf asked image folder out o
fact_table asked image folder out o has =
    let P : Outcome → Type 0 = λ x. HasNoPart asked image folder x → FactOf asked image folder out x in
    elim has.stops as (λ _. FactOf asked image folder out o) [ inl stops ↦ subst P (sym stops.1) (λ h. inr h) has | inr stops ↦ subst P (sym stops.0) (λ h. inr h) has ]

fact_of : (asked : Option Line) (image : Option Looked) (folder : Option Stored) (out : Sunk) (o : Outcome) → Says asked image folder out o → FactOf asked image folder out o
fact_of asked image folder out o (wrong_words none is same) = let P : Outcome → Type 0 = λ x. FactOf asked image folder out x in subst P (sym is) none
fact_of asked image folder out o (no_image lacks is same) = let P : Outcome → Type 0 = λ x. FactOf asked image folder out x in subst P (sym is) lacks
fact_of asked image folder out o (no_folder lacks is same) = let P : Outcome → Type 0 = λ x. FactOf asked image folder out x in subst P (sym is) lacks
fact_of asked image folder out o (no_part has same) = fact_table asked image folder out o has
fact_of asked image folder out o (ran has) = fact_ran asked image folder out o has
fact_of asked image folder out o (no_memory is same) = let P : Outcome → Type 0 = λ x. FactOf asked image folder out x in subst P (sym is) (inr (refl, same))

pub text_row : (asked : Option Line) (image : Option Looked) (folder : Option Stored) (result : ℕ) (out err : Sunk) → CameTo asked image folder result out err → result ≡ 0 → HasText asked image folder out err
text_row asked image folder result out err a e = go (row asked image folder result 0 out err (λ h. omega arith) a e)
  where
    go : ((o : Outcome) × (status_of o ≡ 0) × Says asked image folder out o × BothWrote out err o) → HasText asked image folder out err
    go (Written text, at, says, wrote) = (text, fact_of asked image folder out (Written text) says, wrote)
    go (o, at, says, wrote) = absurd (omega arith)

-- ---- the folder

-- no more than the lead was written
lead_prefix : (command : Asked) (lead : List ℕ) → lead ≡ lead_of command → IsPrefix lead (lead_of command)
lead_prefix command lead e =
    let P : List ℕ → Type 0 = λ l. IsPrefix l (lead_of command) in
    subst P (sym e) (whole_prefix (lead_of command))

same_fills : (command : Asked) (source : Looked) (folder : Stored) (part : List ℕ) → IsPrefix part (lead_of command) → IsSame folder → Fills command source folder (AreItemsBy command part)
same_fills command source folder part before same = none_more command source folder (AreItemsBy command part) (λ image. inr (before, inl refl)) same

none_fills : (command : Asked) (source : Looked) (folder : Stored) (part : List ℕ) → IsPrefix part (lead_of command) → Fills command source folder (λ image added. added ≡ []) → Fills command source folder (AreItemsBy command part)
none_fills command source folder part before f = record { added = f.added; none = f.none; are = λ image told. inr (before, inl (f.are image told)); put = f.put; safe = f.safe }

-- whatever the outcome, the folder has all items if a part of the text was written, otherwise a front of them
pub part_fills : (command : Asked) (source : Looked) (folder : Stored) (failed : Type 0) (o : Outcome) → SaysOn command source failed o → FillsBy command source folder o → Fills command source folder (AreItemsBy command (text_of o))
part_fills command source folder failed (Written text) says f = record { added = f.added; none = f.none; are = λ image told. inl (f.are image told); put = f.put; safe = f.safe }
part_fills command source folder failed (Faulty lead named) says f = none_fills command source folder lead (lead_prefix command lead says.0) f
part_fills command source folder failed (ReadFailed part) says f = f
part_fills command source folder failed (WriteFailed part) says f = f
part_fills command source folder failed (OutOfMemory part) says f = f
part_fills command source folder failed (Refused lead feature block) says f = none_fills command source folder lead (lead_prefix command lead says.0) f
part_fills command source folder failed (Answered lead answer) says f = same_fills command source folder lead (lead_prefix command lead says.0) f
part_fills command source folder failed o says f = absurd says

pub part_filled : (command : Asked) (source : Looked) (folder : Option Stored) (failed : Type 0) (o : Outcome) → SaysOn command source failed o → FillsOn command source folder o → FillsOn command source folder (OutOfMemory (text_of o))
part_filled command source None failed o says f = tt
part_filled command source (Some folder) failed o says f = part_fills command source folder failed o says f

-- whatever the outcome, a part of what the command writes was written, or nothing
pub some_part : (asked : Option Line) (image : Option Looked) (folder : Option Stored) (out : Sunk) (o : Outcome) → Says asked image folder out o → IsSomePart asked image folder out (text_of o)
some_part asked image folder out o (wrong_words none is same) = inr (ap text_of is, same)
some_part asked image folder out o (no_image lacks is same) = inr (ap text_of is, same)
some_part asked image folder out o (no_folder lacks is same) = inr (ap text_of is, same)
some_part asked image folder out o (no_part has same) = inr (elim has.stops as (λ _. text_of o ≡ []) [ inl stops ↦ ap text_of stops.1 | inr stops ↦ ap text_of stops.0 ], same)
some_part asked image folder out o (ran has) = inl (record {
  line = has.line;
  words = has.words;
  all = has.all;
  source = has.source;
  source_is = has.source_is;
  says = part_on has.line.command has.source (PutFailed out folder) o has.says;
  fills = part_filled has.line.command has.source folder (PutFailed out folder) o has.says has.fills;
})
some_part asked image folder out o (no_memory is same) = inr (ap text_of is, same)

-- ---- the rows

-- a fault that a command names is present
present_in : (command : Asked) (image : List ℕ) (named : Named) → IsNamed command image named → IsPresentIn command image named
present_in command image (InContainer fault) is = fault_there command image fault is
present_in command image (InUsage slot xid) is = is
present_in command image (InExport slot xid id) is = is
present_in command image named is = absurd is

ran_naming : (asked : Option Line) (image : Option Looked) (folder : Option Stored) (out : Sunk) (lead : List ℕ) (named : Named) → RanOrNoPart asked image folder out (Faulty lead named) →
    RanNaming asked image folder out lead named ⊎ HasNoPart asked image folder (Faulty lead named)
ran_naming asked image folder out lead named (inl has) = inl (has, λ bytes told. present_in has.line.command bytes named (has.says.1 bytes told).there_is)
ran_naming asked image folder out lead named (inr has) = inr has

ran_refusing : (asked : Option Line) (image : Option Looked) (folder : Option Stored) (out : Sunk) (lead : List ℕ) (feature : Feature) (block : ℕ) → Ran asked image folder out (Refused lead feature block) →
    RanRefusing asked image folder out lead feature block
ran_refusing asked image folder out lead feature block has = (has, λ bytes told. feature_there has.line.command bytes feature block (has.says.1 bytes told).there_is)

pub fault_row : (asked : Option Line) (image : Option Looked) (folder : Option Stored) (result : ℕ) (out err : Sunk) → CameTo asked image folder result out err → result ≡ 1 → NamesFault asked image folder out err
fault_row asked image folder result out err a e = go (row asked image folder result 1 out err (λ h. omega arith) a e)
  where
    go : ((o : Outcome) × (status_of o ≡ 1) × Says asked image folder out o × BothWrote out err o) → NamesFault asked image folder out err
    go (Faulty lead named, at, says, wrote) = (lead, named, ran_naming asked image folder out lead named (fact_of asked image folder out (Faulty lead named) says), wrote)
    go (o, at, says, wrote) = absurd (omega arith)

pub usage_row : (asked : Option Line) (image : Option Looked) (folder : Option Stored) (result : ℕ) (out err : Sunk) → CameTo asked image folder result out err → result ≡ 2 → (asked ≡ None) × BothWrote out err WrongWords
usage_row asked image folder result out err a e = go (row asked image folder result 2 out err (λ h. omega arith) a e)
  where
    go : ((o : Outcome) × (status_of o ≡ 2) × Says asked image folder out o × BothWrote out err o) → (asked ≡ None) × BothWrote out err WrongWords
    go (WrongWords, at, says, wrote) = (fact_of asked image folder out WrongWords says, wrote)
    go (o, at, says, wrote) = absurd (omega arith)

pub read_failed_row : (asked : Option Line) (image : Option Looked) (folder : Option Stored) (result : ℕ) (out err : Sunk) → CameTo asked image folder result out err → result ≡ 3 → SaysReadFailed asked image folder out err
read_failed_row asked image folder result out err a e = go (row asked image folder result 3 out err (λ h. omega arith) a e)
  where
    go : ((o : Outcome) × (status_of o ≡ 3) × Says asked image folder out o × BothWrote out err o) → SaysReadFailed asked image folder out err
    go (ReadFailed part, at, says, wrote) = (part, fact_of asked image folder out (ReadFailed part) says, wrote)
    go (o, at, says, wrote) = absurd (omega arith)

pub out_of_memory_row : (asked : Option Line) (image : Option Looked) (folder : Option Stored) (result : ℕ) (out err : Sunk) → CameTo asked image folder result out err → result ≡ 5 → SaysOutOfMemory asked image folder out err
out_of_memory_row asked image folder result out err a e = go (row asked image folder result 5 out err (λ h. omega arith) a e)
  where
    go : ((o : Outcome) × (status_of o ≡ 5) × Says asked image folder out o × BothWrote out err o) → SaysOutOfMemory asked image folder out err
    go (OutOfMemory part, at, says, wrote) = (part, fact_of asked image folder out (OutOfMemory part) says, wrote)
    go (o, at, says, wrote) = absurd (omega arith)

pub feature_row : (asked : Option Line) (image : Option Looked) (folder : Option Stored) (result : ℕ) (out err : Sunk) → CameTo asked image folder result out err → result ≡ 6 → NamesFeature asked image folder out err
feature_row asked image folder result out err a e = go (row asked image folder result 6 out err (λ h. omega arith) a e)
  where
    go : ((o : Outcome) × (status_of o ≡ 6) × Says asked image folder out o × BothWrote out err o) → NamesFeature asked image folder out err
    go (Refused lead feature block, at, says, wrote) = (lead, feature, block, ran_refusing asked image folder out lead feature block (fact_of asked image folder out (Refused lead feature block) says), wrote)
    go (o, at, says, wrote) = absurd (omega arith)

pub answered_row : (asked : Option Line) (image : Option Looked) (folder : Option Stored) (result : ℕ) (out err : Sunk) → CameTo asked image folder result out err → result ≡ 7 → NamesAnswer asked image folder out err
answered_row asked image folder result out err a e = go (row asked image folder result 7 out err (λ h. omega arith) a e)
  where
    go : ((o : Outcome) × (status_of o ≡ 7) × Says asked image folder out o × BothWrote out err o) → NamesAnswer asked image folder out err
    go (Answered lead answer, at, says, wrote) = (lead, answer, fact_of asked image folder out (Answered lead answer) says, wrote)
    go (o, at, says, wrote) = absurd (omega arith)

pub absent_row : (asked : Option Line) (image : Option Looked) (folder : Option Stored) (result : ℕ) (out err : Sunk) → CameTo asked image folder result out err → result ≡ 8 → HasNoImage asked image × BothWrote out err NoImage
absent_row asked image folder result out err a e = go (row asked image folder result 8 out err (λ h. omega arith) a e)
  where
    go : ((o : Outcome) × (status_of o ≡ 8) × Says asked image folder out o × BothWrote out err o) → HasNoImage asked image × BothWrote out err NoImage
    go (NoImage, at, says, wrote) = (fact_of asked image folder out NoImage says, wrote)
    go (o, at, says, wrote) = absurd (omega arith)

pub nowhere_row : (asked : Option Line) (image : Option Looked) (folder : Option Stored) (result : ℕ) (out err : Sunk) → CameTo asked image folder result out err → result ≡ 9 → HasNoFolder asked image folder × BothWrote out err NoFolder
nowhere_row asked image folder result out err a e = go (row asked image folder result 9 out err (λ h. omega arith) a e)
  where
    go : ((o : Outcome) × (status_of o ≡ 9) × Says asked image folder out o × BothWrote out err o) → HasNoFolder asked image folder × BothWrote out err NoFolder
    go (NoFolder, at, says, wrote) = (fact_of asked image folder out NoFolder says, wrote)
    go (o, at, says, wrote) = absurd (omega arith)

-- an outcome of status 4 is that of a failed put on the first sink or into the folder
put_failed : (asked : Option Line) (image : Option Looked) (folder : Option Stored) (out : Sunk) (o : Outcome) → status_of o ≡ 4 → Says asked image folder out o → PutFailed out folder
put_failed asked image folder out (WriteFailed part) e says = (fact_of asked image folder out (WriteFailed part) says).says.0
put_failed asked image folder out o e says = absurd (omega arith)

pub write_failed_row : (asked : Option Line) (image : Option Looked) (folder : Option Stored) (result : ℕ) (out err : Sunk) → CameTo asked image folder result out err → result ≡ 4 → HasFailedPut asked image folder out err
write_failed_row asked image folder result out err (o, says, ends) e = (
  text_of o,
  some_part asked image folder out o says,
  ends.text,
  elim ends.said [ inl has ↦ inl (put_failed asked image folder out o (sym has.status_is ∙ e) says) | inr lacks ↦ inr lacks.failed ],
)

-- ---- when each status comes

-- a run ends with the status of its outcome, or a put of the line failed
pub ended_as : (result : ℕ) (o : Outcome) (out err : Sunk) → Ends result o out err → (result ≡ status_of o) ⊎ (result ≡ 4)
ended_as result o out err ends = elim ends.said [ inl has ↦ inl has.status_is | inr lacks ↦ inr lacks.status_is ]

-- the words ask for one line
pub one_line : (asked : Option Line) (a b : Line) → asked ≡ Some a → asked ≡ Some b → a ≡ b
one_line asked a b first second = Prim.cc

pub no_line : (asked : Option Line) (line : Line) → asked ≡ None → asked ≡ Some line → ⊥
no_line asked line none some = Prim.cc

-- what is lacking for one line is lacking for the other
lacks_image : (asked : Option Line) (image : Option Looked) (a b : Line) → asked ≡ Some a → asked ≡ Some b → LacksImage a image → LacksImage b image
lacks_image asked image a b first second lacks =
    let P : Line → Type 0 = λ l. LacksImage l image in
    subst P (one_line asked a b first second) lacks

lacks_folder : (asked : Option Line) (folder : Option Stored) (a b : Line) → asked ≡ Some a → asked ≡ Some b → LacksFolder a folder → LacksFolder b folder
lacks_folder asked folder a b first second lacks =
    let P : Line → Type 0 = λ l. LacksFolder l folder in
    subst P (one_line asked a b first second) lacks

-- a status, or want of memory; or a put of the line failed
one_of : (result status at : ℕ) → (at ≡ status) ⊎ (at ≡ 5) → (result ≡ at) ⊎ (result ≡ 4) → (result ≡ status) ⊎ ((result ≡ 4) ⊎ (result ≡ 5))
one_of result status at which (inr failed) = inr (inl failed)
one_of result status at (inl s) (inl e) = inl (e ∙ s)
one_of result status at (inr m) (inl e) = inr (inr (e ∙ m))

wrong_status : (asked : Option Line) (image : Option Looked) (folder : Option Stored) (out : Sunk) (o : Outcome) → asked ≡ None → Says asked image folder out o → (status_of o ≡ 2) ⊎ (status_of o ≡ 5)
wrong_status asked image folder out o none (wrong_words e is same) = inl (ap status_of is)
wrong_status asked image folder out o none (no_image lacks is same) = absurd (no_line asked lacks.line none lacks.words)
wrong_status asked image folder out o none (no_folder lacks is same) = absurd (no_line asked lacks.line none lacks.words)
wrong_status asked image folder out o none (no_part has same) = absurd (no_line asked has.line none has.words)
wrong_status asked image folder out o none (ran has) = absurd (no_line asked has.line none has.words)
wrong_status asked image folder out o none (no_memory is same) = inr (ap status_of is)

pub wrong_words_row : (asked : Option Line) (image : Option Looked) (folder : Option Stored) (result : ℕ) (out err : Sunk) → CameTo asked image folder result out err → IsExactly result 2 (asked ≡ None)
wrong_words_row asked image folder result out err a = record {
  only = λ e. (usage_row asked image folder result out err a e).0;
  always = λ none. one_of result 2 (status_of a.0) (wrong_status asked image folder out a.0 none a.1) (ended_as result a.0 out err a.2);
}

absent_status : (asked : Option Line) (image : Option Looked) (folder : Option Stored) (out : Sunk) (o : Outcome) → HasNoImage asked image → Says asked image folder out o → (status_of o ≡ 8) ⊎ (status_of o ≡ 5)
absent_status asked image folder out o l (wrong_words none is same) = absurd (no_line asked l.line none l.words)
absent_status asked image folder out o l (no_image lacks is same) = inl (ap status_of is)
absent_status asked image folder out o l (no_folder lacks is same) = absurd (lacks.has (lacks_image asked image l.line lacks.line l.words lacks.words l.lacks))
absent_status asked image folder out o l (no_part has same) = absurd (has.all.image_there (lacks_image asked image l.line has.line l.words has.words l.lacks))
absent_status asked image folder out o l (ran has) = absurd (has.all.image_there (lacks_image asked image l.line has.line l.words has.words l.lacks))
absent_status asked image folder out o l (no_memory is same) = inr (ap status_of is)

pub no_image_row : (asked : Option Line) (image : Option Looked) (folder : Option Stored) (result : ℕ) (out err : Sunk) → CameTo asked image folder result out err → IsExactly result 8 (HasNoImage asked image)
no_image_row asked image folder result out err a = record {
  only = λ e. (absent_row asked image folder result out err a e).0;
  always = λ l. one_of result 8 (status_of a.0) (absent_status asked image folder out a.0 l a.1) (ended_as result a.0 out err a.2);
}

nowhere_status : (asked : Option Line) (image : Option Looked) (folder : Option Stored) (out : Sunk) (o : Outcome) → HasNoFolder asked image folder → Says asked image folder out o → (status_of o ≡ 9) ⊎ (status_of o ≡ 5)
nowhere_status asked image folder out o l (wrong_words none is same) = absurd (no_line asked l.line none l.words)
nowhere_status asked image folder out o l (no_image lacks is same) = absurd (l.has (lacks_image asked image lacks.line l.line lacks.words l.words lacks.lacks))
nowhere_status asked image folder out o l (no_folder lacks is same) = inl (ap status_of is)
nowhere_status asked image folder out o l (no_part has same) = absurd (has.all.folder_there (lacks_folder asked folder l.line has.line l.words has.words l.lacks))
nowhere_status asked image folder out o l (ran has) = absurd (has.all.folder_there (lacks_folder asked folder l.line has.line l.words has.words l.lacks))
nowhere_status asked image folder out o l (no_memory is same) = inr (ap status_of is)

pub no_folder_row : (asked : Option Line) (image : Option Looked) (folder : Option Stored) (result : ℕ) (out err : Sunk) → CameTo asked image folder result out err → IsExactly result 9 (HasNoFolder asked image folder)
no_folder_row asked image folder result out err a = record {
  only = λ e. (nowhere_row asked image folder result out err a e).0;
  always = λ l. one_of result 9 (status_of a.0) (nowhere_status asked image folder out a.0 l a.1) (ended_as result a.0 out err a.2);
}

-- ---- the bytes on which a command works

-- a source that a command gets from what is handed in tells the bytes that are given
given_in : (p : Bool) (handed source : Looked) (bytes : List ℕ) → IsGivenFrom HandedIn p (Some handed) bytes → IsSourceFrom HandedIn p (Some handed) source → source.bytes ≡ Some bytes
given_in false handed source bytes given is =
    let same : handed ≡ source = Prim.cc in
    let P : Looked → Type 0 = λ s. s.bytes ≡ Some bytes in
    subst P same given
given_in true handed source bytes (disk, told, partition) (other, part, handed_is, found, same) =
    let one : handed ≡ other = Prim.cc in
    let P : Looked → Type 0 = λ s. s.bytes ≡ Some disk in
    let at : other.bytes ≡ Some disk = subst P one told in
    let first : found_part disk ≡ Ok part = found disk at in
    let second : found_part disk ≡ Ok partition.part = partition.found in
    let part_is : part ≡ partition.part = Prim.cc in
    let Q : Looked → Type 0 = λ s. s.bytes ≡ Some bytes in
    let R : Part → Type 0 = λ p. Some (bytes_in disk p) ≡ Some bytes in
    let S : Option (List ℕ) → Type 0 = λ b. sliced part.start part.length b ≡ Some bytes in
    subst Q (sym same) (subst S (sym at) (subst R (sym part_is) (ap (λ (l : List ℕ). Some l) (sym partition.same))))

pub given_source : (f : From) (p : Bool) (image : Option Looked) (source : Looked) (bytes : List ℕ) → IsGivenFrom f p image bytes → IsSourceFrom f p image source → source.bytes ≡ Some bytes
given_source HandedIn p None source bytes given is = absurd given
given_source HandedIn p (Some handed) source bytes given is = given_in p handed source bytes given is
given_source Made p image source bytes given is = absurd given
given_source Nowhere p image source bytes given is =
    let P : Looked → Type 0 = λ s. s.bytes ≡ Some bytes in
    subst P (sym is) (ap (λ (l : List ℕ). Some l) (sym given))

-- no fault of a table is there where bytes are given
no_fault : (disk : List ℕ) (part : Part) (named : Named) → found_part disk ≡ Ok part → IsTableFault disk named → ⊥
no_fault disk part NoTable found there = found_not_faulty disk part gpt.NoTable found there
no_fault disk part BadTable found there = found_not_faulty disk part gpt.BadTable found there
no_fault disk part NoPartition found there = found_not_faulty disk part gpt.NoPartition found there
no_fault disk part (PartOutside at) found there = found_not_faulty disk part (gpt.PartOutside at) found there
no_fault disk part named found there = absurd there

given_no_fault : (f : From) (p : Bool) (image : Option Looked) (disk : Looked) (bytes : List ℕ) (named : Named) → f ≡ HandedIn → p ≡ true → image ≡ Some disk → IsGivenFrom f p image bytes →
    OfImage disk (λ b. IsTableFault b named) → ⊥
given_no_fault HandedIn true None disk bytes named from wanted is given fault = absurd given
given_no_fault HandedIn true (Some handed) disk bytes named from wanted is (b, told, partition) fault =
    let one : handed ≡ disk = Prim.cc in
    let P : Looked → Type 0 = λ s. s.bytes ≡ Some b in
    no_fault b partition.part named partition.found (fault b (subst P one told))
given_no_fault HandedIn false image disk bytes named from wanted is given fault = absurd Prim.cc
given_no_fault Made p image disk bytes named from wanted is given fault = absurd given
given_no_fault Nowhere p image disk bytes named from wanted is given fault = absurd Prim.cc

-- a command came to an outcome over a source that tells the bytes that are given
pub record RanOver (command : Asked) (bytes : List ℕ) (failed : Type 0) (o : Outcome) : Type 0 where
  pub source : Looked
  pub told : source.bytes ≡ Some bytes
  pub says : SaysOn command source failed o

ran_over : (image : Option Looked) (folder : Option Stored) (out : Sunk) (o : Outcome) (line other : Line) (command : Asked) (bytes : List ℕ) (source : Looked) → line ≡ other → other.command ≡ command → IsGiven other image bytes →
    IsSource line image source → SaysOn line.command source (PutFailed out folder) o → RanOver command bytes (PutFailed out folder) o
ran_over image folder out o line other command bytes source same is given source_is says =
    let P : Line → Type 0 = λ l. IsSource l image source in
    let Q : Line → Type 0 = λ l. SaysOn l.command source (PutFailed out folder) o in
    let R : Asked → Type 0 = λ c. SaysOn c source (PutFailed out folder) o in
    record {
      source = source;
      told = given_source (from_of other.command) other.in_partition image source bytes given (subst P same source_is);
      says = subst R is (subst Q same says);
    }

-- where the bytes are given, the command comes to the outcome over them, or a read fails or memory runs out before it
asked_ran : (asked : Option Line) (image : Option Looked) (folder : Option Stored) (out : Sunk) (o : Outcome) (command : Asked) (bytes : List ℕ) → IsAsked asked image folder command bytes → Says asked image folder out o →
    RanOver command bytes (PutFailed out folder) o ⊎ ((status_of o ≡ 3) ⊎ (status_of o ≡ 5))
asked_ran asked image folder out o command bytes is (wrong_words none e same) = absurd (no_line asked is.line none is.words)
asked_ran asked image folder out o command bytes is (no_image lacks e same) = absurd (is.all.image_there (lacks_image asked image lacks.line is.line lacks.words is.words lacks.lacks))
asked_ran asked image folder out o command bytes is (no_folder lacks e same) = absurd (is.all.folder_there (lacks_folder asked folder lacks.line is.line lacks.words is.words lacks.lacks))
asked_ran asked image folder out o command bytes is (no_part has same) =
    let one : has.line ≡ is.line = one_line asked has.line is.line has.words is.words in
    let P : Line → Type 0 = λ l. l.in_partition ≡ true in
    let Q : Line → Type 0 = λ l. from_of l.command ≡ HandedIn in
    elim has.stops as (λ _. RanOver command bytes (PutFailed out folder) o ⊎ ((status_of o ≡ 3) ⊎ (status_of o ≡ 5))) [
      | inl stops ↦ absurd (given_no_fault (from_of is.line.command) is.line.in_partition image has.disk bytes stops.0 (subst Q one has.image_from) (subst P one has.wanted) has.disk_is is.given stops.2)
      | inr stops ↦ inr (inl (ap status_of stops.0))
    ]
asked_ran asked image folder out o command bytes is (ran has) =
    inl (ran_over image folder out o has.line is.line command bytes has.source (one_line asked has.line is.line has.words is.words) is.same is.given has.source_is has.says)
asked_ran asked image folder out o command bytes is (no_memory e same) = inr (inr (ap status_of e))

-- a failed read, a failed put or want of memory
free_of : (result status at : ℕ) → (at ≡ 3) ⊎ (at ≡ 5) → (result ≡ at) ⊎ (result ≡ 4) → IsOrFree result status
free_of result status at which (inr failed) = inr (inr (inl failed))
free_of result status at (inl r) (inl e) = inr (inl (e ∙ r))
free_of result status at (inr m) (inl e) = inr (inr (inr (e ∙ m)))

-- a status of an outcome, or a put of the line failed
or_free : (result status at : ℕ) → IsOrFree at status → (result ≡ at) ⊎ (result ≡ 4) → IsOrFree result status
or_free result status at which (inl e) = let P : ℕ → Type 0 = λ n. IsOrFree n status in subst P (sym e) which
or_free result status at which (inr failed) = inr (inr (inl failed))

-- where the command has a text
text_status : (command : Asked) (source : Looked) (failed : Type 0) (o : Outcome) (bytes wanted : List ℕ) → IsOwed command → source.bytes ≡ Some bytes → IsText command bytes wanted → SaysOn command source failed o → IsOrFree (status_of o) 0
text_status command source failed (Written whole) bytes text owes told defined says = inl refl
text_status command source failed (Faulty lead named) bytes text owes told defined says = absurd ((says.1 bytes told).none (inl (text, defined)))
text_status command source failed (ReadFailed part) bytes text owes told defined says = inr (inl refl)
text_status command source failed (WriteFailed part) bytes text owes told defined says = inr (inr (inl refl))
text_status command source failed (OutOfMemory part) bytes text owes told defined says = inr (inr (inr refl))
text_status command source failed (Refused lead feature block) bytes text owes told defined says = absurd ((says.1 bytes told).none (inl (text, defined)))
text_status command source failed (Answered lead answer) bytes text owes told defined says = absurd ((says.1 bytes told (for_answer answer (Unit {0}) (Unit {0}) (RestsOn command bytes) tt tt (owes.text_rests bytes text defined))).none text defined)
text_status command source failed o bytes text owes told defined says = absurd says

pub whole_row : (asked : Option Line) (image : Option Looked) (folder : Option Stored) (result : ℕ) (out err : Sunk) → CameTo asked image folder result out err → HasDefinedText asked image folder → IsOrFree result 0
whole_row asked image folder result out err (o, says, ends) has =
    elim (asked_ran asked image folder out o has.command has.bytes has.is says) as (λ _. IsOrFree result 0) [
      | inl over ↦ or_free result 0 (status_of o) (text_status has.command over.source (PutFailed out folder) o has.bytes has.text (owed has.command) over.told has.defined over.says) (ended_as result o out err ends)
      | inr free ↦ free_of result 0 (status_of o) free (ended_as result o out err ends)
    ]

-- where it has an answer
answer_status : (command : Asked) (source : Looked) (failed : Type 0) (o : Outcome) (bytes : List ℕ) (wanted : Answer) → IsOwed command → source.bytes ≡ Some bytes → IsAnswer command bytes wanted → SaysOn command source failed o → IsOrFree (status_of o) 7
answer_status command source failed (Written text) bytes wanted owes told defined says = absurd (owes.apart bytes text wanted (says.is bytes told (owes.answer_rests bytes wanted defined)) defined)
answer_status command source failed (Faulty lead named) bytes wanted owes told defined says = absurd ((says.1 bytes told).none (inr (wanted, defined)))
answer_status command source failed (ReadFailed part) bytes wanted owes told defined says = inr (inl refl)
answer_status command source failed (WriteFailed part) bytes wanted owes told defined says = inr (inr (inl refl))
answer_status command source failed (OutOfMemory part) bytes wanted owes told defined says = inr (inr (inr refl))
answer_status command source failed (Refused lead feature block) bytes wanted owes told defined says = absurd ((says.1 bytes told).none (inr (wanted, defined)))
answer_status command source failed (Answered lead answer) bytes wanted owes told defined says = inl refl
answer_status command source failed o bytes wanted owes told defined says = absurd says

pub always_answered_row : (asked : Option Line) (image : Option Looked) (folder : Option Stored) (result : ℕ) (out err : Sunk) → CameTo asked image folder result out err → HasDefinedAnswer asked image folder → IsOrFree result 7
always_answered_row asked image folder result out err (o, says, ends) has =
    elim (asked_ran asked image folder out o has.command has.bytes has.is says) as (λ _. IsOrFree result 7) [
      | inl over ↦ or_free result 7 (status_of o) (answer_status has.command over.source (PutFailed out folder) o has.bytes has.answer (owed has.command) over.told has.defined over.says) (ended_as result o out err ends)
      | inr free ↦ free_of result 7 (status_of o) free (ended_as result o out err ends)
    ]

-- where it has one of both
result_status : (command : Asked) (source : Looked) (failed : Type 0) (o : Outcome) (bytes : List ℕ) → source.bytes ≡ Some bytes → HasResult command bytes → SaysOn command source failed o → IsCleanOrFree (status_of o)
result_status command source failed (Written text) bytes told has says = inl refl
result_status command source failed (Faulty lead named) bytes told has says = absurd ((says.1 bytes told).none has)
result_status command source failed (ReadFailed part) bytes told has says = inr (inr (inl refl))
result_status command source failed (WriteFailed part) bytes told has says = inr (inr (inr (inl refl)))
result_status command source failed (OutOfMemory part) bytes told has says = inr (inr (inr (inr refl)))
result_status command source failed (Refused lead feature block) bytes told has says = absurd ((says.1 bytes told).none has)
result_status command source failed (Answered lead answer) bytes told has says = inr (inl refl)
result_status command source failed o bytes told has says = absurd says

-- a status of an outcome, or a put of the line failed
clean_or_free : (result at : ℕ) → IsCleanOrFree at → (result ≡ at) ⊎ (result ≡ 4) → IsCleanOrFree result
clean_or_free result at which (inl e) = let P : ℕ → Type 0 = λ n. IsCleanOrFree n in subst P (sym e) which
clean_or_free result at which (inr failed) = inr (inr (inr (inl failed)))

pub clean_row : (asked : Option Line) (image : Option Looked) (folder : Option Stored) (result : ℕ) (out err : Sunk) → CameTo asked image folder result out err → HasSound asked image folder → IsCleanOrFree result
clean_row asked image folder result out err (o, says, ends) has =
    elim (asked_ran asked image folder out o has.command has.bytes has.is says) as (λ _. IsCleanOrFree result) [
      | inl over ↦ clean_or_free result (status_of o)
          (result_status has.command over.source (PutFailed out folder) o has.bytes over.told ((owed has.command).result has.profile has.checks has.bytes has.sound) over.says) (ended_as result o out err ends)
      | inr free ↦ inr (free_of result 7 (status_of o) free (ended_as result o out err ends))
    ]

-- where it checks the container, which isn't well-formed
unsound_status : (command : Asked) (source : Looked) (failed : Type 0) (o : Outcome) (bytes : List ℕ) (profile : Profile) → IsOwed command → source.bytes ≡ Some bytes → profile_of command ≡ Some profile → (IsWellFormed profile bytes → ⊥) → SaysOn command source failed o → IsFoundOrFree (status_of o)
unsound_status command source failed (Written text) bytes profile owes told checks unsound says = absurd (unsound (owes.text_sound profile checks bytes text (says.is bytes told (owes.rests profile checks bytes))))
unsound_status command source failed (Faulty lead named) bytes profile owes told checks unsound says = inl refl
unsound_status command source failed (ReadFailed part) bytes profile owes told checks unsound says = inr (inr (inl refl))
unsound_status command source failed (WriteFailed part) bytes profile owes told checks unsound says = inr (inr (inr (inl refl)))
unsound_status command source failed (OutOfMemory part) bytes profile owes told checks unsound says = inr (inr (inr (inr refl)))
unsound_status command source failed (Refused lead feature block) bytes profile owes told checks unsound says = inr (inl refl)
unsound_status command source failed (Answered lead answer) bytes profile owes told checks unsound says = absurd (unsound (owes.answer_sound profile checks bytes answer (says.1 bytes told (for_answer answer (Unit {0}) (Unit {0}) (RestsOn command bytes) tt tt (owes.rests profile checks bytes))).answer_is))
unsound_status command source failed o bytes profile owes told checks unsound says = absurd says

found_or_free : (result at : ℕ) → IsFoundOrFree at → (result ≡ at) ⊎ (result ≡ 4) → IsFoundOrFree result
found_or_free result at which (inl e) = let P : ℕ → Type 0 = λ n. IsFoundOrFree n in subst P (sym e) which
found_or_free result at which (inr failed) = inr (inr (inr (inl failed)))

pub flawed_row : (asked : Option Line) (image : Option Looked) (folder : Option Stored) (result : ℕ) (out err : Sunk) → CameTo asked image folder result out err → HasUnsound asked image folder → IsFoundOrFree result
flawed_row asked image folder result out err (o, says, ends) has =
    elim (asked_ran asked image folder out o has.command has.bytes has.is says) as (λ _. IsFoundOrFree result) [
      | inl over ↦ found_or_free result (status_of o)
          (unsound_status has.command over.source (PutFailed out folder) o has.bytes has.profile (owed has.command) over.told has.checks has.unsound over.says) (ended_as result o out err ends)
      | inr free ↦ inr (free_of result 6 (status_of o) free (ended_as result o out err ends))
    ]

-- ---- a fault of the table

-- a partition that is found, where a fault of the table is there
found_faulty : (f : From) (p : Bool) (image : Option Looked) (handed source : Looked) (disk : List ℕ) (named : Named) → f ≡ HandedIn → p ≡ true → image ≡ Some handed → handed.bytes ≡ Some disk → IsTableFault disk named → IsSourceFrom f p image source → ⊥
found_faulty HandedIn true image handed source disk named from wanted is told there (other, part, handed_is, found, same) =
    let one : handed ≡ other = Prim.cc in
    let P : Looked → Type 0 = λ s. s.bytes ≡ Some disk in
    no_fault disk part named (found disk (subst P one told)) there
found_faulty HandedIn false image handed source disk named from wanted is told there source_is = absurd Prim.cc
found_faulty Made p image handed source disk named from wanted is told there source_is = absurd Prim.cc
found_faulty Nowhere p image handed source disk named from wanted is told there source_is = absurd Prim.cc

faulty_status : (asked : Option Line) (image : Option Looked) (folder : Option Stored) (out : Sunk) (o : Outcome) (named : Named) → HasTableFault asked image folder named → Says asked image folder out o → IsOrFree (status_of o) 1
faulty_status asked image folder out o named f (wrong_words none e same) = absurd (no_line asked f.line none f.words)
faulty_status asked image folder out o named f (no_image lacks e same) = absurd (f.all.image_there (lacks_image asked image lacks.line f.line lacks.words f.words lacks.lacks))
faulty_status asked image folder out o named f (no_folder lacks e same) = absurd (f.all.folder_there (lacks_folder asked folder lacks.line f.line lacks.words f.words lacks.lacks))
faulty_status asked image folder out o named f (no_part has same) = elim has.stops as (λ _. IsOrFree (status_of o) 1) [ inl stops ↦ inl (ap status_of stops.1) | inr stops ↦ inr (inl (ap status_of stops.0)) ]
faulty_status asked image folder out o named f (ran has) =
    let one : has.line ≡ f.line = one_line asked has.line f.line has.words f.words in
    let P : Line → Type 0 = λ l. IsSource l image has.source in
    absurd (found_faulty (from_of f.line.command) f.line.in_partition image f.source has.source f.disk named f.image_from f.wanted f.source_is f.told f.there (subst P one has.source_is))
faulty_status asked image folder out o named f (no_memory e same) = inr (inr (inr (ap status_of e)))

pub no_part_row : (asked : Option Line) (image : Option Looked) (folder : Option Stored) (result : ℕ) (out err : Sunk) → CameTo asked image folder result out err → (named : Named) → HasTableFault asked image folder named → IsOrFree result 1
no_part_row asked image folder result out err (o, says, ends) named has = or_free result 1 (status_of o) (faulty_status asked image folder out o named has says) (ended_as result o out err ends)

-- ---- nothing failed

-- no read of an image that was made fails
pub made_sure : (bytes : List ℕ) → LookFailed (made bytes) → ⊥
made_sure bytes rose = omega (arith, rose)

source_sure : (f : From) (p : Bool) (image : Option Looked) (source : Looked) → (HandedFailed image → ⊥) → IsSourceFrom f p image source → LookFailed source → ⊥
source_sure HandedIn false image source sure is failed = let P : Option Looked → Type 0 = λ i. HandedFailed i in sure (subst P (sym is) failed)
source_sure HandedIn true image source sure (disk, part, is, found, same) failed =
    let P : Option Looked → Type 0 = λ i. HandedFailed i in
    let Q : Looked → Type 0 = λ s. LookFailed s in
    sure (subst P (sym is) (subst Q same failed))
source_sure Made p image source sure is failed = let Q : Looked → Type 0 = λ s. LookFailed s in made_sure is.0 (subst Q is.1 failed)
source_sure Nowhere p image source sure is failed = let Q : Looked → Type 0 = λ s. LookFailed s in made_sure [] (subst Q is failed)

undisturbed_on : (command : Asked) (source : Looked) (failed : Type 0) (o : Outcome) → (LookFailed source → ⊥) → (failed → ⊥) → SaysOn command source failed o → IsCompleted (status_of o)
undisturbed_on command source failed (Written text) sure put says = inl refl
undisturbed_on command source failed (Faulty lead named) sure put says = inr (inr (inl refl))
undisturbed_on command source failed (ReadFailed part) sure put says = absurd (sure says.0)
undisturbed_on command source failed (WriteFailed part) sure put says = absurd (put says.0)
undisturbed_on command source failed (OutOfMemory part) sure put says = inr (inr (inr (inr refl)))
undisturbed_on command source failed (Refused lead feature block) sure put says = inr (inr (inr (inl refl)))
undisturbed_on command source failed (Answered lead answer) sure put says = inr (inl refl)
undisturbed_on command source failed o sure put says = absurd says

put_sure : (out : Sunk) (folder : Option Stored) → (Failed out → ⊥) → (StoreFailed folder → ⊥) → PutFailed out folder → ⊥
put_sure out folder text store (inl failed) = text failed
put_sure out folder text store (inr failed) = store failed

undisturbed_status : (asked : Option Line) (image : Option Looked) (folder : Option Stored) (out err : Sunk) (o : Outcome) → IsUndisturbed asked image folder out err → Says asked image folder out o → IsCompleted (status_of o)
undisturbed_status asked image folder out err o u (wrong_words none e same) = absurd (no_line asked u.line none u.words)
undisturbed_status asked image folder out err o u (no_image lacks e same) = absurd (u.all.image_there (lacks_image asked image lacks.line u.line lacks.words u.words lacks.lacks))
undisturbed_status asked image folder out err o u (no_folder lacks e same) = absurd (u.all.folder_there (lacks_folder asked folder lacks.line u.line lacks.words u.words lacks.lacks))
undisturbed_status asked image folder out err o u (no_part has same) =
    let P : Option Looked → Type 0 = λ i. HandedFailed i in
    elim has.stops as (λ _. IsCompleted (status_of o)) [ inl stops ↦ inr (inr (inl (ap status_of stops.1))) | inr stops ↦ absurd (u.source (subst P (sym has.disk_is) stops.1)) ]
undisturbed_status asked image folder out err o u (ran has) =
    undisturbed_on has.line.command has.source (PutFailed out folder) o (source_sure (from_of has.line.command) has.line.in_partition image has.source u.source has.source_is) (put_sure out folder u.text u.store) has.says
undisturbed_status asked image folder out err o u (no_memory e same) = inr (inr (inr (inr (ap status_of e))))

-- where the second sink didn't fail, a run ends with the status of its outcome
ended_whole : (result : ℕ) (o : Outcome) (out err : Sunk) → (Failed err → ⊥) → Ends result o out err → result ≡ status_of o
ended_whole result o out err sink ends = elim ends.said [ inl has ↦ has.status_is | inr lacks ↦ absurd (sink lacks.failed) ]

pub completed_row : (asked : Option Line) (image : Option Looked) (folder : Option Stored) (result : ℕ) (out err : Sunk) → CameTo asked image folder result out err → IsUndisturbed asked image folder out err → IsCompleted result
completed_row asked image folder result out err (o, says, ends) u =
    let P : ℕ → Type 0 = λ n. IsCompleted n in
    subst P (sym (ended_whole result o out err u.line_put ends)) (undisturbed_status asked image folder out err o u says)

-- ---- what a stop leaves

-- a command that takes its image from what is handed in writes nothing before it looks
lead_none : (command : Asked) → from_of command ≡ HandedIn → lead_of command ≡ []
lead_none (Gen n) e = absurd Prim.cc
lead_none command e = refl

lead_of_line : (asked : Option Line) (line : Line) → asked ≡ Some line → lead_in asked ≡ lead_of line.command
lead_of_line asked line words = ap lead_in words

part_lead : (asked : Option Line) (image : Option Looked) (folder : Option Stored) (lead : List ℕ) (named : Named) → HasNoPart asked image folder (Faulty lead named) → lead ≡ lead_in asked
part_lead asked image folder lead named has = go has.stops
  where
    go : StopsTable has.disk (Faulty lead named) → lead ≡ lead_in asked
    go (inl stops) =
        let same : Faulty lead named ≡ Faulty [] stops.0 = stops.1 in
        let none : lead ≡ [] = Prim.cc in
        none ∙ sym (lead_none has.line.command has.image_from) ∙ sym (lead_of_line asked has.line has.words)
    go (inr stops) = let same : Faulty lead named ≡ ReadFailed [] = stops.0 in absurd Prim.cc

wrote_lead : (asked : Option Line) (out : Sunk) (lead : List ℕ) → lead ≡ lead_in asked → Wrote out.old out.new lead → Wrote out.old out.new (lead_in asked)
wrote_lead asked out lead same wrote = let P : List ℕ → Type 0 = λ l. Wrote out.old out.new l in subst P same wrote

fault_lead : (asked : Option Line) (image : Option Looked) (folder : Option Stored) (out err : Sunk) → NamesFault asked image folder out err → Wrote out.old out.new (lead_in asked)
fault_lead asked image folder out err (lead, named, inl (has, present), wrote) = wrote_lead asked out lead (has.says.0 ∙ sym (lead_of_line asked has.line has.words)) wrote.0
fault_lead asked image folder out err (lead, named, inr has, wrote) = wrote_lead asked out lead (part_lead asked image folder lead named has) wrote.0

feature_lead : (asked : Option Line) (image : Option Looked) (folder : Option Stored) (out err : Sunk) → NamesFeature asked image folder out err → Wrote out.old out.new (lead_in asked)
feature_lead asked image folder out err (lead, feature, block, (has, present), wrote) = wrote_lead asked out lead (has.says.0 ∙ sym (lead_of_line asked has.line has.words)) wrote.0

answer_lead : (asked : Option Line) (image : Option Looked) (folder : Option Stored) (out err : Sunk) → NamesAnswer asked image folder out err → Wrote out.old out.new (lead_in asked)
answer_lead asked image folder out err (lead, answer, has, wrote) = wrote_lead asked out lead (has.says.0 ∙ sym (lead_of_line asked has.line has.words)) wrote.0

pub lead_row : (asked : Option Line) (image : Option Looked) (folder : Option Stored) (result : ℕ) (out err : Sunk) → CameTo asked image folder result out err → IsRefusal result → Wrote out.old out.new (lead_in asked)
lead_row asked image folder result out err a (inl e) = fault_lead asked image folder out err (fault_row asked image folder result out err a e)
lead_row asked image folder result out err a (inr (inl e)) = feature_lead asked image folder out err (feature_row asked image folder result out err a e)
lead_row asked image folder result out err a (inr (inr e)) = answer_lead asked image folder out err (answered_row asked image folder result out err a e)

pub turned_away_row : (asked : Option Line) (image : Option Looked) (folder : Option Stored) (result : ℕ) (out err : Sunk) → CameTo asked image folder result out err → IsTurnedAway result → Wrote out.old out.new []
turned_away_row asked image folder result out err a (inl e) = (usage_row asked image folder result out err a e).1.0
turned_away_row asked image folder result out err a (inr (inl e)) = (absent_row asked image folder result out err a e).1.0
turned_away_row asked image folder result out err a (inr (inr e)) = (nowhere_row asked image folder result out err a e).1.0

-- nothing was added to a folder
nothing_added : (folder : Stored) (added : List Item) → added ≡ [] → Filled folder.old folder.new added → IsSame folder
nothing_added folder added none put = let P : List Item → Type 0 = λ items. Filled folder.old folder.new items in subst P none put

none_filled : (command : Asked) (source : Looked) (folder : Stored) (P : List ℕ → List Item → Type 0) → takes_folder command ≡ false → Fills command source folder P → IsSame folder
none_filled command source folder P e f = nothing_added folder f.added (f.none e) f.put

pub fills_none : (command : Asked) (source : Looked) (folder : Stored) (o : Outcome) → takes_folder command ≡ false → FillsBy command source folder o → IsSame folder
fills_none command source folder (Written text) e f = none_filled command source folder (AreItemsIf command) e f
fills_none command source folder (Faulty lead named) e f = none_filled command source folder (λ image added. added ≡ []) e f
fills_none command source folder (ReadFailed part) e f = none_filled command source folder (AreItemsBy command part) e f
fills_none command source folder (WriteFailed part) e f = none_filled command source folder (AreItemsBy command part) e f
fills_none command source folder (OutOfMemory part) e f = none_filled command source folder (AreItemsBy command part) e f
fills_none command source folder (Refused lead feature block) e f = none_filled command source folder (λ image added. added ≡ []) e f
fills_none command source folder o e f = f

sliced_none : (start length : ℕ) (b : Option (List ℕ)) → sliced start length b ≡ None → b ≡ None
sliced_none start length None e = refl
sliced_none start length (Some bytes) e = absurd Prim.cc

-- a source that doesn't tell its bytes comes from one that doesn't
untold_in : (p : Bool) (handed source : Looked) → IsSourceFrom HandedIn p (Some handed) source → source.bytes ≡ None → handed.bytes ≡ None
untold_in false handed source is none =
    let same : handed ≡ source = Prim.cc in
    ap (λ (s : Looked). s.bytes) same ∙ none
untold_in true handed source (other, part, handed_is, found, same) none =
    let one : handed ≡ other = Prim.cc in
    let at : sliced part.start part.length other.bytes ≡ None = ap (λ (s : Looked). s.bytes) (sym same) ∙ none in
    ap (λ (s : Looked). s.bytes) one ∙ sliced_none part.start part.length other.bytes at

-- no source is had of what isn't handed in
from_none : (p : Bool) (source : Looked) → IsSourceFrom HandedIn p None source → ⊥
from_none false source is = absurd Prim.cc
from_none true source (disk, part, is, found, same) = absurd Prim.cc

untold_source : (f : From) (p : Bool) (image : Option Looked) (source : Looked) → IsSourceFrom f p image source → source.bytes ≡ None → IsUntold image
untold_source HandedIn p None source is none = absurd (from_none p source is)
untold_source HandedIn p (Some handed) source is none = untold_in p handed source is none
untold_source Made p image source is none = let e : (made is.0).bytes ≡ None = ap (λ (s : Looked). s.bytes) (sym is.1) ∙ none in absurd Prim.cc
untold_source Nowhere p image source is none = let e : (made []).bytes ≡ None = ap (λ (s : Looked). s.bytes) (sym is) ∙ none in absurd Prim.cc

-- a folder where a fault or a feature stopped the run: as before, or the source doesn't tell its bytes
stopped_fills : (command : Asked) (source : Looked) (folder : Stored) → Fills command source folder (λ image added. added ≡ []) → IsSame folder ⊎ (source.bytes ≡ None)
stopped_fills command source folder f = go source.bytes refl
  where
    go : (b : Option (List ℕ)) → source.bytes ≡ b → IsSame folder ⊎ (source.bytes ≡ None)
    go None e = inr e
    go (Some bytes) e = inl (nothing_added folder f.added (f.are bytes e) f.put)

-- what may be added, by the outcome
filled_by : (asked : Option Line) (image : Option Looked) (result : ℕ) (command : Asked) (source : Looked) (folder : Stored) (o : Outcome) → AsksFolder asked → (source.bytes ≡ None → IsUntold image) → result ≡ status_of o →
    (MayFill asked image result → ⊥) → FillsBy command source folder o → IsSame folder
filled_by asked image result command source folder (Written text) asks untold e kept f = absurd (kept (asks, inl (inl e)))
filled_by asked image result command source folder (Faulty lead named) asks untold e kept f =
    elim (stopped_fills command source folder f) as (λ _. IsSame folder) [ inl same ↦ same | inr none ↦ absurd (kept (asks, inr (untold none, inl e))) ]
filled_by asked image result command source folder (ReadFailed part) asks untold e kept f = absurd (kept (asks, inl (inr (inl e))))
filled_by asked image result command source folder (WriteFailed part) asks untold e kept f = absurd (kept (asks, inl (inr (inr (inl e)))))
filled_by asked image result command source folder (OutOfMemory part) asks untold e kept f = absurd (kept (asks, inl (inr (inr (inr e)))))
filled_by asked image result command source folder (Refused lead feature block) asks untold e kept f =
    elim (stopped_fills command source folder f) as (λ _. IsSame folder) [ inl same ↦ same | inr none ↦ absurd (kept (asks, inr (untold none, inr e))) ]
filled_by asked image result command source folder o asks untold e kept f = f

asks_by : (asked : Option Line) (line : Line) → asked ≡ Some line → takes_folder line.command ≡ true → AsksFolder asked
asks_by asked line words takes = let P : Option Line → Type 0 = λ a. AsksFolder a in subst P (sym words) takes

ran_kept : (asked : Option Line) (image : Option Looked) (folder : Option Stored) (result : ℕ) (out : Sunk) (o : Outcome) → Ran asked image folder out o → (result ≡ status_of o) ⊎ (result ≡ 4) → (MayFill asked image result → ⊥) → IsUntouched folder
ran_kept asked image None result out o has ended kept = tt
ran_kept asked image (Some stored) result out o has ended kept = go (takes_folder has.line.command) refl ended
  where
    go : (b : Bool) → takes_folder has.line.command ≡ b → (result ≡ status_of o) ⊎ (result ≡ 4) → IsSame stored
    go false e end = fills_none has.line.command has.source stored o e has.fills
    go true e (inr failed) = absurd (kept (asks_by asked has.line has.words e, inl (inr (inr (inl failed)))))
    go true e (inl is) =
        filled_by asked image result has.line.command has.source stored o (asks_by asked has.line has.words e)
        (untold_source (from_of has.line.command) has.line.in_partition image has.source has.source_is) is kept has.fills

pub folder_row : (asked : Option Line) (image : Option Looked) (folder : Option Stored) (result : ℕ) (out err : Sunk) → CameTo asked image folder result out err → (MayFill asked image result → ⊥) → IsUntouched folder
folder_row asked image folder result out err (o, says, ends) kept = go says
  where
    go : Says asked image folder out o → IsUntouched folder
    go (wrong_words none e same) = same
    go (no_image lacks e same) = same
    go (no_folder lacks e same) = same
    go (no_part has same) = same
    go (ran has) = ran_kept asked image folder result out o has (ended_as result o out err ends) kept
    go (no_memory e same) = same

-- ---- what `check` comes to of a source that is there

-- the words of `check`, and what is asked of the source
check_asked : (profile : Profile) (source : Looked) (bytes : List ℕ) → source.bytes ≡ Some bytes → IsAsked (Some (plain_line (Check profile))) (Some source) None (Check profile) bytes
check_asked profile source bytes told = record { line = plain_line (Check profile); words = refl; same = refl; all = record { image_there = λ lacks. lacks; folder_there = λ lacks. lacks }; given = told }

-- a well-formed container has a report
pub checked_whole : (profile : Profile) (source : Looked) (result : ℕ) (out err : Sunk) → CameTo (Some (plain_line (Check profile))) (Some source) None result out err →
    (image : List ℕ) → source.bytes ≡ Some image → IsWellFormed profile image → IsOrFree result 0
checked_whole profile source result out err a image told right =
    let has = reported profile image right in
    whole_row (Some (plain_line (Check profile))) (Some source) None result out err a
    (record { command = Check profile; bytes = image; text = report_text has.0; is = check_asked profile source image told; defined = (has.0, record { right = right; report = has.1 }, refl) })

-- of another a fault or a feature is named
pub checked_flawed : (profile : Profile) (source : Looked) (result : ℕ) (out err : Sunk) → CameTo (Some (plain_line (Check profile))) (Some source) None result out err →
    (image : List ℕ) → source.bytes ≡ Some image → (IsWellFormed profile image → ⊥) → IsFoundOrFree result
checked_flawed profile source result out err a image told unsound =
    flawed_row (Some (plain_line (Check profile))) (Some source) None result out err a
    (record { command = Check profile; bytes = image; profile = profile; is = check_asked profile source image told; checks = refl; unsound = unsound })
