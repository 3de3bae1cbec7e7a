-- What a run of a command has come to, from what its parts answer.
use Rattle.std.specs.Prelude.{◌≡◌, ◌≤◌, ℕ, List, [], Option, Result, Ok, Err, refl}
use Rattle.std.proofs.Common.{inl, inr, ◌∙◌}
use Rattle.obj_base.specs.declared.stop.Stop.{Stop}
use Rattle.obj_base.specs.declared.stop.Stop.TheVariants as layer
use Rattle.obj_base.specs.Stops.{Tells}
use Rattle.apfs_check.specs.declared.fault.Fault.{Fault}
use Rattle.path_search.specs.declared.answer.Answer.{Answer}
use Rattle.cmd_lines.proofs.Puts.{wrote_nothing, part_taken, rose_later}
use Rattle.cmd_lines.specs.Texts.{IsPrefix}
use Rattle.cmd_lines.specs.Written.{Sunk, Failed}
use Rattle.cmd_lines.specs.Putting.{IsPut}
use Rattle.cmd_lines.specs.declared.stopped.Stopped.{Stopped}
use Rattle.cmd_lines.specs.declared.stopped.Stopped.TheVariants as stops
use Rattle.cmd_texts.specs.ByCommand.{lead_of, IsText, IsFault, IsNamed, IsFeature, IsAnswer, HasResult}
use Rattle.cmd_texts.specs.Formed.{IsFormed}
use Rattle.cmd_texts.specs.Handed.{Looked, LookFailed, OfImage, looked}
use Rattle.cmd_texts.specs.Says.{IsPart, IsReadPart, BeginsText, IsTextIf, StopsAt, AnswersAt, SaysOn}
use Rattle.cmd_texts.specs.Ended.{HasEnded}
use Rattle.cmd_lines.specs.Outcome.{Outcome, Written, Faulty, ReadFailed, WriteFailed, OutOfMemory, Refused, Answered}
use Rattle.cmd_lines.specs.Stops.{outcome_of, stopped_at}
use Rattle.cmd_lines.specs.Words.{Asked}

-- a prefix of a text that a command has is a part of what it writes
pub part_of_text : (command : Asked) (source : Looked) (text part : List ℕ) → IsFormed command text → OfImage source (λ image. IsTextIf command image text) → IsPrefix part text → IsPart command source part
part_of_text command source text part formed told prefix = record { formed = inr (text, formed, prefix); begins = λ image given. inr (text, told image given, prefix) }

-- nothing is a part of what it writes
pub nothing_part : (command : Asked) (source : Looked) → IsPart command source []
nothing_part command source = record { formed = inl (lead_of command, refl); begins = λ image given. inl (lead_of command, refl) }

-- a text was put that is the command's, where what it rests on holds
pub put_ended_if : (command : Asked) (source : Looked) (text : List ℕ) (ended : Result Unit Stopped) (out : Sunk) → IsFormed command text → OfImage source (λ image. IsTextIf command image text) → IsPut text ended out → HasEnded command source ended out
put_ended_if command source text (Ok done) out formed told put = (text, record { formed = formed; is = told }, put.0)
put_ended_if command source text (Err stops.WriteFailed) out formed told put =
    let taken = part_taken out.old out.new text put.1 in
    (taken.0, (put.0, part_of_text command source text taken.0 formed told taken.1), taken.2)
put_ended_if command source text (Err stops.OutOfMemory) out formed told put =
    let taken = part_taken out.old out.new text put.1 in
    (taken.0, part_of_text command source text taken.0 formed told taken.1, taken.2)
put_ended_if command source text (Err stopped) out formed told put = absurd put.0

-- the text of a command was put
pub put_ended : (command : Asked) (source : Looked) (text : List ℕ) (ended : Result Unit Stopped) (out : Sunk) → IsFormed command text → OfImage source (λ image. IsText command image text) → IsPut text ended out → HasEnded command source ended out
put_ended command source text ended out formed told put = put_ended_if command source text ended out formed (λ image given rests. told image given) put

-- nothing was written before a read failed
pub nothing_read : (command : Asked) (source : Looked) → IsReadPart command source []
nothing_read command source = record { is = nothing_part command source; before = λ e. (lead_of command, refl) }

-- a read failed before anything was written
pub read_ended : (command : Asked) (source : Looked) (contents : Option (List ℕ)) (count : ℕ) → LookFailed source →
    HasEnded command source (Err stops.ReadFailed) (record { old = contents; new = contents; old_faults = count; new_faults = count })
read_ended command source contents count failed = ([], (failed, nothing_read command source), wrote_nothing contents)

-- memory ran out before anything was written
pub no_memory_ended : (command : Asked) (source : Looked) (contents : Option (List ℕ)) (count : ℕ) →
    HasEnded command source (Err stops.OutOfMemory) (record { old = contents; new = contents; old_faults = count; new_faults = count })
no_memory_ended command source contents count = ([], nothing_part command source, wrote_nothing contents)

-- what a stop says of a command and an image
abbrev pub StopTells : {F : Type 0} → Asked → List ℕ → (F → Fault) → Stop F → Type 0
StopTells command image fault stop = Tells (λ why. StopsAt command image (IsFault command image (fault why))) (λ feature block. StopsAt command image (IsFeature command image feature block)) stop

-- a layer stopped a command before anything was written; it has no lead
pub stop_ended : {F T : Type 0} (command : Asked) (source : Looked) (fault : F → Fault) (stop : Stop F) (contents : Option (List ℕ)) (count : ℕ) → [] ≡ lead_of command →
    OfImage source (λ image. StopTells command image fault stop) → (◌≡◌ {A = Result T (Stop F)} (Err stop) (Err layer.ReadFault) → LookFailed source) →
    HasEnded command source (Err (stopped_at fault stop)) (record { old = contents; new = contents; old_faults = count; new_faults = count })
stop_ended command source fault (layer.Found why) contents count lead told cause = ([], (lead, told), wrote_nothing contents)
stop_ended command source fault (layer.Unsupported feature block) contents count lead told cause = ([], (lead, told), wrote_nothing contents)
stop_ended command source fault layer.ReadFault contents count lead told cause = read_ended command source contents count (cause refl)
stop_ended command source fault layer.NoMemory contents count lead told cause = no_memory_ended command source contents count

-- a command has neither a text nor an answer
pub no_result : (command : Asked) (image : List ℕ) → ((text : List ℕ) → IsText command image text → ⊥) → ((answer : Answer) → IsAnswer command image answer → ⊥) → HasResult command image → ⊥
no_result command image text answer (inl has) = text has.0 has.1
no_result command image text answer (inr has) = answer has.0 has.1

-- ---- a source that tells the same bytes and fails where the other does

pub of_same : (source other : Looked) (P : List ℕ → Type 0) → source.bytes ≡ other.bytes → OfImage source P → OfImage other P
of_same source other P same fact image told = fact image (same ∙ told)

part_same : (command : Asked) (source other : Looked) (part : List ℕ) → source.bytes ≡ other.bytes → IsPart command source part → IsPart command other part
part_same command source other part same is = record { formed = is.formed; begins = of_same source other (λ image. BeginsText command image part) same is.begins }

-- an outcome says the same of it
pub says_same : (command : Asked) (source other : Looked) (failed : Type 0) (o : Outcome) → source.bytes ≡ other.bytes → (LookFailed source → LookFailed other) → SaysOn command source failed o → SaysOn command other failed o
says_same command source other failed (Written text) same rises says = record { formed = says.formed; is = of_same source other (λ image. IsTextIf command image text) same says.is }
says_same command source other failed (Faulty lead named) same rises says = (says.0, of_same source other (λ image. StopsAt command image (IsNamed command image named)) same says.1)
says_same command source other failed (ReadFailed part) same rises says = (rises says.0, record { is = part_same command source other part same says.1.is; before = says.1.before })
says_same command source other failed (WriteFailed part) same rises says = (says.0, part_same command source other part same says.1)
says_same command source other failed (OutOfMemory part) same rises says = part_same command source other part same says
says_same command source other failed (Refused lead feature block) same rises says = (says.0, of_same source other (λ image. StopsAt command image (IsFeature command image feature block)) same says.1)
says_same command source other failed (Answered lead answer) same rises says = (says.0, of_same source other (λ image. AnswersAt command image answer) same says.1)
says_same command source other failed o same rises says = says

-- so does what a command has come to
pub ended_same : (command : Asked) (source other : Looked) (ended : Result Unit Stopped) (out : Sunk) → source.bytes ≡ other.bytes → (LookFailed source → LookFailed other) → HasEnded command source ended out → HasEnded command other ended out
ended_same command source other ended out same rises (part, says, wrote) = (part, says_same command source other (Failed out) (outcome_of ended part) same rises says, wrote)

-- a call before it kept the source, so it has come to the same from before that call
pub ended_later : {S : Type 0} (bytes : S → Option (List ℕ)) (faults : S → ℕ) (command : Asked) (old mid new : S) (ended : Result Unit Stopped) (out : Sunk) → bytes mid ≡ bytes old → faults old ≤ faults mid →
    HasEnded command (looked bytes faults mid new) ended out → HasEnded command (looked bytes faults old new) ended out
ended_later bytes faults command old mid new ended out same later has =
    ended_same command (looked bytes faults mid new) (looked bytes faults old new) ended out same (rose_later (faults old) (faults mid) (faults new) later) has
