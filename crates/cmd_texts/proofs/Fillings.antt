-- What a run of a command that fills a folder has come to.
use Rattle.std.specs.Prelude.{◌≡◌, ℕ, List, [], Option, Some, Result, Err, refl}
use Rattle.std.proofs.Common.{inl, inr, sym, ◌∙◌, ap}
use Rattle.std.proofs.lemmas.List.{append-nil}
use Rattle.std.proofs.lemmas.List.Elements.{All-nil}
use Rattle.blk_folder.specs.Items.{Item}
use Rattle.tree_export.specs.Safe.{AreSafe, IsSafe}
use Rattle.cmd_lines.specs.declared.stopped.Stopped.{Stopped}
use Rattle.cmd_lines.specs.declared.stopped.Stopped.TheVariants as stops
use Rattle.cmd_texts.specs.Handed.{Looked, LookFailed, Stored, stored}
use Rattle.cmd_lines.specs.Outcome.{Outcome, Written, Faulty, ReadFailed, WriteFailed, OutOfMemory, Refused, Answered}
use Rattle.cmd_texts.specs.ByCommand.{lead_of}
use Rattle.cmd_texts.specs.Says.{SaysOn, Fills, FillsBy, AreItemsIf, AreItemsBy, IsSame, PutFailed}
use Rattle.cmd_texts.specs.Ended.{HasEnded, HasEndedInto}
use Rattle.cmd_lines.specs.Stops.{outcome_of}
use Rattle.cmd_lines.specs.Words.{Asked}
use Rattle.cmd_lines.specs.Written.{Sunk}
use Rattle.cmd_texts.proofs.Endings.{nothing_part, nothing_read, of_same, says_same}
use Rattle.cmd_lines.proofs.Puts.{wrote_nothing}

-- what an outcome says of a failed put follows from what it says of another
pub says_more : (command : Asked) (source : Looked) (A B : Type 0) (o : Outcome) → (A → B) → SaysOn command source A o → SaysOn command source B o
says_more command source A B (WriteFailed part) follows says = (follows says.0, says.1)
says_more command source A B o follows says = says

-- ---- nothing was put into the folder

pub none_safe : AreSafe []
none_safe = All-nil (λ (item : Item). IsSafe item.path)

-- a folder that is as before has nothing more
pub kept_store : {F : Type 0} (contents : F → Option (List Item)) (faults : F → ℕ) (folder : F) → IsSame (stored contents faults folder folder)
kept_store contents faults folder = λ held told. told ∙ ap (λ (l : List Item). Some l) (sym (append-nil held))

-- so nothing is amiss with it, whatever is said of the items
pub none_more : (command : Asked) (source : Looked) (folder : Stored) (P : List ℕ → List Item → Type 0) → ((image : List ℕ) → P image []) → IsSame folder → Fills command source folder P
none_more command source folder P are same = record { added = []; none = λ n. refl; are = λ image told. are image; put = same; safe = none_safe }

-- nothing was written either
none_before : (command : Asked) (image : List ℕ) → AreItemsBy command [] image []
none_before command image = inr ((lead_of command, refl), inl refl)

-- a command stopped before it put anything into the folder, or wrote anything
pub unfilled : (command : Asked) (source : Looked) (folder : Stored) (stopped : Stopped) (contents : Option (List ℕ)) (count : ℕ) → IsSame folder →
    HasEnded command source (Err stopped) (record { old = contents; new = contents; old_faults = count; new_faults = count }) →
    HasEndedInto command source folder (Err stopped) (record { old = contents; new = contents; old_faults = count; new_faults = count })
unfilled command source folder (stops.Faulty named) contents count same (part, says, wrote) = (part, says, none_more command source folder (λ image added. added ≡ []) (λ image. refl) same, wrote)
unfilled command source folder stops.ReadFailed contents count same (part, says, wrote) =
    ([], (says.0, nothing_read command source), none_more command source folder (AreItemsBy command []) (none_before command) same, wrote_nothing contents)
unfilled command source folder stops.WriteFailed contents count same (part, says, wrote) =
    ([], (inl says.0, nothing_part command source), none_more command source folder (AreItemsBy command []) (none_before command) same, wrote_nothing contents)
unfilled command source folder stops.OutOfMemory contents count same (part, says, wrote) =
    ([], nothing_part command source, none_more command source folder (AreItemsBy command []) (none_before command) same, wrote_nothing contents)
unfilled command source folder (stops.Refused feature block) contents count same (part, says, wrote) = (part, says, none_more command source folder (λ image added. added ≡ []) (λ image. refl) same, wrote)
unfilled command source folder (stops.Answered answer) contents count same (part, says, wrote) = (part, says, same, wrote)
unfilled command source folder stopped contents count same (part, says, wrote) = absurd says

-- ---- a source that tells the same bytes

fills_over : (command : Asked) (source other : Looked) (folder : Stored) (P : List ℕ → List Item → Type 0) → source.bytes ≡ other.bytes → Fills command source folder P → Fills command other folder P
fills_over command source other folder P same f = record { added = f.added; none = f.none; are = of_same source other (λ image. P image f.added) same f.are; put = f.put; safe = f.safe }

fills_other : (command : Asked) (source other : Looked) (folder : Stored) (o : Outcome) → source.bytes ≡ other.bytes → FillsBy command source folder o → FillsBy command other folder o
fills_other command source other folder (Written text) same f = fills_over command source other folder (AreItemsIf command) same f
fills_other command source other folder (Faulty lead named) same f = fills_over command source other folder (λ image added. added ≡ []) same f
fills_other command source other folder (ReadFailed part) same f = fills_over command source other folder (AreItemsBy command part) same f
fills_other command source other folder (WriteFailed part) same f = fills_over command source other folder (AreItemsBy command part) same f
fills_other command source other folder (OutOfMemory part) same f = fills_over command source other folder (AreItemsBy command part) same f
fills_other command source other folder (Refused lead feature block) same f = fills_over command source other folder (λ image added. added ≡ []) same f
fills_other command source other folder o same f = f

-- what a command has come to over a source it has come to over another that fails where the first does
pub into_same : (command : Asked) (source other : Looked) (folder : Stored) (ended : Result Unit Stopped) (out : Sunk) → source.bytes ≡ other.bytes → (LookFailed source → LookFailed other) →
    HasEndedInto command source folder ended out → HasEndedInto command other folder ended out
into_same command source other folder ended out same rises (part, says, fills, wrote) = (
  part,
  says_same command source other (PutFailed out (Some folder)) (outcome_of ended part) same rises says,
  fills_other command source other folder (outcome_of ended part) same fills,
  wrote,
)
