-- What each status says: one fact for each row of the table of statuses, and what holds of all of them.
use Rattle.std.specs.Prelude.{◌≡◌, ◌⊎◌, ℕ, Bool, true, false, List, [], Option, Some, None}
use Rattle.apfs_model.specs.Sink.{Wrote, WrotePart}
use Rattle.obj_base.specs.declared.stop.Feature.{Feature}
use Rattle.view_rules.specs.declared.profile.Profile.{Profile}
use Rattle.img_format.specs.declared.spec.Spec.{Spec}
use Rattle.img_format.specs.Fresh.{fresh}
use Rattle.img_gpt.specs.Partition.{IsPartition}
use Rattle.blk_folder.specs.Items.{Item}
use Rattle.blk_folder.specs.Put.{Filled, FilledPart}
use Rattle.tree_export.specs.Safe.{AreSafe}
use Rattle.apfs_check.specs.Present as container
use Rattle.apfs_check.specs.WellFormed.{IsWellFormed}
use Rattle.cmd_texts.specs.First.{PresentBy}
use Rattle.path_search.specs.declared.answer.Answer.{Answer}
use Rattle.cmd_lines.specs.Written.{Sunk, Failed}
use Rattle.cmd_lines.specs.Words.{Asked, Line}
use Rattle.cmd_texts.specs.Handed.{Looked, LookFailed, OfImage, Stored, StoreFailed}
use Rattle.cmd_lines.specs.Outcome.{Outcome, text_of, line_of, Written, Faulty, ReadFailed, OutOfMemory, Refused, Answered}
use Rattle.cmd_texts.specs.ByCommand.{From, HandedIn, Made, Nowhere, from_of, takes_folder, lead_of, IsText, IsAnswer, AreItems, IsUncounted, IsUnexported, profile_of}
use Rattle.cmd_texts.specs.Says.{HasAll, IsTableFault, IsUntouched, PutFailed, Ran, HasNoPart}
use Rattle.cmd_lines.specs.declared.named.Named.{Named}
use Rattle.cmd_lines.specs.declared.named.Named.TheVariants.{InContainer, InUsage, InExport}

-- both sinks have all of an outcome more than before
abbrev pub BothWrote : Sunk → Sunk → Outcome → Type 0
BothWrote out err outcome = Wrote out.old out.new (text_of outcome) × Wrote err.old err.new (line_of outcome)

-- the first sink has the whole text of the command more, the second nothing
abbrev pub HasText : Option Line → Option Looked → Option Stored → Sunk → Sunk → Type 0
HasText asked image folder out err = (text : List ℕ) × Ran asked image folder out (Written text) × BothWrote out err (Written text)

-- a command came to an outcome, or the table of partitions stopped the run with it
abbrev pub RanOrNoPart : Option Line → Option Looked → Option Stored → Sunk → Outcome → Type 0
RanOrNoPart asked image folder out o = Ran asked image folder out o ⊎ HasNoPart asked image folder o

-- a fault that a command names is present: one of the container by the definition of the check, one of a view that can't be counted, or of what can't be put into a folder, where its cause is there
abbrev pub IsPresentIn : Asked → List ℕ → Named → Type 0
IsPresentIn command image (InContainer fault) = PresentBy (profile_of command) image fault
IsPresentIn command image (InUsage slot xid) = IsUncounted command image slot xid
IsPresentIn command image (InExport slot xid id) = IsUnexported command image slot xid id
IsPresentIn command image named = ⊥

-- a command came to name a fault, which is present where the bytes of its source are told
abbrev pub RanNaming : Option Line → Option Looked → Option Stored → Sunk → List ℕ → Named → Type 0
RanNaming asked image folder out lead named =
    (run : Ran asked image folder out (Faulty lead named)) × OfImage run.source (λ bytes. IsPresentIn run.line.command bytes named)

-- the second sink has the line of a fault that is there more, of the container or of the table of partitions, the first what the command writes before it looks
abbrev pub NamesFault : Option Line → Option Looked → Option Stored → Sunk → Sunk → Type 0
NamesFault asked image folder out err =
    (lead : List ℕ) × (named : Named) × (RanNaming asked image folder out lead named ⊎ HasNoPart asked image folder (Faulty lead named)) × BothWrote out err (Faulty lead named)

-- a command came to refuse a feature, which is present by the definition of the check where the bytes of its source are told
abbrev pub RanRefusing : Option Line → Option Looked → Option Stored → Sunk → List ℕ → Feature → ℕ → Type 0
RanRefusing asked image folder out lead feature block =
    (run : Ran asked image folder out (Refused lead feature block)) × OfImage run.source (λ bytes. container.IsFeature bytes feature block)

-- the second sink has the line of a feature that is there more, the first what the command writes before it looks
abbrev pub NamesFeature : Option Line → Option Looked → Option Stored → Sunk → Sunk → Type 0
NamesFeature asked image folder out err =
    (lead : List ℕ) × (feature : Feature) × (block : ℕ) × RanRefusing asked image folder out lead feature block × BothWrote out err (Refused lead feature block)

-- the second sink has the line of an answer more, which is the command's only one, and the first what the command writes before it looks
abbrev pub NamesAnswer : Option Line → Option Looked → Option Stored → Sunk → Sunk → Type 0
NamesAnswer asked image folder out err = (lead : List ℕ) × (answer : Answer) × Ran asked image folder out (Answered lead answer) × BothWrote out err (Answered lead answer)

-- the source failed; the second sink has the line of that more, the first a part of the text
abbrev pub SaysReadFailed : Option Line → Option Looked → Option Stored → Sunk → Sunk → Type 0
SaysReadFailed asked image folder out err = (part : List ℕ) × RanOrNoPart asked image folder out (ReadFailed part) × BothWrote out err (ReadFailed part)

-- a part of what a command writes, of which is said what is where memory runs out; or nothing
abbrev pub IsSomePart : Option Line → Option Looked → Option Stored → Sunk → List ℕ → Type 0
IsSomePart asked image folder out part = Ran asked image folder out (OutOfMemory part) ⊎ ((part ≡ []) × IsUntouched folder)

-- the second sink has the line of want of memory more, the first a part of the text
abbrev pub SaysOutOfMemory : Option Line → Option Looked → Option Stored → Sunk → Sunk → Type 0
SaysOutOfMemory asked image folder out err = (part : List ℕ) × IsSomePart asked image folder out part × BothWrote out err (OutOfMemory part)

-- a sink or the folder failed, and the first sink has a part of the text more
abbrev pub HasFailedPut : Option Line → Option Looked → Option Stored → Sunk → Sunk → Type 0
HasFailedPut asked image folder out err =
    (part : List ℕ) × IsSomePart asked image folder out part × Wrote out.old out.new part × (PutFailed out folder ⊎ Failed err)

-- the bytes on which a command works, where these are told by what is handed in; of an image that the command makes nothing is told beforehand
abbrev pub IsGivenIn : Bool → Looked → List ℕ → Type 0
IsGivenIn false source image = source.bytes ≡ Some image
IsGivenIn true source image = (disk : List ℕ) × (source.bytes ≡ Some disk) × IsPartition disk image

abbrev pub IsGivenFrom : From → Bool → Option Looked → List ℕ → Type 0
IsGivenFrom HandedIn in_partition None image = ⊥
IsGivenFrom HandedIn in_partition (Some source) image = IsGivenIn in_partition source image
IsGivenFrom Made in_partition source image = ⊥
IsGivenFrom Nowhere in_partition source image = image ≡ []

abbrev pub IsGiven : Line → Option Looked → List ℕ → Type 0
IsGiven line image bytes = IsGivenFrom (from_of line.command) line.in_partition image bytes

-- the words are right, what the command takes was handed in, and these are the bytes on which it works
pub record IsAsked (asked : Option Line) (image : Option Looked) (folder : Option Stored) (command : Asked) (bytes : List ℕ) : Type 0 where
  pub line : Line
  pub words : asked ≡ Some line
  pub same : line.command ≡ command
  pub all : HasAll line image folder
  pub given : IsGiven line image bytes

-- a text of the command exists
pub record HasDefinedText (asked : Option Line) (image : Option Looked) (folder : Option Stored) : Type 0 where
  pub command : Asked
  pub bytes : List ℕ
  pub text : List ℕ
  pub is : IsAsked asked image folder command bytes
  pub defined : IsText command bytes text

-- these are the items that the command puts into a folder
pub record HasDefinedItems (asked : Option Line) (image : Option Looked) (folder : Option Stored) (items : List Item) : Type 0 where
  pub command : Asked
  pub bytes : List ℕ
  pub is : IsAsked asked image folder command bytes
  pub defined : AreItems command bytes items

-- an answer of the command exists
pub record HasDefinedAnswer (asked : Option Line) (image : Option Looked) (folder : Option Stored) : Type 0 where
  pub command : Asked
  pub bytes : List ℕ
  pub answer : Answer
  pub is : IsAsked asked image folder command bytes
  pub defined : IsAnswer command bytes answer

-- the container is well-formed, and the command checks it
pub record HasSound (asked : Option Line) (image : Option Looked) (folder : Option Stored) : Type 0 where
  pub command : Asked
  pub bytes : List ℕ
  pub profile : Profile
  pub is : IsAsked asked image folder command bytes
  pub checks : profile_of command ≡ Some profile
  pub sound : IsWellFormed profile bytes

-- the container isn't well-formed, and the command checks it
pub record HasUnsound (asked : Option Line) (image : Option Looked) (folder : Option Stored) : Type 0 where
  pub command : Asked
  pub bytes : List ℕ
  pub profile : Profile
  pub is : IsAsked asked image folder command bytes
  pub checks : profile_of command ≡ Some profile
  pub unsound : IsWellFormed profile bytes → ⊥

-- a partition is asked for, what the command takes was handed in, and a fault of the disk's table is there
pub record HasTableFault (asked : Option Line) (image : Option Looked) (folder : Option Stored) (named : Named) : Type 0 where
  pub line : Line
  pub words : asked ≡ Some line
  pub wanted : line.in_partition ≡ true
  pub image_from : from_of line.command ≡ HandedIn
  pub all : HasAll line image folder
  pub source : Looked
  pub source_is : image ≡ Some source
  pub disk : List ℕ
  pub told : source.bytes ≡ Some disk
  pub there : IsTableFault disk named

-- a status comes exactly where a fact holds, save that writing may fail or memory run out in its place
pub record IsExactly (result status : ℕ) (P : Type 0) : Type 0 where
  pub only : result ≡ status → P
  pub always : P → (result ≡ status) ⊎ ((result ≡ 4) ⊎ (result ≡ 5))

-- nothing but a failed read, a failed put or want of memory comes in place of a status
abbrev pub IsOrFree : ℕ → ℕ → Type 0
IsOrFree result status = (result ≡ status) ⊎ ((result ≡ 3) ⊎ ((result ≡ 4) ⊎ (result ≡ 5)))

-- the text is whole or an answer is given, and nothing but a failed read, a failed put or want of memory comes in its place
abbrev pub IsCleanOrFree : ℕ → Type 0
IsCleanOrFree result = (result ≡ 0) ⊎ IsOrFree result 7

-- a fault or a feature is named, and nothing but a failed read, a failed put or want of memory comes in its place
abbrev pub IsFoundOrFree : ℕ → Type 0
IsFoundOrFree result = (result ≡ 1) ⊎ IsOrFree result 6

-- the source that was handed in failed
abbrev pub HandedFailed : Option Looked → Type 0
HandedFailed None = ⊥
HandedFailed (Some source) = LookFailed source

-- nothing failed in the run: the words are right, what the command takes was handed in, and neither the source, a sink nor the folder failed
pub record IsUndisturbed (asked : Option Line) (image : Option Looked) (folder : Option Stored) (out err : Sunk) : Type 0 where
  pub line : Line
  pub words : asked ≡ Some line
  pub all : HasAll line image folder
  pub source : HandedFailed image → ⊥
  pub text : Failed out → ⊥
  pub line_put : Failed err → ⊥
  pub store : StoreFailed folder → ⊥

-- the text is whole, an answer is given, or a fault or a feature is named; and nothing but want of memory comes in their place
abbrev pub IsCompleted : ℕ → Type 0
IsCompleted result = (result ≡ 0) ⊎ ((result ≡ 7) ⊎ ((result ≡ 1) ⊎ ((result ≡ 6) ⊎ (result ≡ 5))))

-- a new container was written; or a put failed or memory ran out, and a part of it was
abbrev pub IsNewOrFree : Spec → ℕ → Sunk → Type 0
IsNewOrFree spec result out = ((result ≡ 0) × Wrote out.old out.new (fresh spec)) ⊎ (((result ≡ 4) ⊎ (result ≡ 5)) × WrotePart out.old out.new (fresh spec))

-- ---- what a folder gets

-- the folder has all of some items more
abbrev pub HasMore : Option Stored → List Item → Type 0
HasMore None items = Unit {0}
HasMore (Some folder) items = Filled folder.old folder.new items

-- it has a front of them more, of whose last, a file, a front of the bytes may be there
abbrev pub HasFrontMore : Option Stored → List Item → Type 0
HasFrontMore None items = Unit {0}
HasFrontMore (Some folder) items = FilledPart folder.old folder.new items

-- the folder has the items more with status 0, and with each other one a front of them; it has them all before anything is written
pub record IsFilledWith (result : ℕ) (out : Sunk) (folder : Option Stored) (items : List Item) : Type 0 where
  pub whole : result ≡ 0 → HasMore folder items
  pub front : HasFrontMore folder items
  pub before_text : HasMore folder items ⊎ Wrote out.old out.new []

-- it has some items more, whose paths stay in it
abbrev pub HasSafeMore : Option Stored → Type 0
HasSafeMore None = Unit {0}
HasSafeMore (Some folder) = (items : List Item) × Filled folder.old folder.new items × AreSafe items

-- ---- what a stop leaves

-- what a command writes before it looks; wrong words are no command
abbrev pub lead_in : Option Line → List ℕ
lead_in None = []
lead_in (Some line) = lead_of line.command

-- a fault, a feature or an answer was named
abbrev pub IsRefusal : ℕ → Type 0
IsRefusal result = (result ≡ 1) ⊎ ((result ≡ 6) ⊎ (result ≡ 7))

-- the words or what was handed in won't do
abbrev pub IsTurnedAway : ℕ → Type 0
IsTurnedAway result = (result ≡ 2) ⊎ ((result ≡ 8) ⊎ (result ≡ 9))

-- the words ask for a command that takes a folder
abbrev pub AsksFolder : Option Line → Type 0
AsksFolder None = ⊥
AsksFolder (Some line) = takes_folder line.command ≡ true

-- what was handed in doesn't tell its bytes
abbrev pub IsUntold : Option Looked → Type 0
IsUntold None = ⊥
IsUntold (Some source) = source.bytes ≡ None

-- something may have been added to the folder: by a command that takes one, with status 0, 3, 4 or 5, or with 1 or 6 over a source that doesn't tell its bytes
abbrev pub MayFill : Option Line → Option Looked → ℕ → Type 0
MayFill asked image result =
    AsksFolder asked × (((result ≡ 0) ⊎ ((result ≡ 3) ⊎ ((result ≡ 4) ⊎ (result ≡ 5)))) ⊎ (IsUntold image × ((result ≡ 1) ⊎ (result ≡ 6))))
