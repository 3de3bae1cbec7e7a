-- When each outcome may be: by the words first, then by whether what the command takes was handed in, then by the table of a disk's partitions where one is asked for, then by the command and the bytes of its image.
use Rattle.std.specs.Prelude.{◌≡◌, ◌⊎◌, ℕ, Bool, true, false, List, [], Option, Some, None, Ok}
use Rattle.blk_source.specs.declared.source.Opened.{Opened}
use Rattle.blk_source.specs.declared.source.Opened.TheVariants.{Absent, Image}
use Rattle.blk_folder.specs.Items.{Item, IsFront}
use Rattle.blk_folder.specs.Put.{Filled}
use Rattle.img_gpt.specs.Partition.{found_part, HasNoTable, HasBadTable, HasNoPartition, HasPartOutside}
use Rattle.img_gpt.specs.declared.part.Part.{Part}
use Rattle.path_search.specs.declared.answer.Answer.{Answer}
use Rattle.tree_export.specs.Safe.{AreSafe}
use Rattle.cmd_texts.specs.OnView.{ByAnswer}
use Rattle.cmd_lines.specs.Texts.{IsPrefix}
use Rattle.cmd_lines.specs.Written.{Sunk, Failed, Ends}
use Rattle.cmd_lines.specs.declared.stopped.Stopped.TheVariants as stops
use Rattle.cmd_lines.specs.Words.{Asked, Line}
use Rattle.cmd_texts.specs.Handed.{Looked, LookFailed, OfImage, part_looked, made, Stored, StoreFailed}
use Rattle.cmd_lines.specs.Outcome.{Outcome, Written, Faulty, WrongWords, ReadFailed, WriteFailed, OutOfMemory, Refused, Answered, NoImage, NoFolder}
use Rattle.cmd_texts.specs.ByCommand.{From, HandedIn, Made, Nowhere, from_of, takes_folder, streams, lead_of, IsText, IsNamed, IsFeature, IsAnswer, AreItems, RestsOn, HasResult}
use Rattle.cmd_texts.specs.Formed.{IsFormed}
use Rattle.cmd_lines.specs.declared.named.Named.{Named}
use Rattle.cmd_lines.specs.declared.named.Named.TheVariants.{NoTable, BadTable, NoPartition, PartOutside}

-- ---- a command over a source

-- a text is the command's, where what it rests on holds
abbrev pub IsTextIf : Asked → List ℕ → List ℕ → Type 0
IsTextIf command image text = RestsOn command image → IsText command image text

-- a part of what a command writes: of its lead, or of its text
abbrev pub BeginsText : Asked → List ℕ → List ℕ → Type 0
BeginsText command image part = IsPrefix part (lead_of command) ⊎ ((text : List ℕ) × IsTextIf command image text × IsPrefix part text)

-- a part of its lead, or of a text that is made as the command's texts are
abbrev pub BeginsForm : Asked → List ℕ → Type 0
BeginsForm command part = IsPrefix part (lead_of command) ⊎ ((text : List ℕ) × IsFormed command text × IsPrefix part text)

-- what may have been written before a run stops
pub record IsPart (command : Asked) (source : Looked) (part : List ℕ) : Type 0 where
  pub formed : BeginsForm command part
  pub begins : OfImage source (λ image. BeginsText command image part)

-- what may have been written before a read fails; a command that reads all before it writes has written no more than its lead
pub record IsReadPart (command : Asked) (source : Looked) (part : List ℕ) : Type 0 where
  pub is : IsPart command source part
  pub before : streams command ≡ false → IsPrefix part (lead_of command)

-- the whole text was written
pub record IsWhole (command : Asked) (source : Looked) (text : List ℕ) : Type 0 where
  pub formed : IsFormed command text
  pub is : OfImage source (λ image. IsTextIf command image text)

-- a command stops at what is there in an image: it has neither a text nor an answer of it
pub record StopsAt (command : Asked) (image : List ℕ) (there : Type 0) : Type 0 where
  pub none : HasResult command image → ⊥
  pub there_is : there

-- a command has an answer of an image: no text of it and no other answer
pub record IsOnlyAnswer (command : Asked) (image : List ℕ) (answer : Answer) : Type 0 where
  pub none : (text : List ℕ) → IsText command image text → ⊥
  pub only : (other : Answer) → IsAnswer command image other → other ≡ answer
  pub answer_is : IsAnswer command image answer

-- a command answers of an image; NoVolume and NoSnapshot rest on nothing
abbrev pub AnswersAt : Asked → List ℕ → Answer → Type 0
AnswersAt command image answer = ByAnswer answer (Unit {0}) (Unit {0}) (RestsOn command image) → IsOnlyAnswer command image answer

-- what an outcome says of a command and a source; that its lead was written, and no more, is said over each source
abbrev pub SaysOn : Asked → Looked → Type 0 → Outcome → Type 0
SaysOn command source failed (Written text) = IsWhole command source text
SaysOn command source failed (Faulty lead named) = (lead ≡ lead_of command) × OfImage source (λ image. StopsAt command image (IsNamed command image named))
SaysOn command source failed (ReadFailed part) = LookFailed source × IsReadPart command source part
SaysOn command source failed (WriteFailed part) = failed × IsPart command source part
SaysOn command source failed (OutOfMemory part) = IsPart command source part
SaysOn command source failed (Refused lead feature block) = (lead ≡ lead_of command) × OfImage source (λ image. StopsAt command image (IsFeature command image feature block))
SaysOn command source failed (Answered lead answer) = (lead ≡ lead_of command) × OfImage source (λ image. AnswersAt command image answer)
SaysOn command source failed o = ⊥

-- ---- a command over the image that it makes

-- ---- the folder

-- the folder has some items more, of which a fact holds for each image that is told; whatever is told, their paths stay in it, and a command that takes no folder adds none
pub record Fills (command : Asked) (source : Looked) (folder : Stored) (P : List ℕ → List Item → Type 0) : Type 0 where
  pub added : List Item
  pub none : takes_folder command ≡ false → added ≡ []
  pub are : OfImage source (λ image. P image added)
  pub put : Filled folder.old folder.new added
  pub safe : AreSafe added

-- the items of a command, where what they rest on holds
abbrev pub AreItemsIf : Asked → List ℕ → List Item → Type 0
AreItemsIf command image items = RestsOn command image → AreItems command image items

-- a front of the items of a command, where what they rest on holds
abbrev pub AreFrontIf : Asked → List ℕ → List Item → Type 0
AreFrontIf command image front = (front ≡ []) ⊎ ((items : List Item) × AreItemsIf command image items × IsFront front items)

-- the items of a command by the part of its text that was written: all of them, or no more than its lead was written and they are a front
abbrev pub AreItemsBy : Asked → List ℕ → List ℕ → List Item → Type 0
AreItemsBy command part image items = AreItemsIf command image items ⊎ (IsPrefix part (lead_of command) × AreFrontIf command image items)

-- nothing was added
abbrev pub IsSame : Stored → Type 0
IsSame folder = Filled folder.old folder.new []

-- what an outcome says of a command, a source and a folder: all items were added, or a front of them where something failed before the text began; where a fault or a feature stopped it none, but over a source that doesn't tell its bytes
abbrev pub FillsBy : Asked → Looked → Stored → Outcome → Type 0
FillsBy command source folder (Written text) = Fills command source folder (AreItemsIf command)
FillsBy command source folder (Faulty lead named) = Fills command source folder (λ image added. added ≡ [])
FillsBy command source folder (ReadFailed part) = Fills command source folder (AreItemsBy command part)
FillsBy command source folder (WriteFailed part) = Fills command source folder (AreItemsBy command part)
FillsBy command source folder (OutOfMemory part) = Fills command source folder (AreItemsBy command part)
FillsBy command source folder (Refused lead feature block) = Fills command source folder (λ image added. added ≡ [])
FillsBy command source folder o = IsSame folder

-- where there is a folder
abbrev pub FillsOn : Asked → Looked → Option Stored → Outcome → Type 0
FillsOn command source None o = Unit {0}
FillsOn command source (Some folder) o = FillsBy command source folder o

abbrev pub IsUntouched : Option Stored → Type 0
IsUntouched None = Unit {0}
IsUntouched (Some folder) = IsSame folder

-- ---- what is handed in

-- an image is wanted by this origin, and none was handed in
abbrev pub LacksFrom : From → Option Looked → Type 0
LacksFrom HandedIn None = Unit {0}
LacksFrom from image = ⊥

-- the command takes an image, and none was handed in
abbrev pub LacksImage : Line → Option Looked → Type 0
LacksImage line image = LacksFrom (from_of line.command) image

-- a folder is wanted, and none was handed in
abbrev pub LacksStore : Bool → Option Stored → Type 0
LacksStore true None = Unit {0}
LacksStore wanted folder = ⊥

-- the command takes a folder, and none was handed in
abbrev pub LacksFolder : Line → Option Stored → Type 0
LacksFolder line folder = LacksStore (takes_folder line.command) folder

-- what the command takes was handed in
pub record HasAll (line : Line) (image : Option Looked) (folder : Option Stored) : Type 0 where
  pub image_there : LacksImage line image → ⊥
  pub folder_there : LacksFolder line folder → ⊥

-- the source on which a command works that takes its image from what is handed in: that, or its partition, where the table is told the one that is found
abbrev pub IsSourceIn : Bool → Option Looked → Looked → Type 0
IsSourceIn false image source = image ≡ Some source
IsSourceIn true image source =
    (disk : Looked) × (part : Part) × (image ≡ Some disk) × OfImage disk (λ bytes. found_part bytes ≡ Ok part) × (source ≡ part_looked part disk)

-- the source on which a command works: what is handed in or its partition, an image that was made, or no bytes
abbrev pub IsSourceFrom : From → Bool → Option Looked → Looked → Type 0
IsSourceFrom HandedIn in_partition image source = IsSourceIn in_partition image source
IsSourceFrom Made in_partition image source = (bytes : List ℕ) × (source ≡ made bytes)
IsSourceFrom Nowhere in_partition image source = source ≡ made []

abbrev pub IsSource : Line → Option Looked → Looked → Type 0
IsSource line image source = IsSourceFrom (from_of line.command) line.in_partition image source

-- ---- the table of partitions

-- a fault of the table is there in a disk, and none before it
abbrev pub IsTableFault : List ℕ → Named → Type 0
IsTableFault disk NoTable = HasNoTable disk
IsTableFault disk BadTable = HasBadTable disk
IsTableFault disk NoPartition = HasNoPartition disk
IsTableFault disk (PartOutside at) = HasPartOutside disk at
IsTableFault disk named = ⊥

-- what stops a run before there is a partition: a fault of the table, where the disk is told one that is there, or a read that failed
abbrev pub StopsTable : Looked → Outcome → Type 0
StopsTable disk o =
    ((named : Named) × (o ≡ Faulty [] named) × OfImage disk (λ bytes. IsTableFault bytes named)) ⊎ ((o ≡ ReadFailed []) × LookFailed disk)

-- ---- the run

-- a put failed: on the first sink, or into the folder
abbrev pub PutFailed : Sunk → Option Stored → Type 0
PutFailed out folder = Failed out ⊎ StoreFailed folder

-- the words are right and what the command takes was handed in, and it came to an outcome over its source
pub record Ran (asked : Option Line) (image : Option Looked) (folder : Option Stored) (out : Sunk) (o : Outcome) : Type 0 where
  pub line : Line
  pub words : asked ≡ Some line
  pub all : HasAll line image folder
  pub source : Looked
  pub source_is : IsSource line image source
  pub says : SaysOn line.command source (PutFailed out folder) o
  pub fills : FillsOn line.command source folder o

-- the words are right, no image was handed in although the command takes one
pub record HasNoImage (asked : Option Line) (image : Option Looked) : Type 0 where
  pub line : Line
  pub words : asked ≡ Some line
  pub lacks : LacksImage line image

-- the words are right, what the command takes for an image was handed in, and no folder although the command takes one
pub record HasNoFolder (asked : Option Line) (image : Option Looked) (folder : Option Stored) : Type 0 where
  pub line : Line
  pub words : asked ≡ Some line
  pub has : LacksImage line image → ⊥
  pub lacks : LacksFolder line folder

-- the words are right and ask for a partition, what the command takes was handed in, and the table of the disk stopped the run
pub record HasNoPart (asked : Option Line) (image : Option Looked) (folder : Option Stored) (o : Outcome) : Type 0 where
  pub line : Line
  pub words : asked ≡ Some line
  pub wanted : line.in_partition ≡ true
  pub image_from : from_of line.command ≡ HandedIn
  pub all : HasAll line image folder
  pub disk : Looked
  pub disk_is : image ≡ Some disk
  pub stops : StopsTable disk o

-- the six ways in which a run may come to an outcome, in their order; want of memory may come at any time
pub data Says (asked : Option Line) (image : Option Looked) (folder : Option Stored) (out : Sunk) (o : Outcome) : Type 0 where
  wrong_words : asked ≡ None → o ≡ WrongWords → IsUntouched folder → Says asked image folder out o
  no_image : HasNoImage asked image → o ≡ NoImage → IsUntouched folder → Says asked image folder out o
  no_folder : HasNoFolder asked image folder → o ≡ NoFolder → IsUntouched folder → Says asked image folder out o
  no_part : HasNoPart asked image folder o → IsUntouched folder → Says asked image folder out o
  ran : Ran asked image folder out o → Says asked image folder out o
  no_memory : o ≡ OutOfMemory [] → IsUntouched folder → Says asked image folder out o

-- a run comes to an outcome that the words and what was handed in allow, has written its text, and has said its line and given its status
abbrev pub CameTo : Option Line → Option Looked → Option Stored → ℕ → Sunk → Sunk → Type 0
CameTo asked image folder result out err = (outcome : Outcome) × Says asked image folder out outcome × Ends result outcome out err

-- what was handed in for the image stays what it was: absent, or a source of the same size and bytes
abbrev pub IsOpenedKept : {S : Type 0} → (S → Option (List ℕ)) → (S → ℕ) → Opened S → Opened S → Type 0
IsOpenedKept bytes size Absent Absent = Unit {0}
IsOpenedKept bytes size (Image old) (Image new) = (bytes new ≡ bytes old) × (size new ≡ size old)
IsOpenedKept bytes size old new = ⊥
