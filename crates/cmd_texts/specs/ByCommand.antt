-- What each command takes, writes and names.
use Rattle.std.specs.Prelude.{◌≡◌, ◌⊎◌, ℕ, Bool, true, false, List, [], Option, None, Some}
use Rattle.obj_base.specs.declared.stop.Feature.{Feature}
use Rattle.blk_folder.specs.Items.{Item}
use Rattle.apfs_check.specs.declared.fault.Fault.{Fault}
use Rattle.view_rules.specs.declared.profile.Profile.TheVariants.{Plain}
use Rattle.view_rules.specs.declared.profile.Profile.{Profile}
use Rattle.path_search.specs.declared.answer.Answer.{Answer}
use Rattle.cmd_lines.specs.declared.words.Checks.{Checks}
use Rattle.cmd_lines.specs.declared.words.Checks.TheVariants.{Quick, First}
use Rattle.cmd_texts.specs.MeantView.{IsLawfulView}
use Rattle.cmd_texts.specs.First.{ResultBy, FaultBy, FeatureBy, RestsBy}
use Rattle.cmd_texts.specs.Commands.Ring as ring
use Rattle.cmd_texts.specs.Commands.Info as info
use Rattle.cmd_texts.specs.Commands.Volumes as volumes
use Rattle.cmd_texts.specs.Commands.Space as space
use Rattle.cmd_texts.specs.Commands.Check as check
use Rattle.cmd_texts.specs.Commands.Snapshots as snapshots
use Rattle.cmd_texts.specs.Commands.Usage as usage
use Rattle.cmd_texts.specs.Commands.Ls as ls
use Rattle.cmd_texts.specs.Commands.Tree as tree
use Rattle.cmd_texts.specs.Commands.Cat as cat
use Rattle.cmd_texts.specs.Commands.Xattr as xattr
use Rattle.cmd_texts.specs.Commands.Export as export
use Rattle.cmd_texts.specs.Commands.Gen as gen
use Rattle.cmd_texts.specs.Commands.Format as format
use Rattle.cmd_lines.specs.Words.{Asked, Ring, Info, Volumes, Space, Check, Snapshots, Usage, Ls, Tree, Cat, Xattr, Export, Gen, Format, checks_of}
use Rattle.cmd_lines.specs.declared.named.Named.{Named}
use Rattle.cmd_lines.specs.declared.named.Named.TheVariants.{InContainer, InUsage, InExport}

-- where a command has its image from: it is handed in, it is made, or there is none
pub data From : Type 0 where
  HandedIn : From
  Made : From
  Nowhere : From

abbrev pub from_of : Asked → From
from_of (Gen n) = Made
from_of (Format spec) = Nowhere
from_of command = HandedIn

-- whether a command takes a folder
abbrev pub takes_folder : Asked → Bool
takes_folder (Export target) = true
takes_folder command = false

-- an attribute is named
abbrev pub is_named : Option (List ℕ) → Bool
is_named None = false
is_named (Some name) = true

-- whether a command may read the image while it writes its text
abbrev pub streams : Asked → Bool
streams (Cat checks target) = true
streams (Xattr checks target name) = is_named name
streams command = false

-- the text that a command writes of an image
abbrev pub IsText : Asked → List ℕ → List ℕ → Type 0
IsText Ring image text = ring.IsText image text
IsText Info image text = info.IsText image text
IsText Volumes image text = volumes.IsText image text
IsText Space image text = space.IsText image text
IsText (Check profile) image text = check.IsText profile image text
IsText (Snapshots volume) image text = snapshots.IsText volume image text
IsText (Usage volume) image text = ResultBy (First Plain) image (usage.IsText volume image text)
IsText (Ls checks target) image text = ResultBy checks image (ls.IsText target image text)
IsText (Tree checks target) image text = ResultBy checks image (tree.IsText target image text)
IsText (Cat checks target) image text = ResultBy checks image (cat.IsText target image text)
IsText (Xattr checks target name) image text = ResultBy checks image (xattr.IsText target name image text)
IsText (Export target) image text = ResultBy (First Plain) image (export.IsText target image text)
IsText (Gen n) image text = gen.IsText n image text
IsText (Format spec) image text = format.IsText spec text

-- what a command writes before it looks at an image
abbrev pub lead_of : Asked → List ℕ
lead_of (Gen n) = gen.lead n
lead_of command = []

-- a fault of the container that a command may name of an image: one that is there
abbrev pub IsFault : Asked → List ℕ → Fault → Type 0
IsFault Ring image fault = ring.IsFault image fault
IsFault Info image fault = info.IsFault image fault
IsFault Volumes image fault = volumes.IsFault image fault
IsFault Space image fault = space.IsFault image fault
IsFault (Check profile) image fault = check.IsFault profile image fault
IsFault (Snapshots volume) image fault = snapshots.IsFault volume image fault
IsFault (Usage volume) image fault = check.IsFault Plain image fault
IsFault (Ls checks target) image fault = FaultBy checks image fault (ls.IsFault target image fault)
IsFault (Tree checks target) image fault = FaultBy checks image fault (tree.IsFault target image fault)
IsFault (Cat checks target) image fault = FaultBy checks image fault (cat.IsFault target image fault)
IsFault (Xattr checks target name) image fault = FaultBy checks image fault (xattr.IsFault target image fault)
IsFault (Export target) image fault = check.IsFault Plain image fault
IsFault (Gen n) image fault = check.IsFault Plain image fault
IsFault (Format spec) image fault = ⊥

-- a fault of a view whose blocks can't be counted, which a command may name of an image: `usage`, after a check that found nothing
abbrev pub IsUncounted : Asked → List ℕ → ℕ → ℕ → Type 0
IsUncounted (Usage volume) image slot xid = ResultBy (First Plain) image (usage.IsViewFault volume image slot xid)
IsUncounted command image slot xid = ⊥

-- a fault of what has an id in a view, so that it can't be put, which a command may name of an image: `export`, after a check that found nothing
abbrev pub IsUnexported : Asked → List ℕ → ℕ → ℕ → ℕ → Type 0
IsUnexported (Export target) image slot xid id = ResultBy (First Plain) image (export.IsViewFault target image slot xid id)
IsUnexported command image slot xid id = ⊥

-- a fault that a command may name of an image; those of a table of partitions are named before there is one
abbrev pub IsNamed : Asked → List ℕ → Named → Type 0
IsNamed command image (InContainer fault) = IsFault command image fault
IsNamed command image (InUsage slot xid) = IsUncounted command image slot xid
IsNamed command image (InExport slot xid id) = IsUnexported command image slot xid id
IsNamed command image named = ⊥

-- a feature, with its block, that a command may refuse of an image: one that is there, and where the container isn't checked no fault comes first
abbrev pub IsFeature : Asked → List ℕ → Feature → ℕ → Type 0
IsFeature Ring image feature block = ring.IsFeature image feature block
IsFeature Info image feature block = info.IsFeature image feature block
IsFeature Volumes image feature block = volumes.IsFeature image feature block
IsFeature Space image feature block = space.IsFeature image feature block
IsFeature (Check profile) image feature block = check.IsFeature image feature block
IsFeature (Snapshots volume) image feature block = snapshots.IsFeature volume image feature block
IsFeature (Usage volume) image feature block = check.IsFeature image feature block
IsFeature (Ls checks target) image feature block = FeatureBy checks image feature block (ls.IsFeature target image feature block)
IsFeature (Tree checks target) image feature block = FeatureBy checks image feature block (tree.IsFeature target image feature block)
IsFeature (Cat checks target) image feature block = FeatureBy checks image feature block (cat.IsFeature target image feature block)
IsFeature (Xattr checks target name) image feature block = FeatureBy checks image feature block (xattr.IsFeature target image feature block)
IsFeature (Export target) image feature block = check.IsFeature image feature block
IsFeature (Gen n) image feature block = check.IsFeature image feature block
IsFeature (Format spec) image feature block = ⊥

-- an answer that a command gives of an image in place of a text: by its cause
abbrev pub IsAnswer : Asked → List ℕ → Answer → Type 0
IsAnswer (Snapshots volume) image answer = snapshots.IsAnswer volume image answer
IsAnswer (Usage volume) image answer = ResultBy (First Plain) image (usage.IsAnswer volume image answer)
IsAnswer (Ls checks target) image answer = ResultBy checks image (ls.IsAnswer target image answer)
IsAnswer (Tree checks target) image answer = ResultBy checks image (tree.IsAnswer target image answer)
IsAnswer (Cat checks target) image answer = ResultBy checks image (cat.IsAnswer target image answer)
IsAnswer (Xattr checks target name) image answer = ResultBy checks image (xattr.IsAnswer target name image answer)
IsAnswer (Export target) image answer = ResultBy (First Plain) image (export.IsAnswer target image answer)
IsAnswer command image answer = ⊥

-- the items that a command puts into a folder
abbrev pub AreItems : Asked → List ℕ → List Item → Type 0
AreItems (Export target) image items = ResultBy (First Plain) image (export.AreItems target image items)
AreItems command image items = items ≡ []

-- what is promised of a command's text, and of its answers on a path, rests on this: for a command on a view that checks nothing first, that the view that is meant meets its rules
abbrev pub RestsOn : Asked → List ℕ → Type 0
RestsOn (Ls checks target) image = RestsBy checks (IsLawfulView image target)
RestsOn (Tree checks target) image = RestsBy checks (IsLawfulView image target)
RestsOn (Cat checks target) image = RestsBy checks (IsLawfulView image target)
RestsOn (Xattr checks target name) image = RestsBy checks (IsLawfulView image target)
RestsOn command image = Unit {0}

-- the profile of a check before a command, where there is one
abbrev pub profile_in : Checks → Option Profile
profile_in Quick = None
profile_in (First profile) = Some profile

-- the profile under which a command checks the whole container, where it does
abbrev pub profile_of : Asked → Option Profile
profile_of (Check profile) = Some profile
profile_of (Gen n) = Some Plain
profile_of command = profile_in (checks_of command)

-- a command is defined to write a text of an image, or to answer
abbrev pub HasResult : Asked → List ℕ → Type 0
HasResult command image = ((text : List ℕ) × IsText command image text) ⊎ ((answer : Answer) × IsAnswer command image answer)
