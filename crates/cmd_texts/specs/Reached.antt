-- What is said of a call that checks a container, or that looks for the volume that is meant. No public clause speaks of it.
use Rattle.std.specs.Prelude.{◌≡◌, ◌⊎◌, ℕ, List, Option}
use Rattle.path_search.specs.declared.answer.Answer.TheVariants.{NoVolume}
use Rattle.apfs_check.specs.declared.fault.Fault.{Fault}
use Rattle.cmd_lines.specs.declared.named.Named.{Named}
use Rattle.cmd_lines.specs.declared.named.Named.TheVariants.{InContainer, InUsage, InExport, NoTable, BadTable, NoPartition, PartOutside}
use Rattle.cmd_lines.specs.declared.stopped.Stopped.{Stopped}
use Rattle.cmd_lines.specs.declared.stopped.Stopped.TheVariants.{Faulty, WrongWords, ReadFailed, WriteFailed, OutOfMemory, Refused, Answered, NoImage, NoFolder}
use Rattle.cmd_words.specs.Asked.{AskedTarget}
use Rattle.apfs_check.specs.WellFormed.{IsWellFormed}
use Rattle.cmd_lines.specs.declared.words.Checks.{Checks}
use Rattle.cmd_lines.specs.declared.words.Checks.TheVariants.{Quick, First}
use Rattle.cmd_texts.specs.First.{FaultBy, FeatureBy}
use Rattle.cmd_texts.specs.Meant.{HasVolume, HasNoVolume, IsMeantFault, IsMeantFeature}
use Rattle.cmd_texts.specs.MeantView.{HasNoSnapshot}
use Rattle.cmd_texts.specs.OnView.{ByAnswer}

-- nothing stands in the way: the volume that is meant loads, or its slot holds none
abbrev pub IsClear : List ℕ → Option ℕ → Type 0
IsClear image named = HasVolume image named ⊎ HasNoVolume image named

-- the fault is one of the container, of which a fact holds
abbrev pub OfContainer : Named → (Fault → Type 0) → Type 0
OfContainer (InContainer fault) P = P fault
OfContainer (InUsage slot xid) P = ⊥
OfContainer (InExport slot xid id) P = ⊥
OfContainer NoTable P = ⊥
OfContainer BadTable P = ⊥
OfContainer NoPartition P = ⊥
OfContainer (PartOutside at) P = ⊥

-- what a stop on the way to the volume that is meant says
abbrev pub TellsWay : List ℕ → Option ℕ → Stopped → Type 0
TellsWay image named (Faulty why) = OfContainer why (λ fault. (IsClear image named → ⊥) × IsMeantFault image named fault)
TellsWay image named (Refused feature block) = (IsClear image named → ⊥) × IsMeantFeature image named feature block
TellsWay image named (Answered answer) = (answer ≡ NoVolume) × HasNoVolume image named
TellsWay image named ReadFailed = Unit {0}
TellsWay image named OutOfMemory = Unit {0}
TellsWay image named WrongWords = Unit {0}
TellsWay image named WriteFailed = Unit {0}
TellsWay image named NoImage = Unit {0}
TellsWay image named NoFolder = Unit {0}

-- what a stop on the way to the view that is meant says
abbrev pub TellsViewWay : List ℕ → AskedTarget → Stopped → Type 0
TellsViewWay image target (Faulty why) = TellsWay image target.volume (Faulty why)
TellsViewWay image target (Refused feature block) = TellsWay image target.volume (Refused feature block)
TellsViewWay image target (Answered answer) = ByAnswer answer (HasNoVolume image target.volume) (HasNoSnapshot image target) ⊥
TellsViewWay image target ReadFailed = Unit {0}
TellsViewWay image target OutOfMemory = Unit {0}
TellsViewWay image target WrongWords = Unit {0}
TellsViewWay image target WriteFailed = Unit {0}
TellsViewWay image target NoImage = Unit {0}
TellsViewWay image target NoFolder = Unit {0}

-- a run stops while it looks at an image: neither for its words, nor for want of an image or a folder, nor since a put failed
abbrev pub IsWhileLooking : Stopped → Type 0
IsWhileLooking WrongWords = ⊥
IsWhileLooking WriteFailed = ⊥
IsWhileLooking NoImage = ⊥
IsWhileLooking NoFolder = ⊥
IsWhileLooking (Faulty why) = Unit {0}
IsWhileLooking (Refused feature block) = Unit {0}
IsWhileLooking (Answered answer) = Unit {0}
IsWhileLooking ReadFailed = Unit {0}
IsWhileLooking OutOfMemory = Unit {0}

-- a read failed, or memory ran out
abbrev pub IsFree : Stopped → Type 0
IsFree ReadFailed = Unit {0}
IsFree OutOfMemory = Unit {0}
IsFree (Faulty why) = ⊥
IsFree (Refused feature block) = ⊥
IsFree (Answered answer) = ⊥
IsFree WrongWords = ⊥
IsFree WriteFailed = ⊥
IsFree NoImage = ⊥
IsFree NoFolder = ⊥

-- a check that was asked for found the container well-formed
abbrev pub IsClean : Checks → List ℕ → Type 0
IsClean Quick image = Unit {0}
IsClean (First profile) image = IsWellFormed profile image

-- what a stop of a check says; where none was asked for, nothing stops
abbrev pub TellsFlaw : Checks → List ℕ → Stopped → Type 0
TellsFlaw checks image (Faulty why) = OfContainer why (λ fault. FaultBy checks image fault ⊥)
TellsFlaw checks image (Refused feature block) = FeatureBy checks image feature block ⊥
TellsFlaw checks image (Answered answer) = ⊥
TellsFlaw checks image ReadFailed = Unit {0}
TellsFlaw checks image OutOfMemory = Unit {0}
TellsFlaw checks image WrongWords = Unit {0}
TellsFlaw checks image WriteFailed = Unit {0}
TellsFlaw checks image NoImage = Unit {0}
TellsFlaw checks image NoFolder = Unit {0}
