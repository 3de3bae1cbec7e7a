-- What the search for a partition answers, and the law of its four faults.
use Rattle.std.specs.Prelude.{◌≡◌, ◌⊎◌, ℕ, List, Ok, Err}
use Rattle.img_gpt.specs.declared.part.Part.{Part}
use Rattle.img_gpt.specs.declared.part.GptStop.{GptStop}
use Rattle.img_gpt.specs.declared.part.GptStop.TheVariants.{NoTable, BadTable, NoPartition, PartOutside, ReadFault}
use Rattle.img_gpt.specs.Partition.{found_part, HasNoTable, HasBadTable, HasNoPartition, HasPartOutside}

-- a fault of the table is there, and none before it; a failed read is none
abbrev pub IsTableFault : List ℕ → GptStop → Type 0
IsTableFault disk NoTable = HasNoTable disk
IsTableFault disk BadTable = HasBadTable disk
IsTableFault disk NoPartition = HasNoPartition disk
IsTableFault disk (PartOutside i) = HasPartOutside disk i
IsTableFault disk ReadFault = ⊥

-- each fault is named exactly where it is there and none before it
abbrev pub FoundExactly : Type 0
FoundExactly = (disk : List ℕ) (stop : GptStop) → (found_part disk ≡ Err stop → IsTableFault disk stop) × (IsTableFault disk stop → found_part disk ≡ Err stop)

-- a disk has a partition, or one of the faults; never both, and no two of the faults
abbrev pub PartOrFault : Type 0
PartOrFault = (disk : List ℕ) → ((part : Part) × (found_part disk ≡ Ok part)) ⊎ ((stop : GptStop) × IsTableFault disk stop)

-- what stops the search is there; of a failed read nothing is said
abbrev pub IsTableStop : List ℕ → GptStop → Type 0
IsTableStop disk NoTable = IsTableFault disk NoTable
IsTableStop disk BadTable = IsTableFault disk BadTable
IsTableStop disk NoPartition = IsTableFault disk NoPartition
IsTableStop disk (PartOutside i) = IsTableFault disk (PartOutside i)
IsTableStop disk ReadFault = Unit {0}
