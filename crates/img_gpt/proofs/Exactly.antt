-- The four faults, each exactly where it is there and none before it.
use Rattle.std.specs.Prelude.{◌≡◌, ◌⊎◌, ℕ, Bool, true, false, List, Option, None, Some, Result, Ok, Err, refl, if◌then◌else◌}
use Rattle.std.proofs.Common.{inl, inr, ◌∙◌, ap, subst}
use Rattle.img_gpt.specs.Table.{sector_of, is_table, container_entry}
use Rattle.img_gpt.specs.Partition.{part_of, is_placed, placed_by, found_by, found_part, HasTable}
use Rattle.img_gpt.specs.Laws.{IsTableFault, FoundExactly, PartOrFault}
use Rattle.img_gpt.specs.declared.part.Part.{Part}
use Rattle.img_gpt.specs.declared.part.GptStop.{GptStop}
use Rattle.img_gpt.specs.declared.part.GptStop.TheVariants.{NoTable, BadTable, NoPartition, PartOutside, ReadFault}

-- ---- the tests, one after the other

by_header : (disk : List ℕ) (s : Option ℕ) → sector_of disk ≡ s → found_part disk ≡ found_by disk s
unfolding found_part
by_header disk s e = ap (found_by disk) e

by_table : (disk : List ℕ) (sector : ℕ) (b : Bool) → is_table disk sector ≡ b → found_by disk (Some sector) ≡ (if b then placed_by disk sector (container_entry disk sector) else Err BadTable)
by_table disk sector b e =
    let P : Bool → Result Part GptStop = λ right. if right then placed_by disk sector (container_entry disk sector) else Err BadTable in
    ap P e

by_place : (disk : List ℕ) (sector i : ℕ) (b : Bool) → is_placed disk sector i ≡ b → placed_by disk sector (Some i) ≡ (if b then Ok (part_of disk sector i) else Err (PartOutside i))
by_place disk sector i b e =
    let P : Bool → Result Part GptStop = λ right. if right then Ok (part_of disk sector i) else Err (PartOutside i) in
    ap P e

-- in a table, by its entry
in_table : (disk : List ℕ) (sector : ℕ) (e : Option ℕ) → HasTable disk sector → container_entry disk sector ≡ e → found_part disk ≡ placed_by disk sector e
in_table disk sector e table entry = by_header disk (Some sector) table.header ∙ by_table disk sector true table.right ∙ ap (placed_by disk sector) entry

-- a partition that is placed is found
pub found_there : (disk : List ℕ) (sector i : ℕ) → HasTable disk sector → container_entry disk sector ≡ Some i → is_placed disk sector i ≡ true → found_part disk ≡ Ok (part_of disk sector i)
found_there disk sector i table entry at = in_table disk sector (Some i) table entry ∙ by_place disk sector i true at

-- a fault that is there is named
pub fault_named : (disk : List ℕ) (stop : GptStop) → IsTableFault disk stop → found_part disk ≡ Err stop
fault_named disk NoTable there = by_header disk None there
fault_named disk BadTable (sector, header, bad) = by_header disk (Some sector) header ∙ by_table disk sector false bad
fault_named disk NoPartition (sector, table, none) = in_table disk sector None table none
fault_named disk (PartOutside i) (sector, table, some, outside) = in_table disk sector (Some i) table some ∙ by_place disk sector i false outside
fault_named disk ReadFault there = absurd there

-- a partition is found, or a fault is there
placed_or_not : (disk : List ℕ) (sector i : ℕ) (b : Bool) → is_placed disk sector i ≡ b → HasTable disk sector → container_entry disk sector ≡ Some i →
    ((part : Part) × (found_part disk ≡ Ok part)) ⊎ ((stop : GptStop) × IsTableFault disk stop)
placed_or_not disk sector i true at table entry = inl (part_of disk sector i, found_there disk sector i table entry at)
placed_or_not disk sector i false at table entry = inr (PartOutside i, (sector, table, entry, at))

entry_or_not : (disk : List ℕ) (sector : ℕ) (e : Option ℕ) → container_entry disk sector ≡ e → HasTable disk sector →
    ((part : Part) × (found_part disk ≡ Ok part)) ⊎ ((stop : GptStop) × IsTableFault disk stop)
entry_or_not disk sector None at table = inr (NoPartition, (sector, table, at))
entry_or_not disk sector (Some i) at table = placed_or_not disk sector i (is_placed disk sector i) refl table at

table_or_not : (disk : List ℕ) (sector : ℕ) (b : Bool) → is_table disk sector ≡ b → sector_of disk ≡ Some sector →
    ((part : Part) × (found_part disk ≡ Ok part)) ⊎ ((stop : GptStop) × IsTableFault disk stop)
table_or_not disk sector false at header = inr (BadTable, (sector, header, at))
table_or_not disk sector true at header = entry_or_not disk sector (container_entry disk sector) refl (record { header = header; right = at })

header_or_not : (disk : List ℕ) (s : Option ℕ) → sector_of disk ≡ s → ((part : Part) × (found_part disk ≡ Ok part)) ⊎ ((stop : GptStop) × IsTableFault disk stop)
header_or_not disk None at = inr (NoTable, at)
header_or_not disk (Some sector) at = table_or_not disk sector (is_table disk sector) refl at

pub part_or_fault : PartOrFault
part_or_fault disk = header_or_not disk (sector_of disk) refl

-- where a partition is found no fault is there
pub found_not_faulty : (disk : List ℕ) (part : Part) (stop : GptStop) → found_part disk ≡ Ok part → IsTableFault disk stop → ⊥
found_not_faulty disk part stop found there = let e : found_part disk ≡ Err stop = fault_named disk stop there in Prim.cc

-- the fault that is named is the one that is there
named_there : (disk : List ℕ) (stop : GptStop) → ((part : Part) × (found_part disk ≡ Ok part)) ⊎ ((other : GptStop) × IsTableFault disk other) → found_part disk ≡ Err stop → IsTableFault disk stop
named_there disk stop (inl (part, found)) e = absurd Prim.cc
named_there disk stop (inr (other, there)) e =
    let is : found_part disk ≡ Err other = fault_named disk other there in
    let same : other ≡ stop = Prim.cc in
    let P : GptStop → Type 0 = λ s. IsTableFault disk s in
    subst P same there

pub found_exactly : FoundExactly
found_exactly disk stop = (λ e. named_there disk stop (part_or_fault disk) e, fault_named disk stop)
