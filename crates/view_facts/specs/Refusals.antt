-- The record that is refused.
use Rattle.std.specs.Prelude.{ℕ, List, Option, None, Some, option_map, MatchOption}
use Rattle.bt_cursor.specs.Line.{Item}
use Rattle.fs_name.specs.declared.naming.Names.{Names}
use Rattle.fs_record.specs.declared.fault.RecFault.{RecFault}
use Rattle.view_rules.specs.Rules.{HasRecords, IsRecord}
use Rattle.view_facts.specs.declared.keep.Refusal.{Refusal}

-- the first of two refusals, the second by the number of its item
abbrev pub or_this : Option Refusal → ℕ → Option RecFault → Option Refusal
or_this (Some refusal) item why = Some refusal
or_this None item why = option_map (λ (part : RecFault). record { item = item; why = part }) why

-- no record among some items is refused, or the one of this number is
abbrev pub IsRefusal : Names → List Item → Option Refusal → Type 0
IsRefusal names line refusal = MatchOption refusal (HasRecords names line) (λ (r : Refusal). IsRecord names line r.item r.why)
