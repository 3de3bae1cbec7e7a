-- A part of what a command writes, whatever its outcome.
use Rattle.std.specs.Prelude.{◌≡◌, ℕ, List, []}
use Rattle.std.proofs.Common.{inl, inr, sym, subst}
use Rattle.std.proofs.lemmas.List.{append-nil}
use Rattle.cmd_lines.specs.Texts.{IsPrefix}
use Rattle.cmd_lines.specs.Words.{Asked}
use Rattle.cmd_texts.specs.Handed.{Looked}
use Rattle.cmd_lines.specs.Outcome.{Outcome, Written, Faulty, ReadFailed, WriteFailed, OutOfMemory, Refused, Answered, text_of}
use Rattle.cmd_texts.specs.ByCommand.{lead_of}
use Rattle.cmd_texts.specs.Says.{IsPart, SaysOn}

-- a text is a prefix of itself
pub whole_prefix : (text : List ℕ) → IsPrefix text text
whole_prefix text = ([], sym (append-nil text))

-- what was written before the end is a part
lead_part : (command : Asked) (source : Looked) (lead : List ℕ) → lead ≡ lead_of command → IsPart command source lead
lead_part command source lead e =
    let P : List ℕ → Type 0 = λ l. IsPart command source l in
    subst P (sym e) (record { formed = inl (whole_prefix (lead_of command)); begins = λ image told. inl (whole_prefix (lead_of command)) })

pub part_on : (command : Asked) (source : Looked) (failed : Type 0) (o : Outcome) → SaysOn command source failed o → IsPart command source (text_of o)
part_on command source failed (Written text) says = record { formed = inr (text, says.formed, whole_prefix text); begins = λ image told. inr (text, says.is image told, whole_prefix text) }
part_on command source failed (Faulty lead named) says = lead_part command source lead says.0
part_on command source failed (ReadFailed part) says = says.1.is
part_on command source failed (WriteFailed part) says = says.1
part_on command source failed (OutOfMemory part) says = says
part_on command source failed (Refused lead feature block) says = lead_part command source lead says.0
part_on command source failed (Answered lead answer) says = lead_part command source lead says.0
part_on command source failed o says = absurd says
