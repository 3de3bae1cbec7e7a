-- How a run of `format` ends.
use Rattle.std.specs.Prelude.{◌≡◌, ◌⊎◌, ℕ, true, List, [], ◌∷◌, Option, Some, refl}
use Rattle.std.proofs.Common.{inl, inr, sym, ◌∙◌, subst}
use Rattle.std.proofs.lemmas.List.{append-nil}
use Rattle.apfs_model.specs.Sink.{Wrote, WrotePart}
use Rattle.img_format.specs.declared.spec.Spec.{Spec}
use Rattle.img_format.specs.Fresh.{fresh}
use Rattle.cmd_lines.specs.declared.named.Named.{Named}
use Rattle.cmd_lines.specs.declared.named.Named.TheVariants.{InContainer}
use Rattle.cmd_texts.specs.ByCommand.{IsNamed}
use Rattle.cmd_texts.specs.Handed.{Looked, made, Stored}
use Rattle.cmd_lines.specs.Outcome.{Outcome, Written, Faulty, ReadFailed, WriteFailed, OutOfMemory, Refused, Answered, status_of, text_of}
use Rattle.apfs_cli.specs.Rows.{IsNewOrFree}
use Rattle.cmd_texts.specs.Says.{IsPart, SaysOn, LacksImage, LacksFolder, IsSource, PutFailed, Ran, Says, CameTo, wrong_words, no_image, no_folder, no_part, ran, no_memory}
use Rattle.cmd_lines.specs.Texts.{IsPrefix}
use Rattle.cmd_lines.specs.Words.{Line, plain_line, Format}
use Rattle.cmd_lines.specs.Written.{Sunk, Ends}
use Rattle.cmd_texts.proofs.ByAnswers.{for_answer}
use Rattle.apfs_cli.proofs.Statuses.{made_sure, no_line, one_line}

-- ---- the outcome

-- the whole container was written, or a part of it where a put failed or memory ran out
abbrev IsNewOutcome : Spec → Outcome → Type 0
IsNewOutcome spec o = ((status_of o ≡ 0) × (text_of o ≡ fresh spec)) ⊎ (((status_of o ≡ 4) ⊎ (status_of o ≡ 5)) × IsPrefix (text_of o) (fresh spec))

new_lead : (spec : Spec) (part : List ℕ) → IsPrefix part [] → IsPrefix part (fresh spec)
new_lead spec [] begins = (fresh spec, refl)
new_lead spec (x ∷ xs) (rest, split) = absurd Prim.cc

-- a part of what `format` writes is one of the container
new_part : (spec : Spec) (source : Looked) (part : List ℕ) → IsPart (Format spec) source part → IsPrefix part (fresh spec)
new_part spec source part is =
    let P : List ℕ → Type 0 = λ text. IsPrefix part text in
    elim is.formed as (λ _. IsPrefix part (fresh spec)) [ inl begins ↦ new_lead spec part begins | inr text ↦ subst P text.1 text.2 ]

-- no fault is named
none_named : (spec : Spec) (named : Named) → IsNamed (Format spec) [] named → ⊥
none_named spec (InContainer fault) is = is
none_named spec named is = is

new_outcome : (spec : Spec) (failed : Type 0) (o : Outcome) → SaysOn (Format spec) (made []) failed o → IsNewOutcome spec o
new_outcome spec failed (Written text) says = inl (refl, says.formed)
new_outcome spec failed (Faulty lead named) says = absurd (none_named spec named (says.1 [] refl).there_is)
new_outcome spec failed (ReadFailed part) says = absurd (made_sure [] says.0)
new_outcome spec failed (WriteFailed part) says = inr (inl refl, new_part spec (made []) part says.1)
new_outcome spec failed (OutOfMemory part) says = inr (inr refl, new_part spec (made []) part says)
new_outcome spec failed (Refused lead feature block) says = absurd (says.1 [] refl).there_is
new_outcome spec failed (Answered lead answer) says = absurd (says.1 [] refl (for_answer answer (Unit {0}) (Unit {0}) (Unit {0}) tt tt tt)).answer_is
new_outcome spec failed o says = absurd says

-- ---- the run

new_ran : (asked : Option Line) (image : Option Looked) (folder : Option Stored) (out : Sunk) (o : Outcome) (spec : Spec) → asked ≡ Some (plain_line (Format spec)) → Ran asked image folder out o → IsNewOutcome spec o
new_ran asked image folder out o spec e has =
    let one : has.line ≡ plain_line (Format spec) = one_line asked has.line (plain_line (Format spec)) has.words e in
    let P : Line → Type 0 = λ l. IsSource l image has.source in
    let Q : Line → Type 0 = λ l. SaysOn l.command has.source (PutFailed out folder) o in
    let R : Looked → Type 0 = λ s. SaysOn (Format spec) s (PutFailed out folder) o in
    new_outcome spec (PutFailed out folder) o (subst R (subst P one has.source_is) (subst Q one has.says))

new_says : (asked : Option Line) (image : Option Looked) (folder : Option Stored) (out : Sunk) (o : Outcome) (spec : Spec) → asked ≡ Some (plain_line (Format spec)) → Says asked image folder out o → IsNewOutcome spec o
new_says asked image folder out o spec e (wrong_words none is same) = absurd (no_line asked (plain_line (Format spec)) none e)
new_says asked image folder out o spec e (no_image has is same) =
    let P : Line → Type 0 = λ l. LacksImage l image in absurd (subst P (one_line asked has.line (plain_line (Format spec)) has.words e) has.lacks)
new_says asked image folder out o spec e (no_folder has is same) =
    let P : Line → Type 0 = λ l. LacksFolder l folder in absurd (subst P (one_line asked has.line (plain_line (Format spec)) has.words e) has.lacks)
new_says asked image folder out o spec e (no_part has same) =
    let P : Line → Type 0 = λ l. l.in_partition ≡ true in
    let wanted = subst P (one_line asked has.line (plain_line (Format spec)) has.words e) has.wanted in absurd Prim.cc
new_says asked image folder out o spec e (ran has) = new_ran asked image folder out o spec e has
new_says asked image folder out o spec e (no_memory is same) =
    let P : Outcome → Type 0 = λ x. IsNewOutcome spec x in subst P (sym is) (inr (inr refl, (fresh spec, refl)))

-- ---- the status

part_wrote : (old new : Option (List ℕ)) (part text : List ℕ) → IsPrefix part text → Wrote old new part → WrotePart old new text
part_wrote old new part text (rest, split) wrote held told = (part, rest, split, wrote held told)

new_prefix : (spec : Spec) (o : Outcome) → IsNewOutcome spec o → IsPrefix (text_of o) (fresh spec)
new_prefix spec o is =
    let P : List ℕ → Type 0 = λ text. IsPrefix text (fresh spec) in
    elim is as (λ _. IsPrefix (text_of o) (fresh spec)) [ inl whole ↦ subst P (sym whole.1) ([], sym (append-nil (fresh spec))) | inr part ↦ part.1 ]

new_ends : (spec : Spec) (result : ℕ) (o : Outcome) (out err : Sunk) → IsNewOutcome spec o → Ends result o out err → IsNewOrFree spec result out
new_ends spec result o out err is ends =
    let P : List ℕ → Type 0 = λ text. Wrote out.old out.new text in
    let part : WrotePart out.old out.new (fresh spec) = part_wrote out.old out.new (text_of o) (fresh spec) (new_prefix spec o is) ends.text in
    elim ends.said as (λ _. IsNewOrFree spec result out) [
      | inl has ↦ elim is as (λ _. IsNewOrFree spec result out) [
        | inl whole ↦ inl (has.status_is ∙ whole.0, subst P whole.1 ends.text)
        | inr cut ↦ inr (elim cut.0 as (λ _. (result ≡ 4) ⊎ (result ≡ 5)) [ inl failed ↦ inl (has.status_is ∙ failed) | inr short ↦ inr (has.status_is ∙ short) ], part)
      ]
      | inr lacks ↦ inr (inl lacks.status_is, part)
    ]

pub new_row : (asked : Option Line) (image : Option Looked) (folder : Option Stored) (result : ℕ) (out err : Sunk) → CameTo asked image folder result out err →
    (spec : Spec) → asked ≡ Some (plain_line (Format spec)) → IsNewOrFree spec result out
new_row asked image folder result out err (o, says, ends) spec e = new_ends spec result o out err (new_says asked image folder out o spec e says) ends
