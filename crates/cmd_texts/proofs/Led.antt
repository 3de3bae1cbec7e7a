-- What `gen` has come to: from its line, and from what the check of the image that it made came to.
use Rattle.std.specs.Prelude.{◌≡◌, ◌++◌, ℕ, List, [], ◌∷◌, Option, Some, None, Result, Ok, Err, refl}
use Rattle.std.proofs.Common.{inl, inr, sym, ◌∙◌, ap, subst, append_assoc, arith}
use Rattle.std.proofs.lemmas.List.{append-nil}
use Rattle.view_rules.specs.declared.profile.Profile.TheVariants.{Plain}
use Rattle.cmd_lines.specs.declared.named.Named.{Named}
use Rattle.cmd_lines.specs.declared.named.Named.TheVariants.{InContainer}
use Rattle.cmd_lines.specs.declared.stopped.Stopped.{Stopped}
use Rattle.cmd_lines.specs.declared.stopped.Stopped.TheVariants as stops
use Rattle.cmd_texts.specs.ByCommand.{IsNamed, HasResult}
use Rattle.cmd_texts.specs.Commands.Gen as gen
use Rattle.cmd_texts.specs.Handed.{made}
use Rattle.cmd_lines.specs.Outcome.{Outcome, Written, Faulty, ReadFailed, WriteFailed, OutOfMemory, Refused, Answered, status_of, text_of}
use Rattle.cmd_lines.specs.ReportText.{report_text}
use Rattle.cmd_texts.specs.Ended.{IsOfMade, HasEnded, HasMade, CameOver}
use Rattle.cmd_texts.specs.Says.{BeginsText, BeginsForm, IsPart, SaysOn}
use Rattle.cmd_lines.specs.Stops.{outcome_of}
use Rattle.cmd_lines.specs.Texts.{IsPrefix}
use Rattle.cmd_lines.specs.Words.{Check, Gen}
use Rattle.cmd_lines.specs.Written.{Sunk, Failed, Ends}
use Rattle.cmd_lines.specs.Putting.{IsPut, IsClosed}
use Rattle.cmd_texts.proofs.ByAnswers.{for_answer}
use Rattle.cmd_lines.proofs.Puts.{wrote_more, rose_later, part_taken}
use Rattle.cmd_texts.proofs.Parts.{part_on}

-- ---- the line, and then what the check came to

led_prefix : (lead part text : List ℕ) → IsPrefix part text → IsPrefix (lead ++ part) (lead ++ text)
led_prefix lead part text (rest, split) = (rest, ap (λ l. lead ++ l) split ∙ sym (append_assoc lead part rest))

front_none : (part rest : List ℕ) → [] ≡ part ++ rest → part ≡ []
front_none [] rest e = refl
front_none (x ∷ xs) rest e = absurd Prim.cc

led_nothing : (lead part : List ℕ) → IsPrefix part [] → IsPrefix (lead ++ part) lead
led_nothing lead part (rest, split) =
    let P : List ℕ → Type 0 = λ p. IsPrefix (lead ++ p) lead in
    subst P (sym (front_none part rest split)) ([], sym (append-nil (lead ++ []) ∙ append-nil lead))

led_form : (n : ℕ) (part : List ℕ) → BeginsForm (Check Plain) part → BeginsForm (Gen n) (gen.lead n ++ part)
led_form n part (inl prefix) = inl (led_nothing (gen.lead n) part prefix)
led_form n part (inr (text, formed, prefix)) = inr (gen.lead n ++ text, (formed.0, ap (λ l. gen.lead n ++ l) formed.1), led_prefix (gen.lead n) part text prefix)

led_text : (n : ℕ) (image part : List ℕ) → BeginsText (Check Plain) image part → BeginsText (Gen n) image (gen.lead n ++ part)
led_text n image part (inl prefix) = inl (led_nothing (gen.lead n) part prefix)
led_text n image part (inr (text, is, prefix)) =
    inr (gen.lead n ++ text, (λ rests. let told = is tt in (told.0, told.1, ap (λ l. gen.lead n ++ l) told.2)), led_prefix (gen.lead n) part text prefix)

led_part : (n : ℕ) (image part : List ℕ) → IsPart (Check Plain) (made image) part → IsPart (Gen n) (made image) (gen.lead n ++ part)
led_part n image part is = record { formed = led_form n part is.formed; begins = λ bytes told. led_text n bytes part (is.begins bytes told) }

-- without a report of an image there is no text of it after the line
led_none : (n : ℕ) (image : List ℕ) → HasResult (Gen n) image → HasResult (Check Plain) image
led_none n image (inl text) = inl (report_text text.1.0, (text.1.0, text.1.1, refl))
led_none n image (inr answer) = absurd answer.1

led_named : (n : ℕ) (image : List ℕ) (named : Named) → IsNamed (Check Plain) image named → IsNamed (Gen n) image named
led_named n image (InContainer fault) is = is
led_named n image named is = is

led_lead : (n : ℕ) (lead : List ℕ) → lead ≡ [] → gen.lead n ++ lead ≡ gen.lead n
led_lead n lead e = ap (λ l. gen.lead n ++ l) e ∙ append-nil (gen.lead n)

-- the check came to something over the image after the line was put
pub led_ended : (n : ℕ) (image : List ℕ) (ended : Result Unit Stopped) (old mid new : Option (List ℕ)) (a b c : ℕ) → IsPut (gen.lead n) (Ok tt) (record { old = old; new = mid; old_faults = a; new_faults = b }) →
    HasEnded (Check Plain) (made image) ended (record { old = mid; new = new; old_faults = b; new_faults = c }) → HasEnded (Gen n) (made image) ended (record { old = old; new = new; old_faults = a; new_faults = c })
led_ended n image (Ok done) old mid new a b c put (text, says, wrote) = (
  gen.lead n ++ text,
  record {
    formed = (says.formed.0, ap (λ l. gen.lead n ++ l) says.formed.1);
    is = λ bytes told rests. let is = says.is bytes told tt in (is.0, is.1, ap (λ l. gen.lead n ++ l) is.2);
  },
  wrote_more old mid new (gen.lead n) text put.0 wrote,
)
led_ended n image (Err (stops.Faulty named)) old mid new a b c put (lead, says, wrote) = (
  gen.lead n ++ lead,
  (led_lead n lead says.0, λ bytes told. let at = says.1 bytes told in record { none = λ has. at.none (led_none n bytes has); there_is = led_named n bytes named at.there_is }),
  wrote_more old mid new (gen.lead n) lead put.0 wrote,
)
led_ended n image (Err (stops.Refused feature block)) old mid new a b c put (lead, says, wrote) = (
  gen.lead n ++ lead,
  (led_lead n lead says.0, λ bytes told. let at = says.1 bytes told in record { none = λ has. at.none (led_none n bytes has); there_is = at.there_is }),
  wrote_more old mid new (gen.lead n) lead put.0 wrote,
)
led_ended n image (Err (stops.Answered answer)) old mid new a b c put (lead, says, wrote) =
    absurd (says.1 image refl (for_answer answer (Unit {0}) (Unit {0}) (Unit {0}) tt tt tt)).answer_is
led_ended n image (Err stops.ReadFailed) old mid new a b c put (part, says, wrote) = let rose = says.0 in absurd (omega (arith, rose))
led_ended n image (Err stops.WriteFailed) old mid new a b c put (part, says, wrote) =
    (gen.lead n ++ part, (rose_later a b c put.1 says.0, led_part n image part says.1), wrote_more old mid new (gen.lead n) part put.0 wrote)
led_ended n image (Err stops.OutOfMemory) old mid new a b c put (part, says, wrote) =
    (gen.lead n ++ part, led_part n image part says, wrote_more old mid new (gen.lead n) part put.0 wrote)
led_ended n image (Err stopped) old mid new a b c put (part, says, wrote) = absurd says

-- a part of the line is one of what is written
lead_part : (n : ℕ) (image part : List ℕ) → IsPrefix part (gen.lead n) → IsPart (Gen n) (made image) part
lead_part n image part prefix = record { formed = inl prefix; begins = λ bytes told. inl prefix }

-- something cut the line short
pub lead_cut : (n : ℕ) (image : List ℕ) (stopped : Stopped) (out : Sunk) → IsPut (gen.lead n) (Err stopped) out → HasEnded (Gen n) (made image) (Err stopped) out
lead_cut n image stops.WriteFailed out put = let taken = part_taken out.old out.new (gen.lead n) put.1 in (taken.0, (put.0, lead_part n image taken.0 taken.1), taken.2)
lead_cut n image stops.OutOfMemory out put = let taken = part_taken out.old out.new (gen.lead n) put.1 in (taken.0, lead_part n image taken.0 taken.1, taken.2)
lead_cut n image stopped out put = absurd put.0

-- ---- the line of an outcome, and the status

-- the outcome is what the command came to, or memory ran out for its line
pub came_over : (n : ℕ) (image : Option (List ℕ)) (ended : Result Unit Stopped) (result : ℕ) (out err : Sunk) → HasMade (Gen n) image ended out → ((part : List ℕ) → IsClosed result (outcome_of ended part) err) → CameOver (Gen n) image result out err
came_over n None ended result out err (none, wrote) closed =
    let P : Result Unit Stopped → Type 0 = λ e. IsClosed result (outcome_of e []) err in
    elim (subst P none (closed [])) [ inl said ↦ record { text = wrote; said = said } | inr said ↦ record { text = wrote; said = said } ]
came_over n (Some image) ended result out err (part, says, wrote) closed =
    let o = outcome_of ended part in
    elim (closed part) [
      | inl said ↦ (o, says, record { text = wrote; said = said })
      | inr said ↦ (OutOfMemory (text_of o), part_on (Gen n) (made image) (Failed out) o says, record { text = wrote; said = said })
    ]

said_status : (result : ℕ) (o : Outcome) (out err : Sunk) → IsOfMade (status_of o) → Ends result o out err → IsOfMade result
said_status result o out err is ends =
    let P : ℕ → Type 0 = λ n. IsOfMade n in
    elim ends.said as (λ _. IsOfMade result) [ inl has ↦ subst P (sym has.status_is) is | inr lacks ↦ inr (inr (inl lacks.status_is)) ]

over_status : (n : ℕ) (image : List ℕ) (failed : Type 0) (o : Outcome) → SaysOn (Gen n) (made image) failed o → IsOfMade (status_of o)
over_status n image failed (Written text) says = inl refl
over_status n image failed (Faulty lead named) says = inr (inl refl)
over_status n image failed (ReadFailed part) says = let rose = says.0 in absurd (omega (arith, rose))
over_status n image failed (WriteFailed part) says = inr (inr (inl refl))
over_status n image failed (OutOfMemory part) says = inr (inr (inr (inl refl)))
over_status n image failed (Refused lead feature block) says = inr (inr (inr (inr refl)))
over_status n image failed (Answered lead answer) says = absurd (says.1 image refl (for_answer answer (Unit {0}) (Unit {0}) (Unit {0}) tt tt tt)).answer_is
over_status n image failed o says = absurd says

pub status_over : (n : ℕ) (image : Option (List ℕ)) (result : ℕ) (out err : Sunk) → CameOver (Gen n) image result out err → IsOfMade result
status_over n None result out err ends = said_status result (OutOfMemory []) out err (inr (inr (inr (inl refl)))) ends
status_over n (Some image) result out err (o, says, ends) = said_status result o out err (over_status n image (Failed out) o says) ends
