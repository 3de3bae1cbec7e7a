-- What a run of a command on the volume that is meant has come to, where it doesn't get to that volume.
use Rattle.std.specs.Prelude.{◌≡◌, ◌⊎◌, ℕ, List, [], Option, Err, refl}
use Rattle.std.proofs.Common.{inl, inr, sym, ◌∙◌, subst}
use Rattle.obj_base.specs.declared.stop.Feature.{Feature}
use Rattle.apfs_check.specs.declared.fault.Fault.{Fault}
use Rattle.path_search.specs.declared.answer.Answer.{Answer}
use Rattle.path_search.specs.declared.answer.Answer.TheVariants.{NoVolume}
use Rattle.cmd_lines.specs.declared.named.Named.{Named}
use Rattle.cmd_lines.specs.declared.named.Named.TheVariants.{InContainer}
use Rattle.cmd_lines.specs.declared.stopped.Stopped.{Stopped}
use Rattle.cmd_lines.specs.declared.stopped.Stopped.TheVariants as stops
use Rattle.cmd_texts.specs.ByCommand.{lead_of, IsText, IsFault, IsNamed, IsFeature, IsAnswer, HasResult}
use Rattle.cmd_texts.specs.Handed.{Looked, LookFailed, OfImage}
use Rattle.cmd_texts.specs.Meant.{HasVolume, HasNoVolume, IsMeantFault, IsMeantFeature}
use Rattle.cmd_texts.specs.Reached.{IsClear, OfContainer, TellsWay, IsWhileLooking}
use Rattle.cmd_texts.specs.Says.{StopsAt, AnswersAt}
use Rattle.cmd_texts.specs.Ended.{HasEnded}
use Rattle.cmd_lines.specs.Words.{Asked, Snapshots}
use Rattle.cmd_texts.proofs.Endings.{read_ended, no_memory_ended}
use Rattle.cmd_lines.proofs.Puts.{wrote_nothing}
use Rattle.cmd_texts.proofs.Ways.{volume_or_none}

-- a command is one on the volume that is meant
pub record IsOverVolume (command : Asked) (named : Option ℕ) : Type 0 where
  pub lead_is : [] ≡ lead_of command
  pub text : (image text : List ℕ) → IsText command image text → HasVolume image named
  pub answer : (image : List ℕ) (answer : Answer) → IsAnswer command image answer → ((answer ≡ NoVolume) × HasNoVolume image named) ⊎ HasVolume image named
  pub none : (image : List ℕ) → HasNoVolume image named → IsAnswer command image NoVolume
  pub fault : (image : List ℕ) (fault : Fault) → IsMeantFault image named fault → IsFault command image fault
  pub feature : (image : List ℕ) (feature : Feature) (block : ℕ) → IsMeantFeature image named feature block → IsFeature command image feature block

-- it has nothing of an image where something stands in the way
result_clear : (command : Asked) (named : Option ℕ) (image : List ℕ) → IsOverVolume command named → HasResult command image → IsClear image named
result_clear command named image is (inl has) = inl (is.text image has.0 has.1)
result_clear command named image is (inr has) = elim (is.answer image has.0 has.1) [ inl lacks ↦ inr lacks.1 | inr volume ↦ inl volume ]

-- where the slot that is meant holds none, that is the only answer
pub no_volume_answers : (command : Asked) (named : Option ℕ) (image : List ℕ) (answer : Answer) → IsOverVolume command named → answer ≡ NoVolume → HasNoVolume image named → AnswersAt command image answer
no_volume_answers command named image answer is same lacks rests = record {
  none = λ text has. volume_or_none image named (is.text image text has) lacks;
  only = λ other has. elim (is.answer image other has) [ inl which ↦ which.0 ∙ sym same | inr volume ↦ absurd (volume_or_none image named volume lacks) ];
  answer_is = let P : Answer → Type 0 = λ a. IsAnswer command image a in subst P (sym same) (is.none image lacks);
}

-- what is told of a fault of the container is told of the fault that is named
pub named_of : (command : Asked) (image : List ℕ) (why : Named) (P : Fault → Type 0) → ((fault : Fault) → P fault → StopsAt command image (IsFault command image fault)) → OfContainer why P → StopsAt command image (IsNamed command image why)
named_of command image (InContainer fault) P follows told = follows fault told
named_of command image why P follows told = absurd told

-- a command on the volume that is meant stopped on its way to it, and nothing was written
pub way_ended : (command : Asked) (named : Option ℕ) (source : Looked) (stopped : Stopped) (contents : Option (List ℕ)) (count : ℕ) → IsOverVolume command named →
    OfImage source (λ image. TellsWay image named stopped) → IsWhileLooking stopped → (stopped ≡ stops.ReadFailed → LookFailed source) →
    HasEnded command source (Err stopped) (record { old = contents; new = contents; old_faults = count; new_faults = count })
way_ended command named source (stops.Faulty why) contents count is tells looking cause = (
  [],
  (
    is.lead_is,
    λ image told.
        named_of command image why (λ fault. (IsClear image named → ⊥) × IsMeantFault image named fault)
        (λ fault both. record { none = λ result. both.0 (result_clear command named image is result); there_is = is.fault image fault both.1 })
        (tells image told),
  ),
  wrote_nothing contents,
)
way_ended command named source (stops.Refused feature block) contents count is tells looking cause = (
  [],
  (
    is.lead_is,
    λ image told. record {
      none = λ result. (tells image told).0 (result_clear command named image is result);
      there_is = is.feature image feature block (tells image told).1;
    },
  ),
  wrote_nothing contents,
)
way_ended command named source (stops.Answered answer) contents count is tells looking cause = (
  [],
  (is.lead_is, λ image told. no_volume_answers command named image answer is (tells image told).0 (tells image told).1),
  wrote_nothing contents,
)
way_ended command named source stops.ReadFailed contents count is tells looking cause = read_ended command source contents count (cause refl)
way_ended command named source stops.OutOfMemory contents count is tells looking cause = no_memory_ended command source contents count
way_ended command named source stopped contents count is tells looking cause = absurd looking

-- `snapshots` is one
pub snapshots_over : (named : Option ℕ) → IsOverVolume (Snapshots named) named
snapshots_over named = record {
  lead_is = refl;
  text = λ image text is. record { seen = is.0; head = is.1; volume = is.2; is = is.3 };
  answer = λ image answer is. inl is;
  none = λ image lacks. (refl, lacks);
  fault = λ image fault there. there;
  feature = λ image feature block there. there;
}
