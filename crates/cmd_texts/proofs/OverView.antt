-- What a run of a command on the view that is meant has come to.
use Rattle.std.specs.Prelude.{◌≡◌, ◌⊎◌, ℕ, List, [], Option, Result, Ok, Err, refl}
use Rattle.std.proofs.Common.{inl, inr, sym, ◌∙◌, ap, subst}
use Rattle.apfs_model.specs.Lists.{and_then}
use Rattle.apfs_model.specs.Sink.{Wrote}
use Rattle.obj_base.specs.declared.stop.Feature.{Feature}
use Rattle.obj_base.specs.declared.stop.Stop.{Stop}
use Rattle.obj_base.specs.declared.stop.Stop.TheVariants as layer
use Rattle.view_rules.specs.declared.fault.TreeFault.{TreeFault}
use Rattle.cmd_words.specs.Asked.{AskedTarget}
use Rattle.nx_ring.specs.Checkpoint.{Seen, site_of}
use Rattle.vol_view.specs.Volumes.{Loaded}
use Rattle.vol_view.specs.declared.volume.View.{View}
use Rattle.view_rules.specs.Facts.{Facts}
use Rattle.view_rules.specs.Rules.{view_facts}
use Rattle.apfs_check.specs.declared.fault.Fault.{Fault}
use Rattle.apfs_check.specs.Raised.{of_view}
use Rattle.path_search.specs.Stops.{IsLawful}
use Rattle.path_search.specs.Calls.{IsGiven as IsGivenBy, IsStopThere}
use Rattle.path_search.specs.declared.answer.Answer.{Answer}
use Rattle.path_search.specs.declared.answer.Answer.TheVariants.{NoVolume, NoSnapshot}
use Rattle.path_search.specs.declared.stop.PathStop.{PathStop}
use Rattle.path_search.specs.declared.stop.PathStop.TheVariants as paths
use Rattle.cmd_lines.specs.declared.stopped.Stopped.{Stopped}
use Rattle.cmd_lines.specs.declared.stopped.Stopped.TheVariants as stops
use Rattle.cmd_texts.specs.ByCommand.{lead_of, IsText, IsFault, IsFeature, IsAnswer, RestsOn, HasResult}
use Rattle.cmd_texts.specs.Formed.{IsFormed}
use Rattle.cmd_texts.specs.Handed.{Looked, LookFailed, OfImage}
use Rattle.cmd_texts.specs.Meant.{HasVolume, HasNoVolume}
use Rattle.cmd_texts.specs.MeantView.{IsMeantView, HasNoSnapshot, IsLawfulView}
use Rattle.cmd_texts.specs.OnView.{ByAnswer, Wanted, IsWantedOf, IsTextOn, IsAnswerOn, IsFaultOn, IsFeatureOn}
use Rattle.cmd_texts.specs.Reached.{TellsWay, TellsViewWay, IsWhileLooking}
use Rattle.cmd_texts.specs.Says.{StopsAt, IsOnlyAnswer, AnswersAt}
use Rattle.cmd_texts.specs.Ended.{HasEnded}
use Rattle.cmd_texts.specs.Seen.{answered_of, stopped_on}
use Rattle.cmd_lines.specs.Words.{Asked}
use Rattle.cmd_lines.specs.Written.{Sunk}
use Rattle.cmd_lines.specs.Putting.{IsPut}
use Rattle.cmd_texts.proofs.ByAnswers.{IsOfPath, which_answer, answered_same, answered_third, of_path}
use Rattle.cmd_texts.proofs.Endings.{put_ended_if, nothing_part, nothing_read, read_ended, no_memory_ended}
use Rattle.cmd_texts.proofs.OverVolume.{IsOverVolume, way_ended, no_volume_answers}
use Rattle.cmd_lines.proofs.Puts.{wrote_nothing}
use Rattle.cmd_texts.proofs.Views.{view_volume, view_or_none, no_volume_no_view, wanted_view, wanted_lawful, answer_lawful, one_wanted}
use Rattle.cmd_texts.proofs.Ways.{volume_or_none}

-- a command is one on the view that is meant, of which something is wanted
pub record IsOverView (command : Asked) (wanted : Wanted) (told : Facts → TreeFault → Type 0) (target : AskedTarget) : Type 0 where
  pub lead_is : [] ≡ lead_of command
  pub rests : (image : List ℕ) → RestsOn command image → IsLawfulView image target
  pub text : (image text : List ℕ) → IsText command image text → IsTextOn wanted target image text
  pub text_is : (image text : List ℕ) → IsTextOn wanted target image text → IsText command image text
  pub answer : (image : List ℕ) (answer : Answer) → IsAnswer command image answer → IsAnswerOn wanted target image answer
  pub answer_is : (image : List ℕ) (answer : Answer) → IsAnswerOn wanted target image answer → IsAnswer command image answer
  pub fault_is : (image : List ℕ) (fault : Fault) → IsFaultOn told target image fault → IsFault command image fault
  pub feature_is : (image : List ℕ) (feature : Feature) (block : ℕ) → IsFeatureOn target image feature block → IsFeature command image feature block
  pub of_path : (size : ℕ) (image : List ℕ) (facts : Facts) (answer : Answer) → wanted size image facts ≡ Err answer → IsOfPath answer

-- a volume that is meant is one where a snapshot lacks
no_snapshot_volume : (image : List ℕ) (target : AskedTarget) → HasNoSnapshot image target → HasVolume image target.volume
no_snapshot_volume image target lacks = view_volume image target lacks.seen lacks.volume lacks.volume_is

wanted_volume : (wanted : Wanted) (target : AskedTarget) (image : List ℕ) (result : Result (List ℕ) Answer) → IsWantedOf wanted target image result → HasVolume image target.volume
wanted_volume wanted target image result is = view_volume image target is.seen is.volume is.is.volume_is

answer_volume : (wanted : Wanted) (target : AskedTarget) (image : List ℕ) (answer : Answer) → IsAnswerOn wanted target image answer → ((answer ≡ NoVolume) × HasNoVolume image target.volume) ⊎ HasVolume image target.volume
answer_volume wanted target image answer is =
    elim (which_answer answer (HasNoVolume image target.volume) (HasNoSnapshot image target) (IsWantedOf wanted target image (Err answer)) is) [
      | inl volume ↦ inl volume
      | inr more ↦ elim more [ inl snapshot ↦ inr (no_snapshot_volume image target snapshot.1) | inr path ↦ inr (wanted_volume wanted target image (Err answer) path) ]
    ]

-- it is one on the volume that is meant
over_volume : (command : Asked) (wanted : Wanted) (told : Facts → TreeFault → Type 0) (target : AskedTarget) → IsOverView command wanted told target → IsOverVolume command target.volume
over_volume command wanted told target is = record {
  lead_is = is.lead_is;
  text = λ image text has. wanted_volume wanted target image (Ok text) (is.text image text has);
  answer = λ image answer has. answer_volume wanted target image answer (is.answer image answer has);
  none = λ image lacks. is.answer_is image NoVolume lacks;
  fault = λ image fault there. is.fault_is image fault (inl there);
  feature = λ image feature block there. is.feature_is image feature block (inl there);
}

-- another answer where no snapshot has the name
only_no_snapshot : (wanted : Wanted) (target : AskedTarget) (image : List ℕ) (answer : Answer) → IsAnswerOn wanted target image answer → HasNoSnapshot image target → answer ≡ NoSnapshot
only_no_snapshot wanted target image answer is lacks =
    elim (which_answer answer (HasNoVolume image target.volume) (HasNoSnapshot image target) (IsWantedOf wanted target image (Err answer)) is) [
      | inl volume ↦ absurd (volume_or_none image target.volume (no_snapshot_volume image target lacks) volume.1)
      | inr more ↦ elim more [ inl snapshot ↦ snapshot.0 | inr path ↦ absurd (view_or_none image target (wanted_view wanted target image (Err answer) path) lacks) ]
    ]

-- where no snapshot has the name, that is the only answer
no_snapshot_answers : (command : Asked) (wanted : Wanted) (told : Facts → TreeFault → Type 0) (target : AskedTarget) (image : List ℕ) (answer : Answer) → IsOverView command wanted told target →
    answer ≡ NoSnapshot → HasNoSnapshot image target → AnswersAt command image answer
no_snapshot_answers command wanted told target image answer is same lacks rests = record {
  none = λ text has. view_or_none image target (wanted_view wanted target image (Ok text) (is.text image text has)) lacks;
  only = λ other has. only_no_snapshot wanted target image other (is.answer image other has) lacks ∙ sym same;
  answer_is = let P : Answer → Type 0 = λ a. IsAnswer command image a in subst P (sym same) (is.answer_is image NoSnapshot lacks);
}

-- what stands in the way to the volume stands in the way to the view
pub view_way : (image : List ℕ) (target : AskedTarget) (stopped : Stopped) → TellsWay image target.volume stopped → TellsViewWay image target stopped
view_way image target (stops.Answered answer) tells =
    let P : Answer → Type 0 = λ a. ByAnswer a (HasNoVolume image target.volume) (HasNoSnapshot image target) ⊥ in
    subst P (sym tells.0) tells.1
view_way image target (stops.Faulty why) tells = tells
view_way image target (stops.Refused feature block) tells = tells
view_way image target stopped tells = tt

-- what is answered on the way to the view
way_answers : (command : Asked) (wanted : Wanted) (told : Facts → TreeFault → Type 0) (target : AskedTarget) (image : List ℕ) (answer : Answer) → IsOverView command wanted told target →
    ByAnswer answer (HasNoVolume image target.volume) (HasNoSnapshot image target) ⊥ → AnswersAt command image answer
way_answers command wanted told target image answer is tells =
    elim (which_answer answer (HasNoVolume image target.volume) (HasNoSnapshot image target) ⊥ tells) [
      | inl volume ↦ no_volume_answers command target.volume image answer (over_volume command wanted told target is) volume.0 volume.1
      | inr more ↦ elim more [ inl snapshot ↦ no_snapshot_answers command wanted told target image answer is snapshot.0 snapshot.1 | inr none ↦ absurd none ]
    ]

-- a command on the view that is meant stopped on its way to it, and nothing was written
pub view_way_ended : (command : Asked) (wanted : Wanted) (told : Facts → TreeFault → Type 0) (target : AskedTarget) (source : Looked) (stopped : Stopped)
    (contents : Option (List ℕ)) (count : ℕ) → IsOverView command wanted told target →
    OfImage source (λ image. TellsViewWay image target stopped) → IsWhileLooking stopped → (stopped ≡ stops.ReadFailed → LookFailed source) →
    HasEnded command source (Err stopped) (record { old = contents; new = contents; old_faults = count; new_faults = count })
view_way_ended command wanted told target source (stops.Answered answer) contents count is tells looking cause =
    ([], (is.lead_is, λ image given. way_answers command wanted told target image answer is (tells image given)), wrote_nothing contents)
view_way_ended command wanted told target source (stops.Faulty why) contents count is tells looking cause =
    way_ended command target.volume source (stops.Faulty why) contents count (over_volume command wanted told target is) tells looking cause
view_way_ended command wanted told target source (stops.Refused feature block) contents count is tells looking cause =
    way_ended command target.volume source (stops.Refused feature block) contents count (over_volume command wanted told target is) tells looking cause
view_way_ended command wanted told target source stops.ReadFailed contents count is tells looking cause = read_ended command source contents count (cause refl)
view_way_ended command wanted told target source stops.OutOfMemory contents count is tells looking cause = no_memory_ended command source contents count
view_way_ended command wanted told target source stopped contents count is tells looking cause = absurd looking

-- what a stop of a call on a path says of what is wanted: it is the answer, and neither a fault nor a feature comes
abbrev pub StopGiven : Result (List ℕ) Answer → Stop PathStop → Type 0
StopGiven wanted (layer.Found (paths.Answer answer)) = wanted ≡ Err answer
StopGiven wanted (layer.Found (paths.Fault fault)) = ⊥
StopGiven wanted (layer.Unsupported feature block) = ⊥
StopGiven wanted layer.ReadFault = Unit {0}
StopGiven wanted layer.NoMemory = Unit {0}

-- what was given, as its text
pub given_stop : {T U : Type 0} (view : T → U) (wanted : Result U Answer) (text : U → List ℕ) (stop : Stop PathStop) → IsGivenBy view wanted (Err stop) → StopGiven (and_then wanted (λ x. Ok (text x))) stop
given_stop {T} {U} view wanted text (layer.Found (paths.Answer answer)) e = ap (λ (r : Result U Answer). and_then r (λ x. Ok (text x))) e
given_stop view wanted text (layer.Found (paths.Fault fault)) e = e
given_stop view wanted text (layer.Unsupported feature block) e = e
given_stop view wanted text layer.ReadFault e = tt
given_stop view wanted text layer.NoMemory e = tt

-- the same answer is wanted
only_wanted : (wanted : Wanted) (target : AskedTarget) (image : List ℕ) (other answer : Answer) → IsAnswerOn wanted target image other → IsWantedOf wanted target image (Err answer) → other ≡ answer
only_wanted wanted target image other answer is has =
    elim (which_answer other (HasNoVolume image target.volume) (HasNoSnapshot image target) (IsWantedOf wanted target image (Err other)) is) [
      | inl volume ↦ absurd (no_volume_no_view image target volume.1 (wanted_view wanted target image (Err answer) has))
      | inr more ↦ elim more [
        | inl snapshot ↦ absurd (view_or_none image target (wanted_view wanted target image (Err answer) has) snapshot.1)
        | inr path ↦
            let e : ◌≡◌ {A = Result (List ℕ) Answer} (Err other) (Err answer) = one_wanted wanted target image (Err other) (Err answer) path has in
            Prim.cc
      ]
    ]

no_text_wanted : (wanted : Wanted) (target : AskedTarget) (image text : List ℕ) (answer : Answer) → IsTextOn wanted target image text → IsWantedOf wanted target image (Err answer) → ⊥
no_text_wanted wanted target image text answer has is =
    let e : ◌≡◌ {A = Result (List ℕ) Answer} (Ok text) (Err answer) = one_wanted wanted target image (Ok text) (Err answer) has is in
    Prim.cc

-- the answer that is wanted is the only one
path_answers : (command : Asked) (wanted : Wanted) (told : Facts → TreeFault → Type 0) (target : AskedTarget) (image : List ℕ) (answer : Answer) → IsOverView command wanted told target → IsOfPath answer →
    IsWantedOf wanted target image (Err answer) → IsOnlyAnswer command image answer
path_answers command wanted told target image answer is path has = record {
  none = λ text told. no_text_wanted wanted target image text answer (is.text image text told) has;
  only = λ other told. only_wanted wanted target image other answer (is.answer image other told) has;
  answer_is = is.answer_is image answer (of_path answer (HasNoVolume image target.volume) (HasNoSnapshot image target) (IsWantedOf wanted target image (Err answer)) path has);
}

-- where a command has something of an image, the view that is meant meets its rules
result_lawful : (command : Asked) (wanted : Wanted) (told : Facts → TreeFault → Type 0) (target : AskedTarget) (image : List ℕ) → IsOverView command wanted told target → HasResult command image → IsLawfulView image target
result_lawful command wanted told target image is (inl has) = wanted_lawful wanted target image (Ok has.0) (is.text image has.0 has.1)
result_lawful command wanted told target image is (inr has) = answer_lawful wanted target image has.0 (is.answer image has.0 has.1)

-- a call on a path of the view that is meant
pub record IsOnPath (wanted : Wanted) (told : Facts → TreeFault → Type 0) (target : AskedTarget) (image : List ℕ) (seen : Seen) (volume : Loaded) (view : View) (stop : Stop PathStop) : Type 0 where
  pub meant : IsMeantView image target seen volume view
  pub present : IsStopThere image (site_of seen) volume view stop
  pub told_is : (fault : TreeFault) → stop ≡ layer.Found (paths.Fault fault) → told (view_facts image (site_of seen) volume view) fault
  pub exact : IsLawful image (site_of seen) volume view → StopGiven (wanted (site_of seen).block_size image (view_facts image (site_of seen) volume view)) stop

-- what was answered of a path
answer_on : (command : Asked) (wanted : Wanted) (told : Facts → TreeFault → Type 0) (target : AskedTarget) (image : List ℕ) (seen : Seen) (volume : Loaded) (view : View) (answer : Answer) → IsOverView command wanted told target →
    IsOnPath wanted told target image seen volume view (layer.Found (paths.Answer answer)) → AnswersAt command image (answered_of answer)
answer_on command wanted told target image seen volume view answer is on rests =
    let third : RestsOn command image = answered_third answer (Unit {0}) (Unit {0}) (RestsOn command image) rests in
    let lawful : IsLawful image (site_of seen) volume view = is.rests image third seen volume view on.meant in
    let e = on.exact lawful in
    let path : IsOfPath answer = is.of_path (site_of seen).block_size image (view_facts image (site_of seen) volume view) answer e in
    let P : Answer → Type 0 = λ a. IsOnlyAnswer command image a in
    subst P (sym (answered_same answer path))
    (path_answers command wanted told target image answer is path (record { seen = seen; volume = volume; view = view; is = on.meant; lawful = lawful; same = e }))

-- a fault of the view that was named
fault_on : (command : Asked) (wanted : Wanted) (told : Facts → TreeFault → Type 0) (target : AskedTarget) (image : List ℕ) (seen : Seen) (volume : Loaded) (view : View) (fault : TreeFault) → IsOverView command wanted told target →
    IsOnPath wanted told target image seen volume view (layer.Found (paths.Fault fault)) → StopsAt command image (IsFault command image (of_view fault))
fault_on command wanted told target image seen volume view fault is on = record {
  none = λ result. on.exact (result_lawful command wanted told target image is result seen volume view on.meant);
  there_is =
      is.fault_is image (of_view fault)
      (inr (record { seen = seen; volume = volume; view = view; why = fault; is = on.meant; there = on.present; told_is = on.told_is fault refl; same = refl }));
}

-- a feature of the view that was named
feature_on : (command : Asked) (wanted : Wanted) (told : Facts → TreeFault → Type 0) (target : AskedTarget) (image : List ℕ) (seen : Seen) (volume : Loaded) (view : View) (feature : Feature) (block : ℕ) → IsOverView command wanted told target →
    IsOnPath wanted told target image seen volume view (layer.Unsupported feature block) → StopsAt command image (IsFeature command image feature block)
feature_on command wanted told target image seen volume view feature block is on = record {
  none = λ result. on.exact (result_lawful command wanted told target image is result seen volume view on.meant);
  there_is = is.feature_is image feature block (inr (record { seen = seen; volume = volume; view = view; is = on.meant; there = on.present }));
}

-- a call on a path of the view that is meant stopped, and nothing was written
pub view_stop_ended : (command : Asked) (wanted : Wanted) (told : Facts → TreeFault → Type 0) (target : AskedTarget) (source : Looked)
    (seen : Seen) (volume : Loaded) (view : View) (stop : Stop PathStop) (out : Sunk) → IsOverView command wanted told target →
    OfImage source (λ image. IsOnPath wanted told target image seen volume view stop) → (stop ≡ layer.ReadFault → LookFailed source) → Wrote out.old out.new [] →
    HasEnded command source (Err (stopped_on stop)) out
view_stop_ended command wanted told target source seen volume view (layer.Found (paths.Answer answer)) out is on cause nothing =
    ([], (is.lead_is, λ image given. answer_on command wanted told target image seen volume view answer is (on image given)), nothing)
view_stop_ended command wanted told target source seen volume view (layer.Found (paths.Fault fault)) out is on cause nothing =
    ([], (is.lead_is, λ image given. fault_on command wanted told target image seen volume view fault is (on image given)), nothing)
view_stop_ended command wanted told target source seen volume view (layer.Unsupported feature block) out is on cause nothing =
    ([], (is.lead_is, λ image given. feature_on command wanted told target image seen volume view feature block is (on image given)), nothing)
view_stop_ended command wanted told target source seen volume view layer.ReadFault out is on cause nothing = ([], (cause refl, nothing_read command source), nothing)
view_stop_ended command wanted told target source seen volume view layer.NoMemory out is on cause nothing = ([], nothing_part command source, nothing)

-- the text that is wanted of the view that is meant was put
pub view_put_ended : (command : Asked) (wanted : Wanted) (told : Facts → TreeFault → Type 0) (target : AskedTarget) (source : Looked)
    (seen : Seen) (volume : Loaded) (view : View) (text : List ℕ) (ended : Result Unit Stopped) (out : Sunk) → IsOverView command wanted told target → IsFormed command text →
    OfImage source (λ image. IsMeantView image target seen volume view) →
    OfImage source (λ image. IsLawful image (site_of seen) volume view → wanted (site_of seen).block_size image (view_facts image (site_of seen) volume view) ≡ Ok text) →
    IsPut text ended out → HasEnded command source ended out
view_put_ended command wanted told target source seen volume view text ended out is formed meant exact put =
    put_ended_if command source text ended out formed
    (λ image given rests.
    let lawful : IsLawful image (site_of seen) volume view = is.rests image rests seen volume view (meant image given) in
    is.text_is image text (record { seen = seen; volume = volume; view = view; is = meant image given; lawful = lawful; same = exact image given lawful }))
    put
