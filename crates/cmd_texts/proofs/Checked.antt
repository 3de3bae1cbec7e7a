-- What a run of a command that checks the container first has come to: from the check where that stops it, and from the command without a check where the container is well-formed.
use Rattle.std.specs.Prelude.{◌≡◌, ◌++◌, ℕ, List, [], Option, Some, Result, Err, refl}
use Rattle.std.proofs.Common.{inl, inr, sym, ◌∙◌, subst}
use Rattle.apfs_model.specs.Counts.{Rose}
use Rattle.cmd_words.specs.Asked.{AskedTarget}
use Rattle.obj_base.specs.declared.stop.Feature.{Feature}
use Rattle.obj_base.specs.declared.stop.Stop.{Stop}
use Rattle.obj_base.specs.declared.stop.Stop.TheVariants as layer
use Rattle.obj_base.specs.Stops.{Tells}
use Rattle.view_rules.specs.declared.profile.Profile.{Profile}
use Rattle.view_rules.specs.declared.profile.Profile.TheVariants.{Plain}
use Rattle.apfs_check.specs.Present as container
use Rattle.apfs_check.specs.WellFormed.{IsWellFormed}
use Rattle.apfs_check.specs.declared.fault.Fault.{Fault}
use Rattle.apfs_check.proofs.Law.{flawed_refutes}
use Rattle.apfs_check.proofs.Numbers.{reported}
use Rattle.path_search.specs.declared.answer.Answer.{Answer}
use Rattle.cmd_lines.specs.declared.stopped.Stopped.{Stopped}
use Rattle.cmd_lines.specs.declared.stopped.Stopped.TheVariants as stops
use Rattle.cmd_lines.specs.declared.words.Checks.{Checks}
use Rattle.cmd_lines.specs.declared.words.Checks.TheVariants.{Quick, First}
use Rattle.cmd_texts.specs.First.{ResultBy, FaultBy, FeatureBy}
use Rattle.cmd_texts.specs.ByCommand.{HandedIn, from_of, lead_of, streams, IsText, IsFault, IsNamed, IsFeature, IsAnswer, RestsOn, HasResult, profile_of}
use Rattle.cmd_lines.specs.Words.{checks_of}
use Rattle.cmd_lines.specs.Unchecked.{quick}
use Rattle.cmd_texts.specs.Commands.Ls as ls
use Rattle.cmd_texts.specs.Commands.Tree as tree
use Rattle.cmd_texts.specs.Commands.Cat as cat
use Rattle.cmd_texts.specs.Commands.Xattr as xattr
use Rattle.cmd_texts.specs.Commands.Gen as gen
use Rattle.cmd_texts.specs.Formed.{IsFormed}
use Rattle.cmd_texts.specs.Handed.{Looked, OfImage, looked}
use Rattle.cmd_lines.specs.Outcome.{Outcome, Written, Faulty, ReadFailed, WriteFailed, OutOfMemory, Refused, Answered}
use Rattle.cmd_texts.specs.Reached.{IsClean, IsWhileLooking, TellsFlaw}
use Rattle.cmd_lines.specs.ReportText.{report_text}
use Rattle.cmd_texts.specs.Says.{BeginsText, BeginsForm, IsPart, IsReadPart, IsTextIf, StopsAt, AnswersAt, SaysOn}
use Rattle.cmd_texts.specs.Ended.{HasEnded}
use Rattle.cmd_lines.specs.Stops.{outcome_of, stopped_at}
use Rattle.cmd_lines.specs.Texts.{IsPrefix}
use Rattle.cmd_lines.specs.Words.{Asked, Check, Usage, Ls, Tree, Cat, Xattr, Export, Gen, Format}
use Rattle.cmd_lines.specs.Written.{Sunk, Failed}
use Rattle.cmd_texts.proofs.Browsable.{well_lawful, well_wanted}
use Rattle.cmd_texts.proofs.ByAnswers.{for_answer}
use Rattle.cmd_texts.proofs.Endings.{no_result, read_ended, no_memory_ended}
use Rattle.cmd_texts.proofs.OverVolume.{named_of}
use Rattle.cmd_texts.proofs.OverViews.{ls_over, tree_over, cat_over, xattr_over}
use Rattle.cmd_lines.proofs.Puts.{wrote_nothing}
use Rattle.cmd_texts.proofs.Usages.{usage_result}
use Rattle.cmd_texts.proofs.Exports.{export_result}

-- ---- the container is well-formed

-- a command after a check, by the command without one
pub record IsAfter (profile : Profile) (plain after : Asked) : Type 0 where
  pub lead_is : lead_of plain ≡ lead_of after
  pub streams_is : streams plain ≡ streams after
  pub formed : (text : List ℕ) → IsFormed plain text → IsFormed after text
  pub text : (image text : List ℕ) → IsText after image text → IsText plain image text
  pub text_is : (image text : List ℕ) → IsWellFormed profile image → IsText plain image text → IsText after image text
  pub answer : (image : List ℕ) (answer : Answer) → IsAnswer after image answer → IsAnswer plain image answer
  pub answer_is : (image : List ℕ) (answer : Answer) → IsWellFormed profile image → IsAnswer plain image answer → IsAnswer after image answer
  pub rests : (image : List ℕ) → IsWellFormed profile image → RestsOn plain image
  pub has : (image : List ℕ) → IsWellFormed profile image → HasResult plain image

-- the bytes of a source, where it tells them, are those of a well-formed container
abbrev pub IsWell : Profile → Looked → Type 0
IsWell profile source = OfImage source (λ image. IsWellFormed profile image)

text_after : (profile : Profile) (plain after : Asked) (image text : List ℕ) → IsAfter profile plain after → IsWellFormed profile image → IsTextIf plain image text → IsTextIf after image text
text_after profile plain after image text a w is rests = a.text_is image text w (is (a.rests image w))

begins_after : (profile : Profile) (plain after : Asked) (image part : List ℕ) → IsAfter profile plain after → IsWellFormed profile image → BeginsText plain image part → BeginsText after image part
begins_after profile plain after image part a w (inl lead) = let P : List ℕ → Type 0 = λ l. IsPrefix part l in inl (subst P a.lead_is lead)
begins_after profile plain after image part a w (inr (text, is, prefix)) = inr (text, text_after profile plain after image text a w is, prefix)

form_after : (profile : Profile) (plain after : Asked) (part : List ℕ) → IsAfter profile plain after → BeginsForm plain part → BeginsForm after part
form_after profile plain after part a (inl lead) = let P : List ℕ → Type 0 = λ l. IsPrefix part l in inl (subst P a.lead_is lead)
form_after profile plain after part a (inr (text, is, prefix)) = inr (text, a.formed text is, prefix)

answers_after : (profile : Profile) (plain after : Asked) (image : List ℕ) (answer : Answer) → IsAfter profile plain after → IsWellFormed profile image → AnswersAt plain image answer → AnswersAt after image answer
answers_after profile plain after image answer a w at rests =
    let only = at (for_answer answer (Unit {0}) (Unit {0}) (RestsOn plain image) tt tt (a.rests image w)) in
    record {
      none = λ text has. only.none text (a.text image text has);
      only = λ other has. only.only other (a.answer image other has);
      answer_is = a.answer_is image answer w only.answer_is;
    }

-- without a check nothing is found of a well-formed container, since the command has a result
stops_after : (profile : Profile) (plain after : Asked) (image : List ℕ) (P Q : Type 0) → IsAfter profile plain after → IsWellFormed profile image → StopsAt plain image P → StopsAt after image Q
stops_after profile plain after image P Q a w at = absurd (at.none (a.has image w))

part_after : (profile : Profile) (plain after : Asked) (source : Looked) (part : List ℕ) → IsAfter profile plain after → IsWell profile source → IsPart plain source part → IsPart after source part
part_after profile plain after source part a well is = record {
  formed = form_after profile plain after part a is.formed;
  begins = λ image told. begins_after profile plain after image part a (well image told) (is.begins image told);
}

read_after : (profile : Profile) (plain after : Asked) (source : Looked) (part : List ℕ) → IsAfter profile plain after → IsWell profile source → IsReadPart plain source part → IsReadPart after source part
read_after profile plain after source part a well is = record {
  is = part_after profile plain after source part a well is.is;
  before = λ none. let P : List ℕ → Type 0 = λ l. IsPrefix part l in subst P a.lead_is (is.before (a.streams_is ∙ none));
}

says_after : (profile : Profile) (plain after : Asked) (source : Looked) (failed : Type 0) (o : Outcome) → IsAfter profile plain after → IsWell profile source → SaysOn plain source failed o → SaysOn after source failed o
says_after profile plain after source failed (Written text) a well says =
    record { formed = a.formed text says.formed; is = λ image told. text_after profile plain after image text a (well image told) (says.is image told) }
says_after profile plain after source failed (Faulty lead named) a well says =
    (says.0 ∙ a.lead_is, λ image told. stops_after profile plain after image (IsNamed plain image named) (IsNamed after image named) a (well image told) (says.1 image told))
says_after profile plain after source failed (ReadFailed part) a well says = (says.0, read_after profile plain after source part a well says.1)
says_after profile plain after source failed (WriteFailed part) a well says = (says.0, part_after profile plain after source part a well says.1)
says_after profile plain after source failed (OutOfMemory part) a well says = part_after profile plain after source part a well says
says_after profile plain after source failed (Refused lead feature block) a well says =
    (says.0 ∙ a.lead_is, λ image told. stops_after profile plain after image (IsFeature plain image feature block) (IsFeature after image feature block) a (well image told) (says.1 image told))
says_after profile plain after source failed (Answered lead answer) a well says = (says.0 ∙ a.lead_is, λ image told. answers_after profile plain after image answer a (well image told) (says.1 image told))
says_after profile plain after source failed o a well says = says

ended_after : (profile : Profile) (plain after : Asked) (source : Looked) (ended : Result Unit Stopped) (out : Sunk) → IsAfter profile plain after → IsWell profile source → HasEnded plain source ended out → HasEnded after source ended out
ended_after profile plain after source ended out a well (part, says, wrote) = (part, says_after profile plain after source (Failed out) (outcome_of ended part) a well says, wrote)

-- the commands on a view
ls_after : (profile : Profile) (target : AskedTarget) → IsAfter profile (Ls Quick target) (Ls (First profile) target)
ls_after profile target = record {
  lead_is = refl;
  streams_is = refl;
  formed = λ text is. is;
  text = λ image text is. is.1;
  text_is = λ image text w is. (w, is);
  answer = λ image answer is. is.1;
  answer_is = λ image answer w is. (w, is);
  rests = λ image w. well_lawful profile image target w;
  has = λ image w. well_wanted profile (ls.wanted target.path) target image (ls_over target).of_path w;
}

tree_after : (profile : Profile) (target : AskedTarget) → IsAfter profile (Tree Quick target) (Tree (First profile) target)
tree_after profile target = record {
  lead_is = refl;
  streams_is = refl;
  formed = λ text is. is;
  text = λ image text is. is.1;
  text_is = λ image text w is. (w, is);
  answer = λ image answer is. is.1;
  answer_is = λ image answer w is. (w, is);
  rests = λ image w. well_lawful profile image target w;
  has = λ image w. well_wanted profile (tree.wanted target.path) target image (tree_over target).of_path w;
}

cat_after : (profile : Profile) (target : AskedTarget) → IsAfter profile (Cat Quick target) (Cat (First profile) target)
cat_after profile target = record {
  lead_is = refl;
  streams_is = refl;
  formed = λ text is. is;
  text = λ image text is. is.1;
  text_is = λ image text w is. (w, is);
  answer = λ image answer is. is.1;
  answer_is = λ image answer w is. (w, is);
  rests = λ image w. well_lawful profile image target w;
  has = λ image w. well_wanted profile (cat.wanted target.path) target image (cat_over target).of_path w;
}

xattr_after : (profile : Profile) (target : AskedTarget) (name : Option (List ℕ)) → IsAfter profile (Xattr Quick target name) (Xattr (First profile) target name)
xattr_after profile target name = record {
  lead_is = refl;
  streams_is = refl;
  formed = λ text is. is;
  text = λ image text is. is.1;
  text_is = λ image text w is. (w, is);
  answer = λ image answer is. is.1;
  answer_is = λ image answer w is. (w, is);
  rests = λ image w. well_lawful profile image target w;
  has = λ image w. well_wanted profile (xattr.wanted target.path name) target image (xattr_over target name).of_path w;
}

-- after a check a command has what it has without one
result_after : (profile : Profile) (plain after : Asked) (image : List ℕ) → IsAfter profile plain after → IsWellFormed profile image → HasResult after image
result_after profile plain after image a w =
    elim (a.has image w) as (λ _. HasResult after image) [ inl has ↦ inl (has.0, a.text_is image has.0 w has.1) | inr has ↦ inr (has.0, a.answer_is image has.0 w has.1) ]

-- a fact of the profile that is asked for
at_profile : (asked profile : Profile) (image : List ℕ) → ◌≡◌ {A = Option Profile} (Some asked) (Some profile) → IsWellFormed profile image → IsWellFormed asked image
at_profile asked profile image e w =
    let same : asked ≡ profile = Prim.cc in
    let P : Profile → Type 0 = λ p. IsWellFormed p image in
    subst P (sym same) w

-- of a well-formed container a command that checks it has a text or an answer
pub sound_result : (command : Asked) (profile : Profile) (image : List ℕ) → profile_of command ≡ Some profile → IsWellFormed profile image → HasResult command image
sound_result (Check asked) profile image e w =
    let right : IsWellFormed asked image = at_profile asked profile image e w in
    let told = reported asked image right in
    inl (report_text told.0, (told.0, record { right = right; report = told.1 }, refl))
sound_result (Usage volume) profile image e w = usage_result volume image (at_profile Plain profile image e w)
sound_result (Export target) profile image e w = export_result target image (at_profile Plain profile image e w)
sound_result (Gen n) profile image e w =
    let right : IsWellFormed Plain image = at_profile Plain profile image e w in
    let told = reported Plain image right in
    inl (gen.lead n ++ report_text told.0, (told.0, record { right = right; report = told.1 }, refl))
sound_result (Ls (First asked) target) profile image e w = result_after asked (Ls Quick target) (Ls (First asked) target) image (ls_after asked target) (at_profile asked profile image e w)
sound_result (Tree (First asked) target) profile image e w = result_after asked (Tree Quick target) (Tree (First asked) target) image (tree_after asked target) (at_profile asked profile image e w)
sound_result (Cat (First asked) target) profile image e w = result_after asked (Cat Quick target) (Cat (First asked) target) image (cat_after asked target) (at_profile asked profile image e w)
sound_result (Xattr (First asked) target name) profile image e w = result_after asked (Xattr Quick target name) (Xattr (First asked) target name) image (xattr_after asked target name) (at_profile asked profile image e w)
sound_result command profile image e w = absurd Prim.cc

-- a check that was asked for found nothing, and the command came to something without one
pub clean_ended : (command : Asked) (source : Looked) (ended : Result Unit Stopped) (out : Sunk) → OfImage source (λ image. IsClean (checks_of command) image) →
    HasEnded (quick command) source ended out → HasEnded command source ended out
clean_ended (Ls (First profile) target) source ended out clean has =
    ended_after profile (Ls Quick target) (Ls (First profile) target) source ended out (ls_after profile target) clean has
clean_ended (Tree (First profile) target) source ended out clean has =
    ended_after profile (Tree Quick target) (Tree (First profile) target) source ended out (tree_after profile target) clean has
clean_ended (Cat (First profile) target) source ended out clean has =
    ended_after profile (Cat Quick target) (Cat (First profile) target) source ended out (cat_after profile target) clean has
clean_ended (Xattr (First profile) target name) source ended out clean has =
    ended_after profile (Xattr Quick target name) (Xattr (First profile) target name) source ended out (xattr_after profile target name) clean has
clean_ended command source ended out clean has = has

-- ---- the container isn't well-formed

-- what has a text or an answer after a check has passed it
passed : (checks : Checks) (image : List ℕ) (X : Type 0) → ResultBy checks image X → ResultBy checks image (Unit {0})
passed Quick image X is = tt
passed (First profile) image X is = (is.0, tt)

-- where a check names something, nothing has passed it
clash_fault : (checks : Checks) (image : List ℕ) (fault : Fault) → FaultBy checks image fault ⊥ → ResultBy checks image (Unit {0}) → ⊥
clash_fault Quick image fault flaw is = flaw
clash_fault (First profile) image fault flaw is = flawed_refutes profile image (inl (fault, flaw)) is.0

clash_feature : (checks : Checks) (image : List ℕ) (feature : Feature) (block : ℕ) → FeatureBy checks image feature block ⊥ → ResultBy checks image (Unit {0}) → ⊥
clash_feature Quick image feature block flaw is = flaw
clash_feature (First profile) image feature block flaw is = flawed_refutes profile image (inr (feature, (block, flaw))) is.0

fault_by : (checks : Checks) (image : List ℕ) (fault : Fault) (X : Type 0) → FaultBy checks image fault ⊥ → FaultBy checks image fault X
fault_by Quick image fault X flaw = absurd flaw
fault_by (First profile) image fault X flaw = flaw

feature_by : (checks : Checks) (image : List ℕ) (feature : Feature) (block : ℕ) (X : Type 0) → FeatureBy checks image feature block ⊥ → FeatureBy checks image feature block X
feature_by Quick image feature block X flaw = absurd flaw
feature_by (First profile) image feature block X flaw = flaw

-- what a check names stops the command
pub record IsStoppedBy (checks : Checks) (command : Asked) : Type 0 where
  pub lead_is : [] ≡ lead_of command
  pub fault : (image : List ℕ) (fault : Fault) → FaultBy checks image fault ⊥ → StopsAt command image (IsFault command image fault)
  pub feature : (image : List ℕ) (feature : Feature) (block : ℕ) → FeatureBy checks image feature block ⊥ → StopsAt command image (IsFeature command image feature block)

-- nothing stops a command for which no check is asked
no_check : (command : Asked) → [] ≡ lead_of command → IsStoppedBy Quick command
no_check command lead = record { lead_is = lead; fault = λ image fault flaw. absurd flaw; feature = λ image feature block flaw. absurd flaw }

-- what a check names stops a command that has its texts and answers after it, and may name it
after_check : (checks : Checks) (command : Asked) → [] ≡ lead_of command → ((image text : List ℕ) → IsText command image text → ResultBy checks image (Unit {0})) →
    ((image : List ℕ) (answer : Answer) → IsAnswer command image answer → ResultBy checks image (Unit {0})) →
    ((image : List ℕ) (fault : Fault) → FaultBy checks image fault ⊥ → IsFault command image fault) →
    ((image : List ℕ) (feature : Feature) (block : ℕ) → FeatureBy checks image feature block ⊥ → IsFeature command image feature block) → IsStoppedBy checks command
after_check checks command lead text answer fault feature = record {
  lead_is = lead;
  fault = λ image why flaw. record {
    none = no_result command image (λ t is. clash_fault checks image why flaw (text image t is)) (λ a is. clash_fault checks image why flaw (answer image a is));
    there_is = fault image why flaw;
  };
  feature = λ image why block flaw. record {
    none = no_result command image (λ t is. clash_feature checks image why block flaw (text image t is)) (λ a is. clash_feature checks image why block flaw (answer image a is));
    there_is = feature image why block flaw;
  };
}

-- the check before a command on what is handed in
pub first_stops : (command : Asked) → from_of command ≡ HandedIn → IsStoppedBy (checks_of command) command
first_stops (Usage volume) e = after_check (First Plain) (Usage volume) refl (λ image text is. (is.0, tt)) (λ image answer is. (is.0, tt)) (λ image fault flaw. flaw) (λ image feature block flaw. flaw)
first_stops (Export target) e = after_check (First Plain) (Export target) refl (λ image text is. (is.0, tt)) (λ image answer is. (is.0, tt)) (λ image fault flaw. flaw) (λ image feature block flaw. flaw)
first_stops (Gen n) e = absurd Prim.cc
first_stops (Format spec) e = absurd Prim.cc
first_stops (Ls checks target) e =
    after_check checks (Ls checks target) refl (λ image text. passed checks image (ls.IsText target image text)) (λ image answer. passed checks image (ls.IsAnswer target image answer))
    (λ image fault. fault_by checks image fault (ls.IsFault target image fault)) (λ image feature block. feature_by checks image feature block (ls.IsFeature target image feature block))
first_stops (Tree checks target) e =
    after_check checks (Tree checks target) refl (λ image text. passed checks image (tree.IsText target image text)) (λ image answer. passed checks image (tree.IsAnswer target image answer))
    (λ image fault. fault_by checks image fault (tree.IsFault target image fault)) (λ image feature block. feature_by checks image feature block (tree.IsFeature target image feature block))
first_stops (Cat checks target) e =
    after_check checks (Cat checks target) refl (λ image text. passed checks image (cat.IsText target image text)) (λ image answer. passed checks image (cat.IsAnswer target image answer))
    (λ image fault. fault_by checks image fault (cat.IsFault target image fault)) (λ image feature block. feature_by checks image feature block (cat.IsFeature target image feature block))
first_stops (Xattr checks target name) e =
    after_check checks (Xattr checks target name) refl (λ image text. passed checks image (xattr.IsText target name image text)) (λ image answer. passed checks image (xattr.IsAnswer target name image answer))
    (λ image fault. fault_by checks image fault (xattr.IsFault target image fault)) (λ image feature block. feature_by checks image feature block (xattr.IsFeature target image feature block))
first_stops command e = no_check command refl

-- the check that a command is
pub check_stops : (profile : Profile) → IsStoppedBy (First profile) (Check profile)
check_stops profile =
    after_check (First profile) (Check profile) refl (λ image text is. (is.1.right, tt)) (λ image answer is. absurd is) (λ image fault flaw. flaw) (λ image feature block flaw. flaw)

-- a check stopped the command, and nothing was written
pub flaw_ended : {S T : Type 0} (bytes : S → Option (List ℕ)) (faults : S → ℕ) (checks : Checks) (command : Asked) (old new : S) (stopped : Stopped) (contents : Option (List ℕ)) (count : ℕ) → IsStoppedBy checks command →
    ((image : List ℕ) → bytes old ≡ Some image → TellsFlaw checks image stopped) → IsWhileLooking stopped → (◌≡◌ {A = Result T Stopped} (Err stopped) (Err stops.ReadFailed) → Rose (faults old) (faults new)) →
    HasEnded command (looked bytes faults old new) (Err stopped) (record { old = contents; new = contents; old_faults = count; new_faults = count })
flaw_ended bytes faults checks command old new (stops.Faulty why) contents count is tells looking cause =
    ([], (is.lead_is, λ image told. named_of command image why (λ fault. FaultBy checks image fault ⊥) (is.fault image) (tells image told)), wrote_nothing contents)
flaw_ended bytes faults checks command old new (stops.Refused feature block) contents count is tells looking cause =
    ([], (is.lead_is, λ image told. is.feature image feature block (tells image told)), wrote_nothing contents)
flaw_ended bytes faults checks command old new (stops.Answered answer) contents count is tells looking cause = ([], (is.lead_is, λ image told. absurd (tells image told)), wrote_nothing contents)
flaw_ended bytes faults checks command old new stops.ReadFailed contents count is tells looking cause = read_ended command (looked bytes faults old new) contents count (cause refl)
flaw_ended bytes faults checks command old new stops.OutOfMemory contents count is tells looking cause = no_memory_ended command (looked bytes faults old new) contents count
flaw_ended bytes faults checks command old new stopped contents count is tells looking cause = absurd looking

-- what a stop of the check says of the container
pub tells_flaw : (profile : Profile) (image : List ℕ) (stop : Stop Fault) → Tells (container.IsPresent profile image) (container.IsFeature image) stop → TellsFlaw (First profile) image (stopped_at (λ (fault : Fault). fault) stop)
tells_flaw profile image (layer.Found fault) there = there
tells_flaw profile image (layer.Unsupported feature block) there = there
tells_flaw profile image layer.ReadFault there = tt
tells_flaw profile image layer.NoMemory there = tt
